-- `sizes::place_of` meets its contract. Assumes nothing.
use native.Mathlib.Omega.{arith}
use borrow.Author.Rules.{rules}
use Rattle.std.proofs.Common.{◌≡◌, ◌<◌, ◌∙◌, sum, take}
use Rattle.automaton.proofs.Counting.{sum-taken}
use Rattle.automaton.proofs.sizes.place_of.Goals as goal

pub sum-requires : goal.sum-requires
sum-requires c =
    let e = sum-taken c.args.sizes.now c.args.a (omega arith) in
    let h : sum (take c.args.a c.args.sizes.now) < 18446744073709551616 = omega arith in
    search rules

pub returns : goal.returns
returns c =
    let e = sum-taken c.args.sizes.now c.args.a (omega arith) in
    let h : c.sum.result ≡ sum (take c.args.a c.args.sizes.now) = search rules in
    h ∙ e
