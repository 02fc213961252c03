-- `first::right::run_string` meets its contract. The loop's invariant: the string is that of the first i terminals. Assumes nothing.
use mathlib.Core.Path.{◌≡◌, sym, ap, ◌∙◌, subst}
use mathlib.Core.List.{map}
use Prim.Native.Nat.{ℕ, min}
use native.Mathlib.Omega.{arith}
use lib.ListN.{length, take, length-map, get_or-map}
use Rattle.std.proofs.lemmas.List.{take_min}
use Rattle.k_tuple.specs.Packed.{Pushable, packed, reads, pushed_in}
use Rattle.first.specs.Codes.{half}
use Rattle.first.proofs.Spelling.{eps-string, no-slots, can-push, pushed_more, spelled}
use Rattle.first.proofs.right.run_string.Goals as goal

pub cut-s-requires : goal.cut-s-requires
cut-s-requires c = (eps-string c.args.w c.requires.1.0.0 c.requires.1.0.1 c.eps.ensures, omega arith)

pub loop-i-init : goal.loop-i-init
loop-i-init c =
    c.cut-s.ensures ∙ no-slots c.args.w c.requires.1.0.0 c.requires.1.0.1 c.eps.ensures

pub push-s-requires : goal.push-s-requires
push-s-requires c =
    let l = c.loop-i in
    let run = c.args.run.now in
    let bounds = c.requires.1.0 in
    subst (Pushable l.s) (get_or-map half run l.i 0 ∙ sym c.terminal_of.ensures)
    (can-push c.args.w bounds.0 bounds.1 (map half run) c.requires.1.1.1 l.i (omega (arith, length-map run half, c.loop-i-test.true))
    (omega (arith, c.index.ensures, c.requires.0.1)) l.invariant)

pub loop-i-preserved : goal.loop-i-preserved
loop-i-preserved c =
    let l = c.loop-i in
    let run = c.args.run.now in
    let bounds = c.requires.1.0 in
    c.push-s.ensures
    ∙ ap (λ (x : ℕ). pushed_in x (reads l.s)) (c.terminal_of.ensures ∙ sym (get_or-map half run l.i 0))
    ∙ pushed_more c.args.w bounds.0 bounds.1 (map half run) c.requires.1.1.1 l.i (omega (arith, length-map run half, c.loop-i-test.true)) (omega (arith, c.index.ensures, c.requires.0.1)) l.invariant

pub returns : goal.returns
returns c =
    let l = c.loop-i in
    let ts = map half c.args.run.now in
    let size = length-map c.args.run.now half in
    let all : l.i ≡ min c.args.k (length ts) = omega (arith, size, c.index.ensures) in
    l.invariant
    ∙ ap (packed c.args.w) (spelled c.args.k l.i ts c.requires.0.0 (omega (arith, size, c.requires.1.1.0)) (ap (λ (n : ℕ). take n ts) all ∙ take_min c.args.k ts))
