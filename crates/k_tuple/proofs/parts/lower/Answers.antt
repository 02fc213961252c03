-- `k_tuple::parts::lower` meets its contract. Assumes nothing.
use native.Mathlib.Omega.{arith}
use mathlib.Core.Path.{◌≡◌, ap, ◌∙◌}
use Rattle.std.proofs.Common.{rules}
use Rattle.std.specs.Ordering.{nat_cmp, ordering_then, is_lt}
use Rattle.k_tuple.specs.Packed.{number_of, less_of}
use Rattle.k_tuple.proofs.Ordered.{cmp-lt, words-cmp}
use Rattle.k_tuple.proofs.parts.lower.Goals as goal

pub returns : goal.returns
unfolding less_of
returns c =
    let x = c.args.x in
    let y = c.args.y in
    let less : c.lt.result ≡ is_lt (ordering_then (nat_cmp x.hi y.hi) (nat_cmp x.lo y.lo)) = search rules in
    less ∙ ap is_lt (words-cmp x.lo x.hi y.lo y.hi (omega arith) (omega arith)) ∙ cmp-lt (number_of x) (number_of y)
