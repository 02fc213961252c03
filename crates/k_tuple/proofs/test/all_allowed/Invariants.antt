-- What the loop of `k_tuple::test::all_allowed` keeps.
use Prim.Native.Nat.{◌^◌, ◌<◌}
use mathlib.Core.Path.{◌≡◌}
use Rattle.k_tuple.specs.Wide.{value}
use Rattle.k_tuple.specs.Strings.{digits, allowed}
use Rattle.k_tuple.proofs.test.all_allowed.Given as goal

abbrev pub invariant-loop-left : goal.invariant-loop-left
invariant-loop-left l = (l.rest.lo < 2 ^ 64) × (allowed l.w (digits l.w l.left (value l.rest.lo l.rest.hi)) ≡ allowed l.w (digits l.w l.l (value l.initial.rest.lo l.initial.rest.hi)))
