-- What the loop of `k_tuple::well::cut` keeps.
use Prim.Native.Nat.{◌*◌, ◌%◌, ◌^◌, ◌≤◌}
use mathlib.Core.Path.{◌≡◌}
use Rattle.k_tuple.specs.Wide.{value}
use Rattle.k_tuple.proofs.well.cut.Given as goal

abbrev pub invariant-loop-l : goal.invariant-loop-l
invariant-loop-l l = (l.k ≤ l.l) × ((l.l ≤ l.n) × (value l.s.lo l.s.hi ≡ value l.initial.s.lo l.initial.s.hi % 2 ^ (l.l * l.w)))
