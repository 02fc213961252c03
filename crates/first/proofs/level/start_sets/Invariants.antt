-- What the loop of `first::level::start_sets` keeps.
use mathlib.Core.List.{[], ◌∷◌, ◌++◌}
use Prim.Native.Nat.{◌≤◌}
use lib.ListN.{drop, replicate}
use Rattle.k_tuple.specs.Strings.{eps}
use Rattle.blocks.specs.Stores.{Turned}
use Rattle.first.specs.Steps.{result_sets}
use Rattle.first.proofs.level.start_sets.Given as goal

abbrev pub invariant-loop-i : goal.invariant-loop-i
invariant-loop-i l = (l.i ≤ l.u.n) × Turned 1 l.u.w l.u.b l.u.rsets (replicate l.i (eps ∷ []) ++ drop l.i (result_sets l.u l.initial.res)) l.initial.res l.res
