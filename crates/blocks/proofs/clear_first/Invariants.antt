-- What the loop of `blocks::clear_first` keeps.
use mathlib.Core.List.{[], ◌++◌}
use Prim.Native.Nat.{ℕ, ◌≤◌}
use lib.ListN.{drop, replicate}
use Rattle.k_tuples.specs.Blocks.{sets_in, IsStored}
use Rattle.blocks.specs.Stores.{Turned}
use Rattle.blocks.proofs.clear_first.Given as goal

abbrev pub invariant-loop-i : goal.invariant-loop-i
invariant-loop-i l = (l.i ≤ l.n) × ((k w : ℕ) → IsStored k w l.b l.m l.initial.words → Turned k w l.b l.m (replicate l.i [] ++ drop l.i (sets_in l.b l.m l.initial.words)) l.initial.words l.words)
