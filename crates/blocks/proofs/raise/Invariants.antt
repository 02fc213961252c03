-- What the loop of `blocks::raise` keeps.
use mathlib.Core.Path.{◌≡◌}
use Prim.Native.Nat.{ℕ, ◌*◌, ◌≤◌}
use lib.ListN.{length, drop}
use Rattle.k_tuples.specs.Blocks.{sets_in, IsStored}
use Rattle.blocks.proofs.Raising.{Raising}
use Rattle.blocks.proofs.raise.Given as goal

abbrev pub invariant-loop-i : goal.invariant-loop-i
invariant-loop-i l = (l.i ≤ l.m) × (length l.words ≡ length l.initial.words) × ((j w : ℕ) → j ≤ l.k → IsStored j w l.b l.m l.initial.words → Raising j l.k w l.b l.i (sets_in l.b l.m l.initial.words) (drop (l.m * l.b) l.initial.words) l.words)
