-- What the loop of `first::right::part_end` keeps.
use mathlib.Core.Path.{◌≡◌}
use Prim.Native.Nat.{◌+◌, ◌≤◌, ◌<◌}
use lib.ListN.{length, drop}
use Rattle.first.specs.Codes.{run_length, part_length}
use Rattle.first.proofs.right.part_end.Given as goal

abbrev pub invariant-loop-end : goal.invariant-loop-end
invariant-loop-end l = (l.end + run_length (drop l.end l.right) ≡ l.j + part_length (drop l.j l.right)) × (l.j < l.end) × (l.end ≤ length l.right)
