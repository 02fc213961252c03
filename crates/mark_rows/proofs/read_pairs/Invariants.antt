-- The bytes that were read fit what is lent.
use Rattle.std.proofs.Common.{length, ◌-◌, ◌≤◌}
use Rattle.mark_rows.proofs.read_pairs.Given as goal

abbrev pub invariant-loop-i : goal.invariant-loop-i
invariant-loop-i l = l.count ≤ length l.into

abbrev pub decreases-loop-i : goal.decreases-loop-i
decreases-loop-i l = length l.line - l.i
