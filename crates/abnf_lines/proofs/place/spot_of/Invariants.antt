-- Each byte passed begins at most one line, and a line begins no later than the byte.
use Rattle.std.proofs.Common.{◌≤◌, ◌+◌}
use Rattle.abnf_lines.proofs.place.spot_of.Given as goal

abbrev pub invariant-loop-i : goal.invariant-loop-i
invariant-loop-i l = (l.line ≤ l.i + 1) × (l.start ≤ l.i)
