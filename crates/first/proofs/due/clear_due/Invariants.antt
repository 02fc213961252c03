-- What the loop of `first::due::clear_due` keeps.
use Rattle.first.proofs.Sweeping.{Blanking}
use Rattle.first.proofs.due.clear_due.Given as goal

abbrev pub invariant-loop-i : goal.invariant-loop-i
invariant-loop-i l = Blanking l.u l.k l.due l.initial.scratch l.i l.scratch
