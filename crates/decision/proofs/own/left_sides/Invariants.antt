-- What the loop of `decision::own::left_sides` keeps.
use Rattle.decision.proofs.Sides.{Sides}
use Rattle.decision.proofs.own.left_sides.Given as goal

abbrev pub invariant-loop-i : goal.invariant-loop-i
invariant-loop-i l = Sides l.p l.words l.links l.i l.at
