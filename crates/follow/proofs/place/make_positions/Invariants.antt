-- What the loop of `follow::place::make_positions` keeps.
use Rattle.follow.proofs.Positioning.{Positioning}
use Rattle.follow.proofs.place.make_positions.Given as goal

abbrev pub invariant-loop-i : goal.invariant-loop-i
invariant-loop-i l = Positioning l.u l.k l.words l.initial.res l.initial.scratch l.w l.i l.res l.scratch
