-- What the loop of `follow::round::follow_rounds` keeps.
use Rattle.follow.proofs.Climbing.{Climbing}
use Rattle.follow.proofs.round.follow_rounds.Given as goal

abbrev pub invariant-loop-done : goal.invariant-loop-done
invariant-loop-done l = Climbing l.u l.k l.words l.initial.res l.initial.scratch l.done l.res l.scratch l.due
