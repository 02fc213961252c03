-- What the loop of `follow::round::follow_round` keeps.
use Rattle.follow.proofs.Rounding.{Rounding}
use Rattle.follow.proofs.round.follow_round.Given as goal

abbrev pub invariant-loop-i : goal.invariant-loop-i
invariant-loop-i l = Rounding l.u l.k l.words l.initial.res l.initial.scratch l.w l.i l.added l.res l.scratch l.due
