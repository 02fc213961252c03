-- What the loop of `first::level::run_levels` keeps.
use Rattle.first.proofs.Levels.{Running}
use Rattle.first.proofs.level.run_levels.Given as goal

abbrev pub invariant-loop-i : goal.invariant-loop-i
invariant-loop-i l = Running l.u l.at l.k l.words l.initial.res l.initial.scratch l.i l.rounds l.res l.scratch
