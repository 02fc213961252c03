-- What the loop of `first::level::first_level` keeps.
use mathlib.Core.Path.{◌≡◌}
use lib.ListN.{length}
use Rattle.first.specs.Due.{Known}
use Rattle.first.proofs.Levels.{Climbing}
use Rattle.first.proofs.level.first_level.Given as goal

abbrev pub invariant-loop-done : goal.invariant-loop-done
invariant-loop-done l = Climbing l.u l.at l.k l.words l.initial.res l.initial.scratch l.done l.res l.scratch × (Known l.u l.k l.words l.due l.res l.scratch × (length l.same ≡ 128))
