-- What the loop of `decision::some_open` keeps.
use Rattle.decision.specs.Call.{refusals_in}
use Rattle.decision.proofs.Marks.{Looking}
use Rattle.decision.proofs.some_open.Given as goal

abbrev pub invariant-loop-a : goal.invariant-loop-a
invariant-loop-a l = Looking l.n (refusals_in l.answers) l.a
