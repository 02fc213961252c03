-- What the loop of `k_joins::runs::put_run` keeps.
use Rattle.k_joins.proofs.Running.{Running}
use Rattle.k_joins.proofs.runs.put_run.Given as goal

abbrev pub invariant-loop-f : goal.invariant-loop-f
invariant-loop-f l = Running l.k l.xs l.ds l.initial.r l.class.from l.class.to l.j l.n l.f l.r
