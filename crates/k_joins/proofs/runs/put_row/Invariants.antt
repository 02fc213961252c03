-- What the loop of `k_joins::runs::put_row` keeps.
use Rattle.k_joins.proofs.Running.{Rowing}
use Rattle.k_joins.proofs.runs.put_row.Given as goal

abbrev pub invariant-loop-t : goal.invariant-loop-t
invariant-loop-t l = Rowing l.k l.y l.xs l.initial.r l.n l.class.from l.class.to l.t l.r
