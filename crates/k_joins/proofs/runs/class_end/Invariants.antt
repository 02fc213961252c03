-- What the loop of `k_joins::runs::class_end` keeps.
use Rattle.k_joins.specs.Parts.{ClassEnd}
use Rattle.k_joins.proofs.runs.class_end.Given as goal

abbrev pub invariant-loop-e : goal.invariant-loop-e
invariant-loop-e l = ClassEnd l.k l.l l.xs l.i l.e
