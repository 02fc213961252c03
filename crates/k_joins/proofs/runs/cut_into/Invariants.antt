-- What the loop of `k_joins::runs::cut_into` keeps.
use Rattle.k_joins.proofs.Running.{Gathering, its-cut}
use Rattle.k_joins.proofs.runs.cut_into.Given as goal

abbrev pub invariant-loop-t : goal.invariant-loop-t
invariant-loop-t l = Gathering (its-cut l.r) l.ys l.j l.e l.t l.d
