-- What the loop of `k_joins::runs::keep_into` keeps.
use Rattle.k_tuples.specs.Members.{add_all}
use Rattle.k_tuples.specs.Words.{decode}
use Rattle.k_tuples.proofs.Filling.{Filling}
use Rattle.k_joins.specs.Parts.{keeps_of}
use Rattle.k_joins.proofs.Running.{if_kept}
use Rattle.k_joins.proofs.runs.keep_into.Given as goal

abbrev pub invariant-loop-i : goal.invariant-loop-i
invariant-loop-i l = Filling (if_kept l.k) l.xs l.initial.out (add_all (keeps_of l.k (decode l.xs)) (decode l.initial.out)) l.n l.old l.i l.out
