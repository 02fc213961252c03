-- What the loop of `k_joins::pairs::join_plain` keeps.
use Rattle.k_tuples.specs.Members.{add_all, pairs_of}
use Rattle.k_tuples.specs.Words.{decode}
use Rattle.k_tuples.proofs.Filling.{Filling}
use Rattle.k_joins.proofs.Pairing.{its-row}
use Rattle.k_joins.proofs.pairs.join_plain.Given as goal

abbrev pub invariant-loop-i : goal.invariant-loop-i
invariant-loop-i l = Filling (its-row l.k (decode l.ys)) l.xs l.initial.out (add_all (pairs_of l.k (decode l.xs) (decode l.ys)) (decode l.initial.out)) l.n l.old l.i l.out
