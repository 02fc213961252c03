-- What the loop of `k_joins::pairs::join_each` keeps.
use Rattle.k_tuples.specs.Members.{add_all, joins_of}
use Rattle.k_tuples.specs.Words.{decode}
use Rattle.k_tuples.proofs.Filling.{Filling}
use Rattle.k_joins.proofs.Pairing.{its-join}
use Rattle.k_joins.proofs.pairs.join_each.Given as goal

abbrev pub invariant-loop-i : goal.invariant-loop-i
invariant-loop-i l = Filling (its-join l.k l.x) l.ys l.initial.out (add_all (joins_of l.k l.x (decode l.ys)) (decode l.initial.out)) l.n l.old l.i l.out
