-- What the loop of `k_joins::runs::join_classes` keeps.
use Prim.Native.Nat.{◌-◌}
use Rattle.k_tuples.specs.Members.{add_all}
use Rattle.k_tuples.specs.Words.{decode}
use Rattle.k_joins.specs.Parts.{lefts_of, AllBlank}
use Rattle.k_tuples.proofs.Filling.{Filling}
use Rattle.k_joins.proofs.Running.{its-left}
use Rattle.k_joins.proofs.runs.join_classes.Given as goal

abbrev pub invariant-loop-i : goal.invariant-loop-i
invariant-loop-i l = Filling (its-left l.k (decode l.ys)) l.xs l.initial.out (add_all (lefts_of l.k (decode l.xs) (decode l.ys)) (decode l.initial.out)) l.n l.old l.i l.out × AllBlank l.lent

abbrev pub decreases-loop-i : goal.decreases-loop-i
decreases-loop-i l = l.n - l.i
