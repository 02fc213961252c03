-- What the loop of `k_joins::runs::join_class` keeps.
use Prim.Native.Nat.{◌-◌}
use Rattle.k_tuples.specs.Members.{add_all}
use Rattle.k_tuples.specs.Words.{decode}
use Rattle.k_joins.specs.Parts.{between, meets_of, AllBlank}
use Rattle.k_tuples.proofs.Filling.{Filling}
use Rattle.k_joins.proofs.Running.{its-meet}
use Rattle.k_joins.proofs.runs.join_class.Given as goal

abbrev pub invariant-loop-j : goal.invariant-loop-j
invariant-loop-j l = Filling (its-meet l.k (between l.class.from l.class.to l.xs)) l.ys l.initial.out (add_all (meets_of l.k (between l.class.from l.class.to l.xs) (decode l.ys)) (decode l.initial.out)) l.n l.old l.j l.out × AllBlank l.lent

abbrev pub decreases-loop-j : goal.decreases-loop-j
decreases-loop-j l = l.n - l.j
