-- What the loop of `k_joins::runs::run_into` keeps.
use Prim.Native.Nat.{◌-◌}
use Rattle.k_tuples.specs.Members.{add_all}
use Rattle.k_tuples.specs.Words.{decode}
use Rattle.k_joins.specs.Parts.{between, run_of, Blank}
use Rattle.k_tuples.proofs.Filling.{Filling}
use Rattle.k_joins.proofs.Running.{its-run}
use Rattle.k_joins.proofs.runs.run_into.Given as goal

abbrev pub invariant-loop-j : goal.invariant-loop-j
invariant-loop-j l = Filling (its-run l.k (between l.class.from l.class.to l.xs)) l.ds l.initial.out (add_all (run_of l.k (between l.class.from l.class.to l.xs) (decode l.ds)) (decode l.initial.out)) l.n l.old l.j l.out × Blank l.r

abbrev pub decreases-loop-j : goal.decreases-loop-j
decreases-loop-j l = l.n - l.j
