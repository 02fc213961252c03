-- What the loop of `k_tuples::set::unfinished` keeps.
use Prim.Native.Nat.{◌-◌}
use Rattle.k_tuples.proofs.Walking.{Tallying}
use Rattle.k_tuples.proofs.set.unfinished.Given as goal

abbrev pub invariant-loop-i : goal.invariant-loop-i
invariant-loop-i l = Tallying l.k l.set l.n l.open l.i

abbrev pub decreases-loop-i : goal.decreases-loop-i
decreases-loop-i l = l.n - l.i
