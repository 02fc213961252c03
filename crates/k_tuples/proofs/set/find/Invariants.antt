-- What the loop of `k_tuples::set::find` keeps.
use Prim.Native.Nat.{◌-◌}
use Rattle.k_tuples.proofs.Words.{Halving}
use Rattle.k_tuples.proofs.set.find.Given as goal

abbrev pub invariant-loop-lo : goal.invariant-loop-lo
invariant-loop-lo l = Halving l.x l.set l.lo l.hi

abbrev pub decreases-loop-lo : goal.decreases-loop-lo
decreases-loop-lo l = l.hi - l.lo
