-- What the loop of `k_tuples::merge::union_count` keeps.
use Prim.Native.Nat.{◌+◌, ◌-◌}
use Rattle.k_tuples.proofs.Merging.{Counting}
use Rattle.k_tuples.proofs.merge.union_count.Given as goal

abbrev pub invariant-loop-i : goal.invariant-loop-i
invariant-loop-i l = Counting l.dst l.src l.old l.n l.i l.j l.new

abbrev pub decreases-loop-i : goal.decreases-loop-i
decreases-loop-i l = (l.old - l.i) + (l.n - l.j)
