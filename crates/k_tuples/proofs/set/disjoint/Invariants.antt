-- What the loop of `k_tuples::set::disjoint` keeps.
use Prim.Native.Nat.{◌+◌, ◌-◌}
use Rattle.k_tuples.specs.Members.{none_of}
use Rattle.k_tuples.specs.Words.{decode}
use Rattle.k_tuples.proofs.Merging.{Meeting}
use Rattle.k_tuples.proofs.set.disjoint.Given as goal

abbrev pub invariant-loop-i : goal.invariant-loop-i
invariant-loop-i l = Meeting l.a l.b (none_of (decode l.a) (decode l.b)) l.n l.m l.i l.j

abbrev pub decreases-loop-i : goal.decreases-loop-i
decreases-loop-i l = (l.n - l.i) + (l.m - l.j)
