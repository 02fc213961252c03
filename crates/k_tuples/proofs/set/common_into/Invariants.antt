-- What the loop of `k_tuples::set::common_into` keeps.
use Prim.Native.Nat.{◌+◌, ◌-◌}
use Rattle.k_tuples.specs.Members.{add_all, both_of}
use Rattle.k_tuples.specs.Words.{decode}
use Rattle.k_tuples.proofs.Merging.{Sharing}
use Rattle.k_tuples.proofs.set.common_into.Given as goal

abbrev pub invariant-loop-i : goal.invariant-loop-i
invariant-loop-i l = Sharing l.a l.b l.initial.out (add_all (both_of (decode l.a) (decode l.b)) (decode l.initial.out)) l.n l.m l.old l.i l.j l.out

abbrev pub decreases-loop-i : goal.decreases-loop-i
decreases-loop-i l = (l.n - l.i) + (l.m - l.j)
