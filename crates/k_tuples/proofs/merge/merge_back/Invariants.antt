-- What the loop of `k_tuples::merge::merge_back` keeps.
use Prim.Native.Nat.{◌+◌}
use Rattle.k_tuples.proofs.Merging.{Backing}
use Rattle.k_tuples.proofs.merge.merge_back.Given as goal

abbrev pub invariant-loop-i : goal.invariant-loop-i
invariant-loop-i l = Backing l.initial.dst l.src l.p l.i l.j l.m l.dst

abbrev pub decreases-loop-i : goal.decreases-loop-i
decreases-loop-i l = l.i + l.j
