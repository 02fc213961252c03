-- What the loop of `k_tuples::set::copy_front` keeps.
use Rattle.k_tuples.proofs.Lists.{Copying}
use Rattle.k_tuples.proofs.set.copy_front.Given as goal

abbrev pub invariant-loop-i : goal.invariant-loop-i
invariant-loop-i l = Copying l.src l.initial.dst l.n l.i l.dst
