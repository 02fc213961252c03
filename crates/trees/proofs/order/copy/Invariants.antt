-- What the loop of `trees::order::copy` keeps.
use Rattle.trees.proofs.Arranging.{Copying}
use Rattle.trees.proofs.order.copy.Given as goal

abbrev pub invariant-loop-i : goal.invariant-loop-i
invariant-loop-i l = Copying l.from l.initial.to l.to l.i
