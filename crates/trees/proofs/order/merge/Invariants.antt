-- What the loop of `trees::order::merge` keeps.
use Rattle.trees.proofs.Arranging.{Merging}
use Rattle.trees.proofs.order.merge.Given as goal

abbrev pub invariant-loop-at : goal.invariant-loop-at
invariant-loop-at l = Merging l.list l.left l.right l.both l.i l.j l.at
