-- What the loop of `trees::order::count_up` keeps.
use lib.ListN.{length}
use Rattle.trees.proofs.Arranging.{Counting}
use Rattle.trees.proofs.order.count_up.Given as goal

abbrev pub invariant-loop-i : goal.invariant-loop-i
invariant-loop-i l = Counting (length l.initial.order) l.order l.i
