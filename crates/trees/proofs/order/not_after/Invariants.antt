-- What the loop of `trees::order::not_after` keeps.
use Rattle.trees.specs.Listed.{word_at}
use Rattle.trees.proofs.Arranging.{Comparing}
use Rattle.trees.proofs.order.not_after.Given as goal

abbrev pub invariant-loop-e : goal.invariant-loop-e
invariant-loop-e l = Comparing (word_at l.list l.i) (word_at l.list l.j) l.e
