-- `order::sort` calls itself on the two halves of the list: the measure is the list's length.
use Rattle.std.proofs.Common.{length}
use Rattle.trees.proofs.order.+sort.Given as goal

abbrev pub decreases-sort : goal.decreases-sort
decreases-sort l = length l.order.now
