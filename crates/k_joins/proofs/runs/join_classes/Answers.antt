-- `k_joins::runs::join_classes` meets its contract. Its loop is a `Filling` by parts of the first set. Assumes nothing.
use Rattle.k_tuples.proofs.Filling.{fill_end}
use Rattle.k_joins.proofs.Joining.{left-taken, left-full}
use borrow.Author.Rules.{rules}
use Rattle.k_joins.proofs.runs.join_classes.Goals as goal

pub returns-in_err-i : goal.returns-in_err-i
returns-in_err-i c = left-full c.loop-i.invariant.0 c.join_part.ensures.step c.in_err-i.was (search rules)

pub loop-i-preserved : goal.loop-i-preserved
loop-i-preserved c = ((left-taken c.loop-i.invariant.0 c.join_part.ensures.step c.in_ok-i.was).1, c.join_part.ensures.cleared)

pub returns : goal.returns
returns c = search fill_end
