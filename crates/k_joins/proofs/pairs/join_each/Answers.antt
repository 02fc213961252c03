-- `k_joins::pairs::join_each` meets its contract. Its loop is a `Filling`: each member of ys gives its join with x. Assumes nothing.
use borrow.Author.Rules.{rules}
use Rattle.k_tuples.proofs.Filling.{fill_more, fill-full, fill_end}
use Rattle.k_joins.proofs.pairs.join_each.Goals as goal

pub returns-in_err-add_join : goal.returns-in_err-add_join
returns-in_err-add_join c = fill-full c.loop-i.invariant c.loop-i-test.true c.add_join.ensures c.in_err-add_join.was (search rules)

pub loop-i-preserved : goal.loop-i-preserved
loop-i-preserved c = fill_more c.loop-i.invariant c.loop-i-test.true c.add_join.ensures c.in_ok-add_join.was

pub returns : goal.returns
returns c = search fill_end
