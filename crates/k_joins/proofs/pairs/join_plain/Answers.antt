-- `k_joins::pairs::join_plain` meets its contract. Its loop is a `Filling`: each member of xs gives its row. Assumes nothing.
use borrow.Author.Rules.{rules}
use Rattle.k_tuples.proofs.Filling.{fill_more, fill-full, fill_end}
use Rattle.k_joins.proofs.pairs.join_plain.Goals as goal

pub returns-in_err-join_row : goal.returns-in_err-join_row
returns-in_err-join_row c = fill-full c.loop-i.invariant c.loop-i-test.true c.join_row.ensures c.in_err-join_row.was (search rules)

pub loop-i-preserved : goal.loop-i-preserved
loop-i-preserved c = fill_more c.loop-i.invariant c.loop-i-test.true c.join_row.ensures c.in_ok-join_row.was

pub returns : goal.returns
returns c = search fill_end
