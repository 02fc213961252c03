-- `k_tuples::set::add_each` meets its contract. Its loop is a `Filling`: each member of src gives itself. Assumes nothing.
use borrow.Author.Rules.{rules}
use Rattle.k_tuples.proofs.Filling.{fill_start, fill_more, fill-full, fill_end}
use Rattle.k_tuples.proofs.set.add_each.Goals as goal

pub loop-i-init : goal.loop-i-init
loop-i-init c = search fill_start

pub add_member-requires : goal.add_member-requires
add_member-requires c = (search rules, (search rules, search rules))

pub returns-in_err-add_member : goal.returns-in_err-add_member
returns-in_err-add_member c = fill-full c.loop-i.invariant c.loop-i-test.true c.add_member.ensures c.in_err-add_member.was (search rules)

pub loop-i-preserved : goal.loop-i-preserved
loop-i-preserved c = fill_more c.loop-i.invariant c.loop-i-test.true c.add_member.ensures c.in_ok-add_member.was

pub returns : goal.returns
returns c = search fill_end
