-- `k_tuples::merge::union_count` meets its contract. Its loop is a `Counting`. Assumes nothing.
use native.Mathlib.Omega.{arith}
use borrow.Author.Rules.{rules}
use Rattle.k_tuples.proofs.Merging.{count-start, count-below, count_same, count-above, count-stop, count-end}
use Rattle.k_tuples.proofs.merge.union_count.Goals as goal

pub loop-i-init : goal.loop-i-init
loop-i-init c = search count-start

pub returns-then-n-j : goal.returns-then-n-j
returns-then-n-j c = search count-stop

pub member-x-requires : goal.member-x-requires
member-x-requires c = (search rules, search rules)

pub member-y-requires : goal.member-y-requires
member-y-requires c = (search rules, search rules)

pub loop-i-preserved-in-Less : goal.loop-i-preserved-in-Less
loop-i-preserved-in-Less c = count-below c.loop-i.invariant c.loop-i-test.true (omega (arith, c.if-n-j.false)) c.member-x.ensures c.member-y.ensures c.compare.ensures c.in-Less.is

pub loop-i-preserved-in-Equal : goal.loop-i-preserved-in-Equal
loop-i-preserved-in-Equal c = count_same c.loop-i.invariant c.loop-i-test.true (omega (arith, c.if-n-j.false)) c.member-x.ensures c.member-y.ensures c.compare.ensures c.in-Equal.is

pub loop-i-preserved : goal.loop-i-preserved
loop-i-preserved c = count-above c.loop-i.invariant c.loop-i-test.true (omega (arith, c.if-n-j.false)) c.member-x.ensures c.member-y.ensures c.compare.ensures c.in-Greater.is

pub returns : goal.returns
returns c = search count-end
