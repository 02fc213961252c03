-- `k_tuples::merge::merge_back` meets its contract. Its loop is a `Backing`. Assumes nothing.
use native.Mathlib.Omega.{arith}
use borrow.Author.Rules.{rules}
use Rattle.k_tuples.proofs.Merging.{back_start, back_below, back-same, back_above, back-stop, front-room, back_end}
use Rattle.k_tuples.proofs.merge.merge_back.Goals as goal

pub loop-i-init : goal.loop-i-init
loop-i-init c = search back_start

pub returns-then-m-i : goal.returns-then-m-i
returns-then-m-i c = search back-stop

pub loop-i-preserved-in-Less : goal.loop-i-preserved-in-Less
loop-i-preserved-in-Less c = back_below c.loop-i.invariant c.loop-i-test.true (omega (arith, c.if-m-i.false)) c.read-x.ensures c.read-y.ensures c.compare.ensures c.in-Less.is c.put.ensures

pub loop-i-preserved-in-Equal : goal.loop-i-preserved-in-Equal
loop-i-preserved-in-Equal c = back-same c.loop-i.invariant c.loop-i-test.true (omega (arith, c.if-m-i.false)) c.read-x.ensures c.read-y.ensures c.compare.ensures c.in-Equal.is c.put-in-Equal.ensures

pub loop-i-preserved : goal.loop-i-preserved
loop-i-preserved c = back_above c.loop-i.invariant c.loop-i-test.true (omega (arith, c.if-m-i.false)) c.read-x.ensures c.read-y.ensures c.compare.ensures c.in-Greater.is c.put-in-Greater.ensures

pub put_first-requires : goal.put_first-requires
put_first-requires c = ((search rules, search rules), (search rules, search front-room))

pub returns : goal.returns
returns c = search back_end
