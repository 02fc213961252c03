-- `look::check_rows` meets its contract. Assumes nothing.
use Rattle.marking.proofs.Looking.{taking-start, taking-next, checked-bad, checked-all}
use native.Mathlib.Omega.{arith}
use Rattle.marking.proofs.look.check_rows.Goals as goal

pub loop-t-init : goal.loop-t-init
loop-t-init c = taking-start c.requires.0.0 _ _ _ c.requires.0.1

pub take_row-requires : goal.take_row-requires
take_row-requires c = ((c.requires.0.0, c.loop-t.invariant.long), omega (arith, c.requires.1, c.loop-t-test.true))

pub returns-then-not-take_row : goal.returns-then-not-take_row
returns-then-not-take_row c = checked-bad c.requires.0.0 _ _ c.loop-t.invariant c.take_row.ensures c.if-not-take_row.true c.loop-t-test.true

pub loop-t-preserved : goal.loop-t-preserved
loop-t-preserved c = taking-next c.requires.0.0 _ _ c.loop-t.invariant c.take_row.ensures c.if-not-take_row.false

pub returns : goal.returns
returns c = checked-all c.requires.0.0 _ _ c.loop-t.invariant c.loop-t.auto.t-end c.loop-t-test.false
