-- `first::due::clear_due` meets its contract. The loop's invariant is `Blanking`. Assumes nothing.
use native.Mathlib.Omega.{arith}
use Rattle.first.proofs.Sweeping.{blank-start, blank-end, blank-pass, blank-more}
use Rattle.first.proofs.due.clear_due.Goals as goal
use Rattle.first.proofs.due.clear_due.Goals.{else-due-i, then-due-i}

pub loop-i-init : goal.loop-i-init
loop-i-init c = blank-start c.args.due.now c.requires.0

pub clear_block-requires : goal.clear_block-requires
clear_block-requires c =
    (record { k = c.args.k; width = c.args.u.w; store = c.loop-i.invariant.front.store }, omega (arith, c.requires.1.0, c.loop-i-test.true))

pub loop-i-preserved : goal.loop-i-preserved
loop-i-preserved c = elim c.if-due-i.branch [ then-due-i w ↦ search blank-more | else-due-i w ↦ search blank-pass ]

pub returns : goal.returns
returns c = blank-end c.loop-i.invariant c.loop-i-test.false
