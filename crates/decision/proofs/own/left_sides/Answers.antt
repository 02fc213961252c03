-- `own::left_sides` meets its contract. Assumes nothing.
use Rattle.cfg.proofs.Cursor.{head}
use Rattle.decision.proofs.Sides.{sides-start, sides-more, sides-end}
use Rattle.decision.proofs.own.left_sides.Goals as goal

pub loop-i-init : goal.loop-i-init
loop-i-init c = sides-start _ _ c.requires.0

pub span_at-span-requires : goal.span_at-span-requires
span_at-span-requires c = (c.loop-i.invariant.cursor.here, search head)

pub loop-i-preserved : goal.loop-i-preserved
loop-i-preserved c = search sides-more

pub returns : goal.returns
returns c = search sides-end
