-- `look::take_line` meets its contract. Assumes nothing.
use Rattle.marking.proofs.Looking.{own_block, own-few, line-over, line-past, line-foreign, line-tried}
use Rattle.marking.proofs.look.take_line.Goals as goal

pub returns-then-level-k : goal.returns-then-level-k
returns-then-level-k c = line-over _ _ _ c.level.ensures c.if-level-k.true

pub returns-then-u-own : goal.returns-then-u-own
returns-then-u-own c = line-past _ _ _ c.level.ensures c.if-level-k.false c.index-own.ensures c.if-u-own.true

pub returns-then-links-own : goal.returns-then-links-own
returns-then-links-own c = line-foreign _ _ _ c.level.ensures c.if-level-k.false c.index-own.ensures c.index.ensures c.if-links-own.true

pub take_mark-requires : goal.take_mark-requires
take_mark-requires c = ((c.requires.0.sets, c.requires.0.room), (own_block c.requires.0 _ c.if-u-own.false, (own-few c.requires.0 _ c.if-u-own.false, c.requires.1)))

pub returns : goal.returns
returns c = line-tried _ _ _ c.level.ensures c.if-level-k.false c.index-own.ensures c.if-u-own.false c.index.ensures c.if-links-own.false c.take_mark.ensures
