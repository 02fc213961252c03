-- `lack::lack_of` meets its contract. Assumes nothing.
use Rattle.marking.proofs.Lacking.{leasting-start, leasting-more, leasting-end}
use Rattle.marking.proofs.Looking.{own_block, own-few}
use native.Mathlib.Omega.{arith}
use Rattle.marking.proofs.lack.lack_of.Goals as goal

pub loop-i-init : goal.loop-i-init
loop-i-init c = leasting-start _ _ _ _ _ c.requires.0.fit.linked (omega (arith, c.requires.0.fit.few, c.requires.1))

pub improve-best-requires : goal.improve-best-requires
improve-best-requires c = ((c.requires.0.sets, c.requires.0.room), (own_block c.requires.0 _ c.loop-i-test.true, own-few c.requires.0 _ c.loop-i-test.true))

pub loop-i-smaller : goal.loop-i-smaller
loop-i-smaller c = let f = c.requires.0.fit.linked.nexts _ (omega arith) c.loop-i-test.true in omega (arith, f.above, f.below, c.loop-i-test.true)

pub loop-i-preserved : goal.loop-i-preserved
loop-i-preserved c = leasting-more _ _ _ _ _ c.requires.0.fit.linked c.loop-i.invariant c.loop-i-test.true c.improve-best.ensures

pub returns : goal.returns
returns c = leasting-end _ _ _ _ _ c.loop-i.invariant c.loop-i-test.false
