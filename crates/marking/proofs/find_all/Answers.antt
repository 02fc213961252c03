-- `find_all` meets its contract. Assumes nothing.
use Rattle.marking.proofs.Finding.{going_start, going_more, going_end, going-given}
use native.Mathlib.Omega.{arith}
use Rattle.marking.proofs.find_all.Goals as goal

pub loop-k-init : goal.loop-k-init
loop-k-init c = going_start c.requires.1

pub turn-f-requires : goal.turn-f-requires
turn-f-requires c = (((((going-given c.requires.0.0 c.loop-k.invariant), omega (arith, c.loop-k-test.true)), c.requires.0.1), c.loop-k.invariant.before), (c.loop-k.invariant.found.below, c.loop-k.invariant.found.few))

pub loop-k-preserved : goal.loop-k-preserved
loop-k-preserved c = going_more c.loop-k.invariant c.loop-k-test.true c.turn-f.ensures c.turn-f.auto.res c.turn-f.auto.scratch

pub shape_of-res : goal.shape_of-res
shape_of-res c = c.loop-k.invariant.long.0

pub shape_of-scratch : goal.shape_of-scratch
shape_of-scratch c = c.loop-k.invariant.long.1

pub returns : goal.returns
returns c = going_end c.loop-k.invariant c.loop-k-test.false
