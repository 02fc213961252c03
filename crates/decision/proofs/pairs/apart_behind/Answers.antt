-- `pairs::apart_behind` meets its contract. Assumes nothing.
use native.Mathlib.Omega.{arith}
use Rattle.decision.proofs.Apart.{behind-start, behind_more, behind-meets, behind-end}
use Rattle.decision.proofs.pairs.apart_behind.Goals as goal

pub loop-j-init : goal.loop-j-init
loop-j-init c = behind-start _ _ _ c.requires.0.1.linked _ c.requires.1

pub apart_two-requires : goal.apart_two-requires
apart_two-requires c = let s = c.requires in (s.0.0, (omega (arith, s.0.1.whole, s.1), omega (arith, s.0.1.whole, c.loop-j-test.true)))

pub returns-then-not-apart_two : goal.returns-then-not-apart_two
returns-then-not-apart_two c = search behind-meets

pub loop-j-smaller : goal.loop-j-smaller
loop-j-smaller c = let f = c.requires.0.1.linked.nexts _ (omega arith) c.loop-j-test.true in omega (arith, f.above, f.below, c.loop-j-test.true)

pub loop-j-preserved : goal.loop-j-preserved
loop-j-preserved c = behind_more _ _ _ c.requires.0.1.linked c.loop-j.invariant c.apart_two.ensures c.loop-j-test.true c.if-not-apart_two.false

pub returns : goal.returns
returns c = search behind-end
