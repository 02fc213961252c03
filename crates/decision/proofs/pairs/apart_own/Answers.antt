-- `pairs::apart_own` meets its contract. Assumes nothing.
use native.Mathlib.Omega.{arith}
use Rattle.decision.proofs.Apart.{whole-start, whole-more, whole_meets, whole-end}
use Rattle.decision.proofs.pairs.apart_own.Goals as goal

pub loop-i-init : goal.loop-i-init
loop-i-init c = let s = c.requires in whole-start _ _ _ s.0.1.linked _ (omega (arith, s.0.1.few, s.1))

pub apart_behind-requires : goal.apart_behind-requires
apart_behind-requires c = let s = c.requires in (s.0, c.loop-i-test.true)

pub returns-then-not-apart_behind : goal.returns-then-not-apart_behind
returns-then-not-apart_behind c = search whole_meets

pub loop-i-smaller : goal.loop-i-smaller
loop-i-smaller c = let f = c.requires.0.1.linked.nexts _ (omega arith) c.loop-i-test.true in omega (arith, f.above, f.below, c.loop-i-test.true)

pub loop-i-preserved : goal.loop-i-preserved
loop-i-preserved c = whole-more _ _ _ c.requires.0.1.linked c.loop-i.invariant c.apart_behind.ensures c.loop-i-test.true c.if-not-apart_behind.false

pub returns : goal.returns
returns c = search whole-end
