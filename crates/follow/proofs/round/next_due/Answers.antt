-- `round::next_due` meets its contract. The loop's invariant is `Lowering`. Assumes nothing.
use native.Mathlib.Omega.{arith}
use Rattle.follow.proofs.Lowering.{lowering-start, lowering-next, lowering-end}
use Rattle.follow.proofs.round.next_due.Goals as goal

pub loop-a-init : goal.loop-a-init
loop-a-init c = lowering-start _ _ _

pub loop-a-preserved : goal.loop-a-preserved
loop-a-preserved c = lowering-next c.loop-a.invariant c.loop-a-test.true (omega (arith, c.requires.0, c.requires.1)) _ c.saturating_sub.ensures

pub returns : goal.returns
returns c = search lowering-end
