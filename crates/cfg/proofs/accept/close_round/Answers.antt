-- `accept::close_round` meets its contract: the invariant, `Closes`, says that what is left of the round completes it.
-- Assumes nothing.
use Rattle.cfg.proofs.Rounds.{closes-done, closes-mark, closes-pass}
use Rattle.cfg.proofs.accept.close_round.Goals as goal

pub loop-q-preserved-then-is_new : goal.loop-q-preserved-then-is_new
loop-q-preserved-then-is_new c =
    closes-mark _ _ _ _ _ _ c.loop-q.invariant _ _ _ c.in-Some.ensures.steps _ c.from-left.ensures _ c.is_new.ensures c.if-is_new.true

pub loop-q-preserved : goal.loop-q-preserved
loop-q-preserved c =
    closes-pass _ _ _ _ _ _ c.loop-q.invariant _ _ _ c.in-Some.ensures.steps _ c.from-left.ensures _ c.is_new.ensures c.if-is_new.false

pub returns-clause-closes : goal.returns-clause-closes
returns-clause-closes c = closes-done _ _ _ _ _ _ c.loop-q.invariant c.in-None.ensures.steps.0
