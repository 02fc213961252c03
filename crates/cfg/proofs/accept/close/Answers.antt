-- `accept::close` meets its contract: the invariant, `Repeats`, says that the rounds that are left complete the whole.
-- Assumes nothing.
use mathlib.Core.Path.{sym, ◌∙◌}
use Rattle.cfg.proofs.Rounds.{repeats-more, repeats-still, repeats-done}
use Rattle.cfg.proofs.accept.close.Goals as goal

pub returns-then-not-close_round : goal.returns-then-not-close_round
returns-then-not-close_round c =
    let round = c.close_round.ensures in
    let same = round.still c.if-not-close_round.true in
    same ∙ repeats-still _ _ _ _ _ _ c.loop.invariant (sym round.closes ∙ same)

pub loop-preserved : goal.loop-preserved
loop-preserved c = search repeats-more

pub returns : goal.returns
returns c = search repeats-done
