-- `accept::all_marked` meets its contract: the invariant, `Sees`, says that the answer hangs on the symbols that are left.
-- Assumes nothing.
use Rattle.cfg.proofs.Rounds.{sees-done, terminal-looked, nonterminal-looked, look_fails, look_passes}
use Rattle.cfg.proofs.accept.all_marked.Goals as goal
use Rattle.cfg.proofs.accept.all_marked.Goals.{then-code-eq1, else-code-eq1}

pub returns-then-not-marked : goal.returns-then-not-marked
returns-then-not-marked c =
    let inv = c.loop-code.invariant in
    let here = c.loop-code-test.true in
    elim c.if-code-eq1.branch [
      | then-code-eq1 w ↦ look_fails _ _ _ _ _ inv here _ (terminal-looked _ _ _ _ _ inv here _ w.if-code-eq1.true w.marked-is) c.if-not-marked.true
      | else-code-eq1 w ↦ look_fails _ _ _ _ _ inv here _ (nonterminal-looked _ _ _ _ _ inv here _ w.if-code-eq1.false _ w.from.ensures w.marked-is) c.if-not-marked.true
    ]

pub loop-code-preserved : goal.loop-code-preserved
loop-code-preserved c =
    let inv = c.loop-code.invariant in
    let here = c.loop-code-test.true in
    elim c.if-code-eq1.branch [
      | then-code-eq1 w ↦ look_passes _ _ _ _ _ inv here _ (terminal-looked _ _ _ _ _ inv here _ w.if-code-eq1.true w.marked-is) c.if-not-marked.false
      | else-code-eq1 w ↦ look_passes _ _ _ _ _ inv here _ (nonterminal-looked _ _ _ _ _ inv here _ w.if-code-eq1.false _ w.from.ensures w.marked-is) c.if-not-marked.false
    ]

pub returns : goal.returns
returns c = search sees-done
