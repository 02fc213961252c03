-- `engine::analysed` meets its contract. Assumes nothing.
use mathlib.Core.Path.{sym, ◌∙◌}
use Rattle.engine.proofs.Wiping.{analysed-done, analysed-not}
use Rattle.engine.proofs.analysed.Goals as goal

pub returns-then-is_err : goal.returns-then-is_err
returns-then-is_err c =
    let answer = c.run_clean-answer in
    analysed-not c.requires.0 c.requires.1 answer.result answer.ensures c.wipe.ensures c.wipe-then-is_err.ensures (sym c.is_err.ensures.value ∙ c.if-is_err.true)

pub returns-else-is_err : goal.returns-else-is_err
returns-else-is_err c =
    let answer = c.run_clean-answer in
    analysed-done c.requires.0 c.requires.1 answer.result answer.ensures c.wipe.ensures (sym c.is_err.ensures.value ∙ c.if-is_err.false)
