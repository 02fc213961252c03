-- `machine::step_spaced` meets its contract: each `return` is a case of `spaced`. Assumes nothing.
use Rattle.abnf_rules.proofs.MachineLaws.{spaced-begins, spaced-behind}
use Rattle.abnf_rules.proofs.machine.step_spaced.Goals as goal

pub returns-then-begun : goal.returns-then-begun
returns-then-begun c = search spaced-begins

pub returns : goal.returns
returns c = search spaced-behind
