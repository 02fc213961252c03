-- `machine::step_fresh` meets its contract: each `return` is a case of `fresh`. Assumes nothing.
use Rattle.abnf_rules.proofs.MachineLaws.{fresh-letter, fresh-break, fresh-wrong}
use Rattle.abnf_rules.proofs.machine.step_fresh.Goals as goal

pub returns-then-is_letter : goal.returns-then-is_letter
returns-then-is_letter c = search fresh-letter

pub returns-then-is_break : goal.returns-then-is_break
returns-then-is_break c = search fresh-break

pub returns : goal.returns
returns c = search fresh-wrong
