-- `machine::step_byte` meets its contract: one case of `step` for each state of the line. Assumes nothing.
use Rattle.abnf_rules.proofs.MachineLaws.{step-inside, step-comment, step-return, step-ended}
use Rattle.abnf_rules.proofs.machine.step_byte.Goals as goal

pub returns-in-Inside : goal.returns-in-Inside
returns-in-Inside c = search step-inside

pub returns-in-Comment : goal.returns-in-Comment
returns-in-Comment c = search step-comment

pub returns-in-Return : goal.returns-in-Return
returns-in-Return c = search step-return

pub returns-in-Ended : goal.returns-in-Ended
returns-in-Ended c = search step-ended
