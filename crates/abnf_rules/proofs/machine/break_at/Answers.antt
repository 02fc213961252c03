-- `machine::break_at` meets its contract. Assumes nothing.
use Rattle.abnf_rules.proofs.MachineLaws.{break-comment, break-line}
use Rattle.abnf_rules.proofs.machine.break_at.Goals as goal

pub returns-then-b-eq59 : goal.returns-then-b-eq59
returns-then-b-eq59 c = search break-comment

pub returns : goal.returns
returns c = search break-line
