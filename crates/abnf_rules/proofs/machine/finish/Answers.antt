-- `machine::finish` meets its contract: each `return` is a case of `finished`. Assumes nothing.
use Rattle.abnf_rules.proofs.MachineLaws.{finish-inside, finish-ended}
use Rattle.abnf_rules.proofs.machine.finish.Goals as goal

pub returns-in-Ended : goal.returns-in-Ended
returns-in-Ended c = search finish-ended

pub returns-in_default : goal.returns-in_default
returns-in_default c = search finish-inside
