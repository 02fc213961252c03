-- `machine::step_longer` meets its contract: each `return` is a case of `longer`. Assumes nothing.
use Rattle.abnf_rules.proofs.MachineLaws.{longer-stop, longer-on}
use Rattle.abnf_rules.proofs.machine.step_longer.Goals as goal

pub returns-then-from-most : goal.returns-then-from-most
returns-then-from-most c = search longer-stop

pub returns : goal.returns
returns c = search longer-on
