-- `machine::then_to` meets its contract. Assumes nothing.
use Rattle.abnf_rules.proofs.MachineLaws.{then_next, then-stop}
use Rattle.abnf_rules.proofs.machine.then_to.Goals as goal

pub returns : goal.returns
returns c = search (then_next, c.in_ok-noted.was)

pub returns-in_err-noted : goal.returns-in_err-noted
returns-in_err-noted c = search (then-stop, c.in_err-noted.was)
