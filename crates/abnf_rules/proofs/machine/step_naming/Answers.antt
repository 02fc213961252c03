-- `machine::step_naming` meets its contract: each `return` is a case of `inside`. Assumes nothing.
use Rattle.abnf_rules.proofs.MachineLaws.{naming-longer, naming-refused, naming-equals}
use Rattle.abnf_rules.proofs.machine.step_naming.Goals as goal

pub returns-then-is_name_byte : goal.returns-then-is_name_byte
returns-then-is_name_byte c = search naming-longer

pub returns-in_err-define_name : goal.returns-in_err-define_name
returns-in_err-define_name c = search (naming-refused, c.in_err-define_name.was)

pub returns : goal.returns
returns c = search (naming-equals, c.in_ok-define_name.was)
