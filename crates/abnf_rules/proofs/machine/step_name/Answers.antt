-- `machine::step_name` meets its contract: each `return` is a case of `inside`. Assumes nothing.
use Rattle.abnf_rules.proofs.MachineLaws.{built-sane, name-longer, name-refused, name-behind}
use Rattle.abnf_rules.proofs.machine.step_name.Goals as goal

pub returns-then-is_name_byte : goal.returns-then-is_name_byte
returns-then-is_name_byte c = search name-longer

pub returns-in_err-use_name : goal.returns-in_err-use_name
returns-in_err-use_name c = search (name-refused, c.in_err-use_name.was)

pub step_behind-requires : goal.step_behind-requires
step_behind-requires c = search (built-sane, c.in_ok-use_name.was)

pub returns : goal.returns
returns c = search (name-behind, c.in_ok-use_name.was)
