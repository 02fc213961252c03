-- `machine::step_ended` meets its contract: each `return` is a case of `step`. Assumes nothing.
use Rattle.abnf_rules.proofs.MachineLaws.{ended-blank, ended-fresh, ended-wrong}
use Rattle.abnf_rules.proofs.machine.step_ended.Goals as goal

pub returns-then-is_blank : goal.returns-then-is_blank
returns-then-is_blank c = search ended-blank

pub returns-then-is_whole : goal.returns-then-is_whole
returns-then-is_whole c = search ended-fresh

pub returns : goal.returns
returns c = search ended-wrong
