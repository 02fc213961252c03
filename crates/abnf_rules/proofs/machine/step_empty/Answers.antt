-- `machine::step_empty` meets its contract: each `return` is a case of `empty`. Assumes nothing.
use Rattle.abnf_rules.proofs.MachineLaws.{empty-break, empty-blank, empty-wrong}
use Rattle.abnf_rules.proofs.machine.step_empty.Goals as goal

pub returns-then-is_break : goal.returns-then-is_break
returns-then-is_break c = search empty-break

pub returns-then-is_blank : goal.returns-then-is_blank
returns-then-is_blank c = search empty-blank

pub returns : goal.returns
returns c = search empty-wrong
