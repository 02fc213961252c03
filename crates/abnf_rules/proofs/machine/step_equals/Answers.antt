-- `machine::step_equals` meets its contract: each `return` is a case of `equals`. Assumes nothing.
use Rattle.abnf_rules.proofs.MachineLaws.{equals-break, equals-blank, equals-sign, equals-wrong}
use Rattle.abnf_rules.proofs.machine.step_equals.Goals as goal

pub returns-then-is_break : goal.returns-then-is_break
returns-then-is_break c = search equals-break

pub returns-then-is_blank : goal.returns-then-is_blank
returns-then-is_blank c = search equals-blank

pub returns-then-b-eq61 : goal.returns-then-b-eq61
returns-then-b-eq61 c = search equals-sign

pub returns : goal.returns
returns c = search equals-wrong
