-- `machine::step_wanted` meets its contract: each `return` is a case of `wanted`. Assumes nothing.
use Rattle.abnf_rules.proofs.MachineLaws.{wanted-break, wanted-blank, wanted-begins}
use Rattle.abnf_rules.proofs.machine.step_wanted.Goals as goal

pub returns-then-is_break : goal.returns-then-is_break
returns-then-is_break c = search wanted-break

pub returns-then-is_blank : goal.returns-then-is_blank
returns-then-is_blank c = search wanted-blank

pub returns : goal.returns
returns c = search wanted-begins
