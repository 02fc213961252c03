-- `machine::step_behind` meets its contract: each `return` is a case of `behind`. Assumes nothing.
use Rattle.abnf_rules.proofs.MachineLaws.{behind-break, behind-blank, behind-slash, behind-close, behind-top, behind-wrong}
use Rattle.abnf_rules.proofs.machine.step_behind.Goals as goal

pub returns-then-is_break : goal.returns-then-is_break
returns-then-is_break c = search behind-break

pub returns-then-is_blank : goal.returns-then-is_blank
returns-then-is_blank c = search behind-blank

pub returns-then-b-eq47 : goal.returns-then-b-eq47
returns-then-b-eq47 c = search behind-slash

pub returns-then-in_group : goal.returns-then-in_group
returns-then-in_group c = search behind-close

pub returns-then-b-eq93 : goal.returns-then-b-eq93
returns-then-b-eq93 c = search behind-top

pub returns : goal.returns
returns c = search behind-wrong
