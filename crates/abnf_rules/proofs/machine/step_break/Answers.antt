-- `machine::step_break` meets its contract: each `return` is a case of `step`. Assumes nothing.
use Rattle.abnf_rules.proofs.MachineLaws.{comment-on, comment-ends, comment-wrong, return-ends, return-wrong}
use Rattle.abnf_rules.proofs.machine.step_break.Goals as goal

pub returns-then-is_comment_byte : goal.returns-then-is_comment_byte
returns-then-is_comment_byte c = search comment-on

pub returns-then-b-eq13 : goal.returns-then-b-eq13
returns-then-b-eq13 c = search comment-ends

pub returns-then-comment : goal.returns-then-comment
returns-then-comment c = search comment-wrong

pub returns-then-b-eq10 : goal.returns-then-b-eq10
returns-then-b-eq10 c = search return-ends

pub returns : goal.returns
returns c = search return-wrong
