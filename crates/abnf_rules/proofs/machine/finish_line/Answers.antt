-- `machine::finish_line` meets its contract: each `return` is a case of `finished`. Assumes nothing.
use Rattle.abnf_rules.proofs.MachineLaws.{finish-done, finish-none, finish-part}
use Rattle.abnf_rules.proofs.machine.finish_line.Goals as goal

pub returns-then-notes-ge1 : goal.returns-then-notes-ge1
returns-then-notes-ge1 c = search finish-done

pub returns-then-is_whole : goal.returns-then-is_whole
returns-then-is_whole c = search finish-none

pub returns : goal.returns
returns c = search finish-part
