-- `machine::begin` meets its contract: each `return` is a case of `begins`. Assumes nothing.
use Rattle.abnf_rules.proofs.MachineLaws.{begins-name, begins-empty, begins-quote, begins-full, built-sane, begins-group, begins-wrong}
use Rattle.abnf_rules.proofs.machine.begin.Goals as goal

pub returns-then-is_letter : goal.returns-then-is_letter
returns-then-is_letter c = search begins-name

pub returns-then-byte_at-eq34 : goal.returns-then-byte_at-eq34
returns-then-byte_at-eq34 c = search begins-empty

pub returns-then-b-eq34 : goal.returns-then-b-eq34
returns-then-b-eq34 c = search begins-quote

pub returns-in_err-begin_element : goal.returns-in_err-begin_element
returns-in_err-begin_element c = search (begins-full, c.in_err-begin_element.was)

pub open_group-requires : goal.open_group-requires
open_group-requires c = search (built-sane, c.in_ok-begin_element.was)

pub returns-then-b-eq91 : goal.returns-then-b-eq91
returns-then-b-eq91 c = search (begins-group, c.in_ok-begin_element.was)

pub returns : goal.returns
returns c = search begins-wrong
