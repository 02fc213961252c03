-- `machine::step_quote` meets its contract: each `return` is a case of `inside`. Assumes nothing.
use Rattle.abnf_rules.proofs.MachineLaws.{quote-longer, quote-ends, quote-wrong}
use Rattle.abnf_rules.proofs.machine.step_quote.Goals as goal

pub returns-then-is_literal_byte : goal.returns-then-is_literal_byte
returns-then-is_literal_byte c = search quote-longer

pub returns-then-b-eq34 : goal.returns-then-b-eq34
returns-then-b-eq34 c = search quote-ends

pub returns : goal.returns
returns c = search quote-wrong
