-- `exports::rules::jomankitu_terminal_part` meets its contract. Assumes nothing.
use Rattle.exports.proofs.RulesTold.{no-terminal, text-part-told}
use Rattle.exports.proofs.rules.jomankitu_terminal_part.Goals as goal

pub returns-then-number-gt65535 : goal.returns-then-number-gt65535
returns-then-number-gt65535 c = search no-terminal

pub returns : goal.returns
returns c = search text-part-told
