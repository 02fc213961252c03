-- `grammar::number_of` meets its contract. Assumes nothing.
use Rattle.abnf.proofs.GrammarLaws.{number-rank, number-group}
use borrow.Author.Rules.{rules}
use Rattle.abnf.proofs.grammar.number_of.Goals as goal

pub returns-then-left-lt128 : goal.returns-then-left-lt128
returns-then-left-lt128 c = (search number-rank, search rules)

pub returns : goal.returns
returns c = (search number-group, search rules)
