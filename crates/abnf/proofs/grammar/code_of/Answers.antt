-- `grammar::code_of` meets its contract. Assumes nothing.
use Rattle.abnf.proofs.GrammarLaws.{code-even, code-odd}
use Rattle.abnf.proofs.grammar.code_of.Goals as goal

pub returns-then-code-eq0 : goal.returns-then-code-eq0
returns-then-code-eq0 c = search code-even

pub returns : goal.returns
returns c = search code-odd
