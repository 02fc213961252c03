-- `grammar::put_left` meets its contract. Assumes nothing.
use Rattle.abnf.proofs.GrammarLaws.{left-first, left-last, left-put}
use borrow.Author.Rules.{rules}
use Rattle.abnf.proofs.grammar.put_left.Goals as goal

pub put_alternatives-first-requires : goal.put_alternatives-first-requires
put_alternatives-first-requires c = (search rules, search rules, search left-first)

pub put_empty-last-requires : goal.put_empty-last-requires
put_empty-last-requires c = (search rules, search left-last)

pub returns : goal.returns
returns c = search left-put
