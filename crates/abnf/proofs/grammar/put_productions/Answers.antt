-- `grammar::put_productions` meets its contract. Assumes nothing.
use borrow.Author.Rules.{rules}
use Rattle.abnf.proofs.GrammarLaws.{lefts-start, lefts-room, lefts-more, lefts-end}
use Rattle.abnf.proofs.grammar.put_productions.Goals as goal

pub loop-l-init : goal.loop-l-init
loop-l-init c = (search lefts-start, search rules)

pub put_left-put-requires : goal.put_left-put-requires
put_left-put-requires c = (search rules, c.requires.2 c.loop-l.l, search rules, search lefts-room)

pub loop-l-preserved : goal.loop-l-preserved
loop-l-preserved c = (search lefts-more, search rules)

pub returns : goal.returns
returns c = search lefts-end
