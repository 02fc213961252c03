-- `grammar::put_right` meets its contract. Assumes nothing.
use borrow.Author.Rules.{rules}
use Rattle.abnf.proofs.GrammarLaws.{rights-start, rights-mark, rights-room, rights-symbol, rights-other, rights-end}
use Rattle.abnf.proofs.grammar.put_right.Goals as goal
use Rattle.abnf.proofs.grammar.put_right.Goals.{then-word-l+else-word-eq1, else-word-l}

pub loop-i-init : goal.loop-i-init
loop-i-init c = (search rights-start, search rules)

pub returns-then-word-eq1 : goal.returns-then-word-eq1
returns-then-word-eq1 c = search rights-mark

pub bounds-numbers-from : goal.bounds-numbers-from
bounds-numbers-from c = search rights-room

pub loop-i-preserved : goal.loop-i-preserved
loop-i-preserved c = elim c.if-word-l.branch [
  | then-word-l+else-word-eq1 w ↦ rw (w.numbers-is, w.at-is) (search rights-symbol, search rules)
  | else-word-l w ↦ rw (w.numbers-is, w.at-is) (search rights-other, search rules)
]

pub returns : goal.returns
returns c = search rights-end
