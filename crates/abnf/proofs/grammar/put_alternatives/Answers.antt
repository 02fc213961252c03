-- `grammar::put_alternatives` meets its contract. Assumes nothing.
use borrow.Author.Rules.{rules}
use Rattle.abnf.proofs.GrammarLaws.{alternatives-start, alternatives-room, alternatives-more, alternatives-symbol, alternatives-other, alternatives-end}
use Rattle.abnf.proofs.grammar.put_alternatives.Goals as goal
use Rattle.abnf.proofs.grammar.put_alternatives.Goals.{then-word-l+then-word-eq1, else-word-l, else-word-l-via-then-word-l+else-word-eq1, else-word-l-via-else-word-l}

pub loop-i-init : goal.loop-i-init
loop-i-init c = (search alternatives-start, search rules)

pub loop-i-preserved : goal.loop-i-preserved
loop-i-preserved c = elim c.if-word-l.branch [
  | then-word-l+then-word-eq1 w ↦ rw (w.numbers-is, w.at-is, w.count-is) (search alternatives-more, search rules)
  | else-word-l w ↦ rw (w.numbers-is, w.at-is, w.count-is) (elim w.else-word-l.branch [
    | else-word-l-via-then-word-l+else-word-eq1 v ↦ (search alternatives-symbol, search rules)
    | else-word-l-via-else-word-l v ↦ (search alternatives-other, search rules)
  ])
]

pub put_production-at-requires : goal.put_production-at-requires
put_production-at-requires c = (search rules, search rules, search alternatives-room)

pub returns : goal.returns
returns c = search alternatives-end
