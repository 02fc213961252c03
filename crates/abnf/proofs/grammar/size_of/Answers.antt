-- `grammar::size_of` meets its contract. Assumes nothing.
use borrow.Author.Rules.{rules}
use Rattle.abnf.proofs.GrammarLaws.{sizes-start, sizes-one, sizes-two, sizes-end}
use Rattle.abnf.proofs.grammar.size_of.Goals as goal
use Rattle.abnf.proofs.grammar.size_of.Goals.{then-v-lt128, else-v-lt128}

pub loop-v-init : goal.loop-v-init
loop-v-init c = search sizes-start

pub loop-v-preserved : goal.loop-v-preserved
loop-v-preserved c = elim c.if-v-lt128.branch [ then-v-lt128 w ↦ rw w.n-is (search sizes-one) | else-v-lt128 w ↦ rw w.n-is (search sizes-two) ]

pub returns : goal.returns
returns c = (search sizes-end, search rules)
