-- `grammar::write_numbers` meets its contract. Assumes nothing.
use borrow.Author.Rules.{rules}
use Rattle.abnf.proofs.GrammarLaws.{bytes-start, bytes-one-room, bytes_one, bytes-two-first, bytes-two-room, bytes-two, bytes-end}
use Rattle.abnf.proofs.grammar.write_numbers.Goals as goal
use Rattle.abnf.proofs.grammar.write_numbers.Goals.{then-v-lt128, else-v-lt128}

pub loop-v-init : goal.loop-v-init
loop-v-init c = (search bytes-start, search rules)

pub bounds-out-at : goal.bounds-out-at
bounds-out-at c = search bytes-one-room

pub bounds-out-at-else-v-lt128 : goal.bounds-out-at-else-v-lt128
bounds-out-at-else-v-lt128 c = search bytes-two-first

pub loop-v-preserved : goal.loop-v-preserved
loop-v-preserved c = elim c.if-v-lt128.branch [
  | then-v-lt128 w ↦ rw (w.out-is, w.at-is) (search bytes_one, search rules)
  | else-v-lt128 w ↦ rw (w.out-is, w.at-is) (search bytes-two, search rules)
]

pub bounds-out-at-else-v-lt128-2 : goal.bounds-out-at-else-v-lt128-2
bounds-out-at-else-v-lt128-2 c = search bytes-two-room

pub returns : goal.returns
returns c = search bytes-end
