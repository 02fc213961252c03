-- `k_tuples::set::union_sets` meets its contract. Assumes nothing.
use Rattle.k_tuples.proofs.Filling.{copy-room, over-answer, over-words, copied-is-set, copy-answer, copy-words}
use Rattle.k_tuples.proofs.Words.{length-below}
use borrow.Author.Rules.{rules}
use Rattle.k_tuples.proofs.set.union_sets.Goals as goal

pub returns-then-out-count-clause-answer : goal.returns-then-out-count-clause-answer
returns-then-out-count-clause-answer c = search over-answer

pub returns-then-out-count-clause-words : goal.returns-then-out-count-clause-words
returns-then-out-count-clause-words c = search over-words

pub copy_set-requires : goal.copy_set-requires
copy_set-requires c = (search rules, search copy-room)

pub union_into-g-requires : goal.union_into-g-requires
union_into-g-requires c = (search (copied-is-set, length-below), search rules)

pub returns-clause-answer : goal.returns-clause-answer
returns-clause-answer c = search (copy-answer, length-below)

pub returns-clause-words : goal.returns-clause-words
returns-clause-words c = search (copy-words, length-below)
