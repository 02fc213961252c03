-- What the loop of `abnf_tables::tables::count_in_hand` keeps.
use Rattle.abnf_tables.proofs.TableLaws.{Hands}
use Rattle.abnf_tables.proofs.tables.count_in_hand.Given as goal

abbrev pub invariant-loop-word : goal.invariant-loop-word
invariant-loop-word l = Hands l.left l.word-items l.n l.word-index
