-- What the loop of `abnf_tables::tables::holder_of` keeps.
use Rattle.abnf_tables.proofs.TableLaws.{Holds}
use Rattle.abnf_tables.proofs.tables.holder_of.Given as goal

abbrev pub invariant-loop-word : goal.invariant-loop-word
invariant-loop-word l = Holds l.code l.word-items l.word-index
