-- What the loop of `abnf_tables::words::compare_words` keeps.
use Rattle.abnf_tables.proofs.WordLaws.{Compares}
use Rattle.abnf_tables.specs.Words.{compare_at}
use Rattle.abnf_tables.proofs.words.compare_words.Given as goal

abbrev pub invariant-loop-i : goal.invariant-loop-i
invariant-loop-i l = Compares l.text l.quoted (compare_at l.quoted l.text l.f l.g) l.i l.j
