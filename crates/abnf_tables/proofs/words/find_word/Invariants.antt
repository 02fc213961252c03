-- What the loop of `abnf_tables::words::find_word` keeps.
use Rattle.abnf_tables.proofs.WordLaws.{Finds}
use Rattle.abnf_tables.proofs.words.find_word.Given as goal

abbrev pub invariant-loop-k : goal.invariant-loop-k
invariant-loop-k l = Finds l.text l.quoted l.from l.places l.k
