-- What the loop of `abnf_tables::words::rank_of` keeps.
use Rattle.abnf_tables.proofs.WordLaws.{Ranks}
use Rattle.abnf_tables.proofs.words.rank_of.Given as goal

abbrev pub invariant-loop-g : goal.invariant-loop-g
invariant-loop-g l = Ranks l.text l.from l.places l.count l.g-index
