-- What the loop of `abnf::grammar::first_missing` keeps.
use Rattle.abnf.proofs.GrammarLaws.{Misses}
use lib.ListN.{take}
use Rattle.abnf.proofs.grammar.first_missing.Given as goal

abbrev pub invariant-loop-k : goal.invariant-loop-k
invariant-loop-k l = Misses (take l.count l.lefts) l.names l.k
