-- What the loop of `abnf::grammar::size_of` keeps.
use Rattle.abnf.proofs.GrammarLaws.{Sizes}
use Rattle.abnf.proofs.grammar.size_of.Given as goal

abbrev pub invariant-loop-v : goal.invariant-loop-v
invariant-loop-v l = Sizes l.numbers l.n l.v-index
