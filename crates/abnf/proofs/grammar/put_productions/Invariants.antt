-- What the loop of `abnf::grammar::put_productions` keeps.
use Rattle.abnf.proofs.GrammarLaws.{Lefts}
use mathlib.Core.Path.{◌≡◌}
use lib.ListN.{length}
use Rattle.abnf.proofs.grammar.put_productions.Given as goal

abbrev pub invariant-loop-l : goal.invariant-loop-l
invariant-loop-l l = Lefts l.text l.names l.items l.lefts l.initial.numbers l.numbers l.at l.count l.l × (length l.numbers ≡ length l.initial.numbers)
