-- What the loop of `abnf::grammar::put_alternatives` keeps.
use Rattle.abnf.proofs.GrammarLaws.{Alternatives}
use mathlib.Core.Path.{◌≡◌}
use lib.ListN.{length}
use Rattle.abnf.proofs.grammar.put_alternatives.Given as goal

abbrev pub invariant-loop-i : goal.invariant-loop-i
invariant-loop-i l = Alternatives l.text l.names l.l l.a l.items l.initial.numbers l.used l.numbers l.at l.count l.i × (length l.numbers ≡ length l.initial.numbers)
