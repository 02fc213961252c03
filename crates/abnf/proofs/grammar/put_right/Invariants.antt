-- What the loop of `abnf::grammar::put_right` keeps.
use Rattle.abnf.proofs.GrammarLaws.{Rights}
use mathlib.Core.Path.{◌≡◌}
use lib.ListN.{length}
use Rattle.abnf.proofs.grammar.put_right.Given as goal

abbrev pub invariant-loop-i : goal.invariant-loop-i
invariant-loop-i l = Rights l.text l.names l.l l.items l.initial.numbers l.from l.used l.numbers l.at l.i × (length l.numbers ≡ length l.initial.numbers)
