-- What the loop of `abnf::grammar::write_numbers` keeps.
use Rattle.abnf.proofs.GrammarLaws.{Bytes}
use mathlib.Core.Path.{◌≡◌}
use lib.ListN.{length}
use Rattle.abnf.proofs.grammar.write_numbers.Given as goal

abbrev pub invariant-loop-v : goal.invariant-loop-v
invariant-loop-v l = Bytes l.numbers l.initial.out l.from l.out l.at l.v-index × (length l.out ≡ length l.initial.out)
