-- What the loop of `automaton::sizes::total` keeps.
use Rattle.automaton.proofs.Counting.{Sums}
use Rattle.automaton.proofs.sizes.total.Given as goal

abbrev pub invariant-loop-a : goal.invariant-loop-a
invariant-loop-a l = Sums l.n l.sizes l.room l.at l.a
