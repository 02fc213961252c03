-- What the loop of `automaton::measure_all` keeps.
use Rattle.automaton.proofs.Passes.{Measures}
use Rattle.automaton.proofs.measure_all.Given as goal

abbrev pub invariant-loop-k : goal.invariant-loop-k
invariant-loop-k l = Measures l.t l.initial.res l.initial.scratch l.res l.scratch l.sizes l.k
