-- What the loop of `automaton::measure_k` keeps.
use Rattle.automaton.specs.Steps.{trees_of}
use Rattle.automaton.proofs.Passes.{MeasuresK}
use Rattle.automaton.proofs.measure_k.Given as goal

abbrev pub invariant-loop-a : goal.invariant-loop-a
invariant-loop-a l = MeasuresK (trees_of l.t) l.t.layout.n l.k l.t.ks.now l.initial.sizes l.sizes l.a
