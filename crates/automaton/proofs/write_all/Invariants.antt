-- What the loop of `automaton::write_all` keeps.
use Rattle.automaton.proofs.Passes.{Writing}
use Rattle.automaton.proofs.write_all.Given as goal

abbrev pub invariant-loop-k : goal.invariant-loop-k
invariant-loop-k l = Writing l.t l.sizes l.initial.out l.initial.res l.initial.scratch l.out l.res l.scratch l.k
