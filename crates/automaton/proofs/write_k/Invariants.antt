-- What the loop of `automaton::write_k` keeps.
use Prim.Native.Nat.{◌≤◌}
use Rattle.automaton.specs.Steps.{trees_of, KWritten}
use Rattle.automaton.proofs.write_k.Given as goal

abbrev pub invariant-loop-a : goal.invariant-loop-a
invariant-loop-a l = (l.a ≤ l.t.layout.n) × KWritten (trees_of l.t) l.t.layout.n l.k l.a l.t.ks.now l.sizes l.initial.out l.out
