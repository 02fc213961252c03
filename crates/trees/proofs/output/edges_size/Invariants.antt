-- What the loop of `trees::output::edges_size` keeps.
use Rattle.trees.proofs.Writing.{EdgesMeasured}
use Rattle.trees.proofs.output.edges_size.Given as goal

abbrev pub invariant-loop-c : goal.invariant-loop-c
invariant-loop-c l = EdgesMeasured l.list l.queue l.from l.to l.total l.c
