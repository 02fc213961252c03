-- What the loop of `trees::output::put_edges` keeps.
use Rattle.trees.proofs.Writing.{EdgesPut}
use Rattle.trees.proofs.output.put_edges.Given as goal

abbrev pub invariant-loop-c : goal.invariant-loop-c
invariant-loop-c l = EdgesPut l.list l.queue l.from l.to l.initial.bytes l.at l.bytes l.place l.c
