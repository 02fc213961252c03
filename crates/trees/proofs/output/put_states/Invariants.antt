-- What the loop of `trees::output::put_states` keeps.
use Rattle.trees.proofs.Writing.{StatesPut}
use Rattle.trees.proofs.output.put_states.Given as goal

abbrev pub invariant-loop-s : goal.invariant-loop-s
invariant-loop-s l = StatesPut l.list l.n l.m l.queue l.kids l.initial.bytes l.at l.bytes l.place l.next l.s
