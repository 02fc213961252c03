-- What the loop of `trees::output::states_size` keeps.
use Rattle.trees.proofs.Writing.{StatesMeasured}
use Rattle.trees.proofs.output.states_size.Given as goal

abbrev pub invariant-loop-s : goal.invariant-loop-s
invariant-loop-s l = StatesMeasured l.list l.n l.m l.queue l.kids l.total l.next l.s
