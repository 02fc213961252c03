-- What the loop of `trees::tree::grow` keeps.
use Rattle.trees.proofs.Walking.{Walking}
use Rattle.trees.proofs.tree.grow.Given as goal

abbrev pub invariant-loop-c : goal.invariant-loop-c
invariant-loop-c l = Walking l.list l.n l.order l.state l.from l.m l.initial.queue l.initial.places l.f l.queue l.places l.end l.c
