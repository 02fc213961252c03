-- What the loop of `trees::collect::add_set` keeps.
use Rattle.trees.proofs.Collecting.{Collecting}
use Rattle.trees.proofs.collect.add_set.Given as goal

abbrev pub invariant-loop-i : goal.invariant-loop-i
invariant-loop-i l = Collecting l.n l.production l.set l.initial.list l.list l.m l.i
