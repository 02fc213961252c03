-- What the loop of `trees::tree::build` keeps.
use Prim.Native.Nat.{◌-◌}
use Rattle.trees.proofs.Building.{Queue}
use Rattle.trees.proofs.tree.build.Given as goal

abbrev pub invariant-loop-s : goal.invariant-loop-s
invariant-loop-s l = Queue l.list l.n l.order l.initial.queue l.initial.kids l.initial.places l.queue l.kids l.places l.s l.m

abbrev pub decreases-loop-s : goal.decreases-loop-s
decreases-loop-s l = 2048 - l.s
