-- What the loop of `k_tuples::set::add_each` keeps.
use Rattle.k_tuples.specs.Members.{add_all}
use Rattle.k_tuples.specs.Words.{decode}
use Rattle.k_tuples.proofs.Filling.{Filling, itself}
use Rattle.k_tuples.proofs.set.add_each.Given as goal

abbrev pub invariant-loop-i : goal.invariant-loop-i
invariant-loop-i l = Filling itself l.src l.initial.dst (add_all (decode l.src) (decode l.initial.dst)) l.i-end l.old l.i l.dst
