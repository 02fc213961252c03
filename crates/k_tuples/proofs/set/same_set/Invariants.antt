-- What the loop of `k_tuples::set::same_set` keeps.
use Rattle.k_tuples.specs.Members.{same_members}
use Rattle.k_tuples.specs.Words.{decode}
use Rattle.k_tuples.proofs.Walking.{Matching}
use Rattle.k_tuples.proofs.set.same_set.Given as goal

abbrev pub invariant-loop-i : goal.invariant-loop-i
invariant-loop-i l = Matching l.a l.b (same_members (decode l.a) (decode l.b)) l.n l.i
