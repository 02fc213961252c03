-- What the loop of `follow::walk::next` keeps.
use lib.ListN.{length}
use Prim.Native.Nat.{◌-◌}
use Rattle.follow.proofs.Seeking.{place, Seeks}
use Rattle.follow.proofs.walk.next.Given as goal

abbrev pub invariant-loop-at : goal.invariant-loop-at
invariant-loop-at l = Seeks l.words (place l.initial.at l.initial.end l.initial.source l.initial.behind) (place l.at l.end l.source l.behind)

abbrev pub decreases-loop-at : goal.decreases-loop-at
decreases-loop-at l = length l.words - l.at
