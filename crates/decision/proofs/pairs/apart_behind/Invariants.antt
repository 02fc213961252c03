-- What the loop of `decision::pairs::apart_behind` keeps.
use Prim.Native.Nat.{◌-◌}
use Rattle.decision.specs.Steps.{held}
use Rattle.decision.proofs.Apart.{Behind}
use Rattle.decision.proofs.pairs.apart_behind.Given as goal

abbrev pub invariant-loop-j : goal.invariant-loop-j
invariant-loop-j l = Behind l.u l.links (held l.u l.res) l.i l.j

abbrev pub decreases-loop-j : goal.decreases-loop-j
decreases-loop-j l = l.p - l.j
