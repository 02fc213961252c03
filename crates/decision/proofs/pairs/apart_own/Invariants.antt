-- What the loop of `decision::pairs::apart_own` keeps.
use Prim.Native.Nat.{◌-◌}
use Rattle.decision.specs.Steps.{held}
use Rattle.decision.proofs.Apart.{Whole}
use Rattle.decision.proofs.pairs.apart_own.Given as goal

abbrev pub invariant-loop-i : goal.invariant-loop-i
invariant-loop-i l = Whole l.u l.links (held l.u l.res) l.a l.i

abbrev pub decreases-loop-i : goal.decreases-loop-i
decreases-loop-i l = l.p - l.i
