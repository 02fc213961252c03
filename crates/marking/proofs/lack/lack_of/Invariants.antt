-- What the loop of `marking::lack::lack_of` keeps.
use Rattle.marking.proofs.Lacking.{Leasting}
use Prim.Native.Nat.{◌-◌}
use Rattle.marking.proofs.lack.lack_of.Given as goal

abbrev pub invariant-loop-i : goal.invariant-loop-i
invariant-loop-i l = Leasting l.u l.links l.res l.marks l.a l.i l.best

abbrev pub decreases-loop-i : goal.decreases-loop-i
decreases-loop-i l = l.p - l.i
