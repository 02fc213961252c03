-- What the loop of `first::right::join_parts` keeps.
use Prim.Native.Nat.{◌-◌}
use lib.ListN.{length}
use Rattle.first.proofs.Walk.{Walking}
use Rattle.first.proofs.right.join_parts.Given as goal

abbrev pub invariant-loop-j : goal.invariant-loop-j
invariant-loop-j l = Walking l.u l.at l.k l.right l.initial.res l.initial.scratch l.j l.res l.scratch

abbrev pub decreases-loop-j : goal.decreases-loop-j
decreases-loop-j l = length l.right - l.j
