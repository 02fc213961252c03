-- What the loop of `follow::begin::copy_follow` keeps.
use Rattle.follow.proofs.Starting.{Copying}
use Rattle.follow.proofs.begin.copy_follow.Given as goal

abbrev pub invariant-loop-i : goal.invariant-loop-i
invariant-loop-i l = Copying l.u l.initial.res l.scratch l.i l.res
