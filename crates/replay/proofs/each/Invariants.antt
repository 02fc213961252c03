-- The lines are passed one by one, and the closure may be called on each.
use Rattle.std.proofs.Common.{length, ◌-◌}
use denote.Param.Always.{always_mut}
use Rattle.replay.proofs.each.Given as goal

abbrev pub invariant-loop-at : goal.invariant-loop-at
invariant-loop-at g l = always_mut g.F.FnMut l.initial.run → always_mut g.F.FnMut l.run

abbrev pub decreases-loop-at : goal.decreases-loop-at
decreases-loop-at g l = length l.text - l.at
