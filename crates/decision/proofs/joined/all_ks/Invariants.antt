-- What the loop of `decision::joined::all_ks` keeps.
use Rattle.decision.proofs.Onward.{Looks}
use Rattle.decision.proofs.joined.all_ks.Given as goal

abbrev pub invariant-loop-a : goal.invariant-loop-a
invariant-loop-a l = Looks l.answers l.ks l.a
