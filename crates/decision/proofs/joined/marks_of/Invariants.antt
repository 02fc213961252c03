-- What the loop of `decision::joined::marks_of` keeps.
use Rattle.decision.specs.Call.{refusals_in}
use Rattle.decision.proofs.Onward.{Marks}
use Rattle.decision.proofs.joined.marks_of.Given as goal

abbrev pub invariant-loop-a : goal.invariant-loop-a
invariant-loop-a l = Marks l.n l.k l.ks (refusals_in l.marks) l.a
