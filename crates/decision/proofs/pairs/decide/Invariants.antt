-- What the loop of `decision::pairs::decide` keeps.
use Rattle.decision.specs.Call.{refusals_in, ks_in}
use Rattle.decision.specs.Steps.{held}
use Rattle.decision.proofs.Apart.{Decides}
use Rattle.decision.proofs.pairs.decide.Given as goal

abbrev pub invariant-loop-a : goal.invariant-loop-a
invariant-loop-a l = Decides l.u l.links (held l.u l.res) l.k l.a (refusals_in l.initial.answers) (ks_in l.initial.answers) (refusals_in l.answers) (ks_in l.answers)
