-- What the loop of `cfg::accept::close_round` keeps.
use Rattle.cfg.proofs.Rounds.{Closes}
use Rattle.cfg.specs.Closure.{close_round}
use Rattle.cfg.specs.Productions.{productions_in}
use Rattle.cfg.proofs.accept.close_round.Given as goal

abbrev pub invariant-loop-q : goal.invariant-loop-q
invariant-loop-q l = Closes l.free (close_round l.free (productions_in l.ps) l.initial.marks) l.initial.marks (productions_in l.q-iterator) l.marks l.grew
