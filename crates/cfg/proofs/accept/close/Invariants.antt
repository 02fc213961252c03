-- What the loop of `cfg::accept::close` keeps.
use Rattle.cfg.proofs.Rounds.{Repeats}
use Rattle.cfg.specs.Closure.{closure}
use Rattle.cfg.specs.Productions.{productions_in}
use Rattle.cfg.proofs.accept.close.Given as goal

abbrev pub invariant-loop : goal.invariant-loop
invariant-loop l = Repeats l.free (productions_in l.ps) l.n (closure l.free (productions_in l.ps) l.n) l.closed l.counter
