-- What the loop of `cfg::accept::some_unproductive` keeps.
use Rattle.cfg.proofs.Search.{Searched}
use Rattle.cfg.specs.Closure.{closure}
use Rattle.cfg.specs.Accept.{misses}
use Rattle.cfg.specs.Productions.{productions_in}
use mathlib.Core.Bool.{true}
use Rattle.cfg.proofs.accept.some_unproductive.Given as goal

abbrev pub invariant-loop-a : goal.invariant-loop-a
invariant-loop-a l = Searched l.n (misses (closure true (productions_in l.ps) l.n)) l.a
