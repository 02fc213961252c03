-- What the loop of `cfg::accept::left_recursive` keeps.
use Rattle.cfg.specs.Corners.{comes_back}
use Rattle.cfg.proofs.Search.{Searched}
use Rattle.cfg.specs.Productions.{productions_in}
use Rattle.cfg.proofs.accept.left_recursive.Given as goal

abbrev pub invariant-loop-a : goal.invariant-loop-a
invariant-loop-a l = Searched l.n (comes_back l.nullable (productions_in l.ps) l.n) l.a
