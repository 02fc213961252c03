-- What the loop of `marking::lack::first_free` keeps.
use Rattle.marking.proofs.Lacking.{Seeking}
use Rattle.marking.proofs.lack.first_free.Given as goal

abbrev pub invariant-loop-j : goal.invariant-loop-j
invariant-loop-j l = Seeking l.marks l.i l.n l.j
