-- What the loop of `marking::lack::lack_all` keeps.
use Rattle.marking.proofs.Lacking.{Filled}
use Rattle.marking.proofs.lack.lack_all.Given as goal

abbrev pub invariant-loop-a : goal.invariant-loop-a
invariant-loop-a l = Filled l.u l.links l.ks l.res l.marks l.k l.a
