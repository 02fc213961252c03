-- What the loop of `first::production::first_productions` keeps.
use Rattle.first.proofs.Products.{Producing}
use Rattle.first.proofs.production.first_productions.Given as goal

abbrev pub invariant-loop-i : goal.invariant-loop-i
invariant-loop-i l = Producing l.u l.k l.words l.initial.res l.initial.scratch l.i l.place l.res l.scratch
