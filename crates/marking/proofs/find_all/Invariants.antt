-- What the loop of `marking::find_all` keeps.
use Rattle.marking.proofs.Finding.{Going}
use Rattle.decision.specs.Steps.{grammar_of}
use Rattle.marking.proofs.find_all.Given as goal

abbrev pub invariant-loop-k : goal.invariant-loop-k
invariant-loop-k l = Going l.c (grammar_of l.table) l.u l.ks l.rows l.k l.f l.initial.res l.initial.scratch l.res l.scratch
