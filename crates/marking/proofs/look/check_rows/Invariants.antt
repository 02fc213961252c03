-- What the loop of `marking::look::check_rows` keeps.
use Rattle.marking.proofs.Looking.{Taking}
use Rattle.marking.proofs.look.check_rows.Given as goal

abbrev pub invariant-loop-t : goal.invariant-loop-t
invariant-loop-t l = Taking l.u l.links l.ks l.res l.k l.rows l.marks l.t
