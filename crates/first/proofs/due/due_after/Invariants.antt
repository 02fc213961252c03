-- What the loop of `first::due::due_after` keeps: the productions to come complete the marks.
use mathlib.Core.Path.{◌≡◌}
use Rattle.cfg.specs.Written.{productions_of}
use Rattle.cfg.specs.Productions.{productions_in}
use Rattle.first.specs.Due.{due_from, due_of}
use Rattle.first.proofs.due.due_after.Given as goal

abbrev pub invariant-loop-q : goal.invariant-loop-q
invariant-loop-q l = due_from l.same (productions_in l.q-iterator) l.due ≡ due_of l.same (productions_of l.fn.u.p l.words)
