-- What the loop of `decision::own::link_all` keeps.
use Rattle.cfg.specs.Written.{productions_of}
use Rattle.decision.proofs.Sides.{Linking}
use Rattle.decision.proofs.own.link_all.Given as goal

abbrev pub invariant-loop-i : goal.invariant-loop-i
invariant-loop-i l = Linking (productions_of l.p l.words) l.p l.links l.i
