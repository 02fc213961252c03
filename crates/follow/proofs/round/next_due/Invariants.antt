-- What the loop of `follow::round::next_due` keeps.
use Rattle.follow.proofs.Lowering.{Lowering}
use Rattle.follow.proofs.round.next_due.Given as goal

abbrev pub invariant-loop-a : goal.invariant-loop-a
invariant-loop-a l = Lowering l.n l.q l.initial.due l.due l.a
