-- What the loop of `blocks::take_first` keeps.
use Rattle.blocks.proofs.Taking.{Taking}
use Rattle.blocks.proofs.take_first.Given as goal

abbrev pub invariant-loop-i : goal.invariant-loop-i
invariant-loop-i l = Taking l.b l.m l.l l.n l.src l.initial.words l.initial.same l.i l.all l.words l.same
