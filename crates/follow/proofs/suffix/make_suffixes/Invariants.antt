-- What the loop of `follow::suffix::make_suffixes` keeps.
use Rattle.follow.proofs.Suffixing.{Suffixing}
use Rattle.follow.proofs.suffix.make_suffixes.Given as goal

abbrev pub invariant-loop-i : goal.invariant-loop-i
invariant-loop-i l = Suffixing l.u l.k l.words l.initial.res l.initial.scratch l.w l.i l.res l.scratch
