-- What the loop of `decision::try_all` keeps.
use Prim.Native.Nat.{◌-◌}
use Rattle.decision.specs.Call.{refusals_in, ks_in}
use Rattle.decision.proofs.Answering.{Tries}
use Rattle.decision.proofs.try_all.Given as goal

abbrev pub invariant-loop-k : goal.invariant-loop-k
invariant-loop-k l = Tries l.limit l.c l.table l.u l.links l.initial.res l.initial.scratch (l.k - 1) (refusals_in l.answers) (ks_in l.answers) l.res l.scratch
