-- What the loop of `decision::joins::join_all` keeps.
use mathlib.Core.Path.{◌≡◌}
use Rattle.decision.specs.Call.{refusals_in, ks_in}
use Rattle.decision.proofs.Joining.{Joins}
use Rattle.decision.proofs.joins.join_all.Given as goal

abbrev pub invariant-loop-i : goal.invariant-loop-i
invariant-loop-i l = record {
  joins : Joins l.u l.links l.k l.i l.initial.res l.initial.work (refusals_in l.initial.answers) l.res l.work (refusals_in l.answers);
  ks : ks_in l.answers ≡ ks_in l.initial.answers;
}
