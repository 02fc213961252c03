-- What the loop of `decision::pass_on` keeps.
use mathlib.Core.Path.{◌≡◌}
use Rattle.decision.specs.Call.{refusals_in, ks_in}
use Rattle.decision.proofs.Marks.{Goes}
use Rattle.decision.proofs.pass_on.Given as goal

abbrev pub invariant-loop-a : goal.invariant-loop-a
invariant-loop-a l = record {
  passes : Goes l.n (refusals_in l.initial.answers) (refusals_in l.answers) l.a;
  ks : ks_in l.answers ≡ ks_in l.initial.answers;
}
