-- What the loop of `decision::own::begin` keeps.
use mathlib.Core.Path.{◌≡◌}
use lib.ListN.{replicate}
use Rattle.decision.specs.Call.{refusals_in, ks_in}
use Rattle.decision.proofs.Sides.{Begins}
use Rattle.decision.proofs.own.begin.Given as goal

abbrev pub invariant-loop-a : goal.invariant-loop-a
invariant-loop-a l = record {
  begins : Begins l.links l.p l.n (refusals_in l.answers) l.a;
  ks : ks_in l.answers ≡ replicate 128 0;
}
