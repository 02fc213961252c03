-- What the loop of `exports::needed::ks_in` keeps.
use Rattle.decision.specs.Call.{k_in}
use Rattle.exports.proofs.Needing.{Telling}
use Rattle.exports.proofs.needed.ks_in.Given as goal

abbrev pub invariant-loop-i : goal.invariant-loop-i
invariant-loop-i l = Telling k_in l.answers l.ks l.i
