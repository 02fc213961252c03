-- What the loop of `exports::needed::refusals_in` keeps.
use Rattle.decision.specs.Call.{refusal_in}
use Rattle.exports.proofs.Needing.{Telling}
use Rattle.exports.proofs.needed.refusals_in.Given as goal

abbrev pub invariant-loop-i : goal.invariant-loop-i
invariant-loop-i l = Telling refusal_in l.answers l.numbers l.i
