-- `exports::sets::jomankitu_intersection` meets its contract. Assumes nothing.
use Rattle.exports.proofs.Telling.{set-left}
use Rattle.exports.proofs.sets.jomankitu_intersection.Goals as goal

pub returns : goal.returns
returns c = let e = c.intersection.ensures in set-left c.intersection.result c.refusal_number.ensures e.answer e.words
