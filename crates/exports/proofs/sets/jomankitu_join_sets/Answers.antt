-- `exports::sets::jomankitu_join_sets` meets its contract. Assumes nothing.
use Rattle.exports.proofs.Telling.{set-left}
use Rattle.exports.proofs.sets.jomankitu_join_sets.Goals as goal

pub returns : goal.returns
returns c = let e = c.k_concat.ensures in set-left c.k_concat.result c.refusal_number.ensures e.answer e.words
