-- `exports::jomankitu_set_of` meets its contract. Assumes nothing.
use Rattle.exports.proofs.Telling.{part-told}
use Rattle.exports.proofs.jomankitu_set_of.Goals as goal

pub returns : goal.returns
returns c = search part-told
