-- `exports::rules::unlent` meets its contract. Assumes nothing.
use Rattle.exports.proofs.RulesTold.{no_bytes}
use Rattle.exports.proofs.rules.unlent.Goals as goal

pub returns : goal.returns
returns c = search no_bytes
