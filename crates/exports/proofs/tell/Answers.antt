-- `exports::tell` meets its contract. Assumes nothing.
use Rattle.exports.proofs.Telling.{told-few, told-whole}
use Rattle.exports.proofs.tell.Goals as goal

pub returns-then-out-n : goal.returns-then-out-n
returns-then-out-n c = search told-few

pub returns : goal.returns
returns c = search told-whole
