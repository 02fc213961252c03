-- `exports::too_few` meets its contract. Assumes nothing.
use Rattle.exports.proofs.Telling.{few-none, few-later, few-before}
use Rattle.exports.proofs.too_few.Goals as goal

pub returns-then-refusal-lt1 : goal.returns-then-refusal-lt1
returns-then-refusal-lt1 c = search few-none

pub returns-then-refusal-gt9 : goal.returns-then-refusal-gt9
returns-then-refusal-gt9 c = search few-later

pub returns : goal.returns
returns c = search few-before
