-- `trees::list::letter` meets its contract. Assumes nothing.
use Rattle.trees.proofs.Reading.{string-well, letter-past, letter-place, letter-in}
use Rattle.trees.proofs.list.letter.Goals as goal

pub returns-then-l-e : goal.returns-then-l-e
returns-then-l-e c = search letter-past

pub slot-requires : goal.slot-requires
slot-requires c = (search string-well, search letter-place)

pub returns : goal.returns
returns c = search letter-in
