-- `layout_of` meets its contract. Assumes nothing.
use Rattle.engine.proofs.Needed.{sound-128}
use Rattle.decision.proofs.Sizing.{sized-is}
use Rattle.decision.proofs.layout_of.Goals as goal

pub count_occurrences-q-requires : goal.count_occurrences-q-requires
count_occurrences-q-requires c = search sound-128

pub returns : goal.returns
returns c = search sized-is
