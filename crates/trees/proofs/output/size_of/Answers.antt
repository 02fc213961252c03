-- `trees::output::size_of` meets its contract. Assumes nothing.
use Rattle.trees.proofs.Writing.{size-one, size-two}
use Rattle.trees.proofs.output.size_of.Goals as goal

pub returns-then-v-lt128 : goal.returns-then-v-lt128
returns-then-v-lt128 c = search size-one

pub returns : goal.returns
returns c = search size-two
