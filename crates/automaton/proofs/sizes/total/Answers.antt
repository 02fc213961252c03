-- `sizes::total` meets its contract. Assumes nothing.
use Rattle.automaton.proofs.Counting.{sums-start, sums-more, sums-short, sums-end}
use Rattle.automaton.proofs.sizes.total.Goals as goal

pub loop-a-init : goal.loop-a-init
loop-a-init c = search sums-start

pub returns-then-room-at : goal.returns-then-room-at
returns-then-room-at c = search sums-short

pub loop-a-preserved : goal.loop-a-preserved
loop-a-preserved c = search sums-more

pub returns : goal.returns
returns c = search sums-end
