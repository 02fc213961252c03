-- `trees::order::copy` meets its contract. Assumes nothing.
use Rattle.trees.proofs.Arranging.{copy_start, copy_more, copy-end}
use Rattle.trees.proofs.order.copy.Goals as goal

pub loop-i-init : goal.loop-i-init
loop-i-init c = search copy_start

pub loop-i-preserved : goal.loop-i-preserved
loop-i-preserved c = search copy_more

pub returns : goal.returns
returns c = search copy-end
