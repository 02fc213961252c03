-- `k_tuples::set::copy_front` meets its contract. Its loop is a `Copying`. Assumes nothing.
use Rattle.k_tuples.proofs.Lists.{copy_start, copy_more, copy-end}
use Rattle.k_tuples.proofs.set.copy_front.Goals as goal

pub loop-i-init : goal.loop-i-init
loop-i-init c = search copy_start

pub loop-i-preserved : goal.loop-i-preserved
loop-i-preserved c = search copy_more

pub returns : goal.returns
returns c = search copy-end
