-- `k_tuples::set::find` meets its contract. Its loop is a `Halving`. Assumes nothing.
use Rattle.k_tuples.proofs.Words.{half-start, half-above, half-below}
use Rattle.k_tuples.proofs.set.find.Goals as goal

pub loop-lo-init : goal.loop-lo-init
loop-lo-init c = search half-start

pub loop-lo-preserved-then-lower : goal.loop-lo-preserved-then-lower
loop-lo-preserved-then-lower c = search half-above

pub loop-lo-preserved : goal.loop-lo-preserved
loop-lo-preserved c = search half-below
