-- `begin::copy_follow` meets its contract. The loop's invariant is `Copying`. Assumes nothing.
use native.Mathlib.Omega.{arith}
use Rattle.follow.proofs.Starting.{copying-start, copying-both, copying-more, copying-end}
use Rattle.follow.proofs.begin.copy_follow.Goals as goal

pub loop-i-init : goal.loop-i-init
loop-i-init c = search copying-start

pub copy_block-requires : goal.copy_block-requires
copy_block-requires c = (search copying-both, (omega (arith, c.requires.work), omega (arith, c.requires.room)))

pub loop-i-preserved : goal.loop-i-preserved
loop-i-preserved c = search copying-more

pub returns : goal.returns
returns c = search copying-end
