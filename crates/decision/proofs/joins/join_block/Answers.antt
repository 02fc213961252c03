-- `joins::join_block` meets its contract: both are sets of the result. Assumes nothing.
use native.Mathlib.Omega.{arith}
use Rattle.decision.proofs.Joining.{block_room, block-holds}
use Rattle.decision.proofs.joins.join_block.Goals as goal

pub block-x-requires : goal.block-x-requires
block-x-requires c = block_room c.requires.0 _ c.requires.1.0

pub block-y-requires : goal.block-y-requires
block-y-requires c = block_room c.requires.0 _ c.requires.1.1

pub join_into-requires : goal.join_into-requires
join_into-requires c =
    let r = c.requires.0 in
    let x = c.block-x.ensures in
    let y = c.block-y.ensures in
    (rw (x, y) (record { width = r.width; x = _; y = _; some = r.least; short = r.most; store = r.work-store; first = block-holds r _ c.requires.1.0; second = block-holds r _ c.requires.1.1 }), omega arith)

pub returns : goal.returns
returns c = let x = c.block-x.ensures in let y = c.block-y.ensures in rw (x, y) at c.join_into.ensures
