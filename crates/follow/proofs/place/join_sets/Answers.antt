-- `place::join_sets` meets its contract: both are sets of the result. Assumes nothing.
use Rattle.k_tuples.specs.States.{set_of}
use Rattle.k_tuples.specs.Held.{Holds}
use Rattle.blocks.proofs.Stores.{block_room, block-holds}
use Rattle.first.specs.Steps.{result_sets}
use Rattle.follow.proofs.place.join_sets.Goals as goal
use Rattle.follow.proofs.place.join_sets.Goals.{After-block-y}

-- the two sets
first : (c : After-block-y) → let a = c.args in Holds a.k a.u.w (set_of (result_sets a.u a.res.now) a.at) c.block-x.result.now
first c = rw c.block-x.ensures (block-holds c.requires.0.result-store c.requires.1.0)

second : (c : After-block-y) → let a = c.args in Holds a.k a.u.w (set_of (result_sets a.u a.res.now) a.from) c.block-y.result.now
second c = rw c.block-y.ensures (block-holds c.requires.0.result-store c.requires.1.1)

pub block-x-requires : goal.block-x-requires
block-x-requires c = block_room c.requires.0.result-store c.requires.1.0

pub block-y-requires : goal.block-y-requires
block-y-requires c = block_room c.requires.0.result-store c.requires.1.1

pub join_into-requires : goal.join_into-requires
join_into-requires c =
    let r = c.requires.0 in
    let blocks = (goal.at.join_into-requires c).After-block-y in
    (record { width = c.args.u.w; x = _; y = _; some = r.least; short = r.most; store = r.scratch-store; first = first blocks; second = second blocks }, r.work)

pub returns : goal.returns
returns c = let blocks = (goal.at.returns c).After-block-y in c.join_into.ensures.step c.args.u.w _ _ c.requires.0.scratch-store (first blocks) (second blocks)
