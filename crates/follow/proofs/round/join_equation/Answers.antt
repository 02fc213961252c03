-- `round::join_equation` meets its contract: the suffix set and the source's set are sets of the result. Assumes nothing.
use Prim.Native.Nat.{◌+◌, ◌<◌}
use native.Mathlib.Omega.{arith}
use Rattle.k_tuples.specs.States.{set_of}
use Rattle.k_tuples.specs.Held.{Holds}
use Rattle.blocks.proofs.Stores.{block_room, block-holds}
use Rattle.first.specs.Steps.{result_sets}
use Rattle.follow.specs.Steps.{follow_at, places_at}
use Rattle.follow.proofs.Standing.{join-from-copy}
use Rattle.follow.proofs.round.join_equation.Goals as goal
use Rattle.follow.proofs.round.join_equation.Goals.{After-block-y, Start}

from_in : (c : Start) → follow_at c.args.u + c.args.source < c.args.u.rsets
from_in c = omega (arith, c.requires.1.place, c.requires.1.from)

-- the two sets
first : (c : After-block-y) → let a = c.args in Holds a.k a.u.w (set_of (result_sets a.u a.res.now) (places_at a.u + a.i)) c.block-x.result.now
first c = rw c.block-x.ensures (block-holds c.requires.0.0.result-store c.requires.1.place)

second : (c : After-block-y) → let a = c.args in Holds a.k a.u.w (set_of (result_sets a.u a.res.now) (follow_at a.u + a.source)) c.block-y.result.now
second c = rw c.block-y.ensures (block-holds c.requires.0.0.result-store (from_in (goal.at.After-block-y c).Start))

pub block-x-requires : goal.block-x-requires
block-x-requires c = block_room c.requires.0.0.result-store c.requires.1.place

pub block-y-requires : goal.block-y-requires
block-y-requires c = block_room c.requires.0.0.result-store (from_in (goal.at.block-y-requires c).Start)

pub join_add-requires : goal.join_add-requires
join_add-requires c =
    let r = c.requires.0.0 in
    let blocks = (goal.at.join_add-requires c).After-block-y in
    (record { width = c.args.u.w; x = _; y = _; some = r.least; short = r.most; store = r.scratch-store; first = first blocks; second = second blocks }, omega (arith, c.requires.1.to, r.work))

pub returns : goal.returns
returns c =
    let a = c.args in
    let blocks = (goal.at.returns c).After-block-y in
    join-from-copy a.u a.k a.i a.source a.target c.requires.0.1 c.requires.1.to (c.join_add.ensures.step a.u.w _ _ c.requires.0.0.scratch-store (first blocks) (second blocks))
