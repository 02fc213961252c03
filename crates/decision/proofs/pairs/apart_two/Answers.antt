-- `pairs::apart_two` meets its contract: both are sets of the result. Assumes nothing.
use Rattle.k_tuples.proofs.Held.{holds-set, disjoint-held}
use Rattle.decision.proofs.Apart.{set_room, set_holds}
use Rattle.decision.proofs.pairs.apart_two.Goals as goal

pub block-requires : goal.block-requires
block-requires c = set_room c.requires.0 _ c.requires.1.0

pub block-requires-2 : goal.block-requires-2
block-requires-2 c = set_room c.requires.0 _ c.requires.1.1

pub disjoint-requires : goal.disjoint-requires
disjoint-requires c =
    let x = c.block.ensures in
    let y = c.block-2.ensures in
    (rw x (holds-set (set_holds c.requires.0 _ c.requires.1.0)), rw y (holds-set (set_holds c.requires.0 _ c.requires.1.1)))

pub returns : goal.returns
returns c =
    let x = c.block.ensures in
    let y = c.block-2.ensures in
    disjoint-held (set_holds c.requires.0 _ c.requires.1.0) (set_holds c.requires.0 _ c.requires.1.1) (rw (x, y) at c.disjoint.ensures)
