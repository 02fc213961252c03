-- `blocks::take_block` meets its contract. Assumes nothing.
use mathlib.Core.Path.{◌≡◌}
use Prim.Native.Nat.{ℕ}
use Rattle.k_tuples.specs.Sets.{same_set}
use Rattle.k_tuples.specs.States.{set_of}
use Rattle.k_tuples.specs.Blocks.{sets_in, IsStored}
use Rattle.k_tuples.proofs.Held.{holds-set, same-held}
use Rattle.blocks.proofs.Stores.{block_room, block-holds}
use Rattle.blocks.proofs.Taking.{taken-same, taken-copy}
use Rattle.blocks.proofs.take_block.Goals as goal
use Rattle.blocks.proofs.take_block.Goals.{After-same_set-same}

-- what the test says of the sets
told : (c : After-same_set-same) → let a = c.args in
    (k w : ℕ) → IsStored k w a.b a.m a.words.now → IsStored k w a.b a.l a.src.now
    → c.same_set-same.result ≡ same_set (set_of (sets_in a.b a.l a.src.now) a.i) (set_of (sets_in a.b a.m a.words.now) a.i)
told c k w f g =
    same-held (block-holds g c.requires.1.1) (block-holds f c.requires.1.0) (rw (c.block.ensures, c.block-2.ensures) at c.same_set-same.ensures)

pub block-requires : goal.block-requires
block-requires c = block_room c.requires.0.second c.requires.1.1

pub block-requires-2 : goal.block-requires-2
block-requires-2 c = block_room c.requires.0.first c.requires.1.0

pub same_set-same-requires : goal.same_set-same-requires
same_set-same-requires c =
    let p = c.requires in
    (rw c.block.ensures (holds-set (block-holds p.0.second p.1.1)), rw c.block-2.ensures (holds-set (block-holds p.0.first p.1.0)))

pub returns-then-not-same : goal.returns-then-not-same
returns-then-not-same c = taken-copy (told (goal.at.returns-then-not-same c).After-same_set-same) c.copy_block.ensures

pub returns-else-not-same : goal.returns-else-not-same
returns-else-not-same c = taken-same (told (goal.at.returns-else-not-same c).After-same_set-same) c.if-not-same.false
