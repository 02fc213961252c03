-- `blocks::is_complete` meets its contract. Assumes nothing.
use native.Mathlib.Omega.{arith}
use Rattle.k_tuples.proofs.Held.{complete-held}
use Rattle.blocks.proofs.Stores.{block_room, block-holds}
use Rattle.blocks.proofs.is_complete.Goals as goal

pub block-requires : goal.block-requires
block-requires c = block_room c.requires.0.store c.requires.1

pub number-requires : goal.number-requires
number-requires c = let h = block-holds c.requires.0.store c.requires.1 in rw c.block.ensures (omega (arith, h.room))

pub returns : goal.returns
returns c = record { step = λ w f. complete-held (block-holds f c.requires.1) (rw c.block.ensures at c.number.ensures) }
