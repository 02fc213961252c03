-- `blocks::copy_block` meets its contract. Assumes nothing.
use native.Mathlib.Omega.{arith}
use Rattle.k_tuples.specs.States.{set_of}
use Rattle.k_tuples.specs.Blocks.{sets_in}
use Rattle.blocks.proofs.Stores.{block_room, block_length, block-holds}
use Rattle.blocks.proofs.copy_block.Goals as goal

pub block-requires : goal.block-requires
block-requires c = block_room c.requires.0.second c.requires.1.0

pub copy_into-requires : goal.copy_into-requires
copy_into-requires c =
    let p = c.requires.0 in (
      record { k = p.k; width = p.width; x = set_of (sets_in c.args.b c.args.l c.args.src.now) c.args.from; store = p.first; one = rw c.block.ensures (block-holds p.second c.requires.1.0) },
      (c.requires.1.1, rw (c.block.ensures, block_length p.second c.requires.1.0) (omega arith)),
    )

pub returns : goal.returns
returns c = record { step = λ k w f g. c.copy_into.ensures.step k w (set_of (sets_in c.args.b c.args.l c.args.src.now) c.args.from) f (rw c.block.ensures (block-holds g c.requires.1.0)) }
