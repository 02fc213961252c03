-- `blocks::unite_block` meets its contract. Assumes nothing.
use Rattle.k_tuples.specs.States.{set_of}
use Rattle.k_tuples.specs.Blocks.{sets_in}
use Rattle.blocks.proofs.Stores.{block_room, block-holds}
use Rattle.blocks.proofs.unite_block.Goals as goal

pub block-requires : goal.block-requires
block-requires c = block_room c.requires.0.second c.requires.1.0

pub unite_into-requires : goal.unite_into-requires
unite_into-requires c =
    let p = c.requires.0 in
    let a = c.args in
    (record { width = p.width; x = set_of (sets_in a.b a.l a.src.now) a.from; store = p.first; one = rw c.block.ensures (block-holds p.second c.requires.1.0) }, c.requires.1.1)

pub returns : goal.returns
returns c = record { step = λ w f g. c.unite_into.ensures.step w (set_of (sets_in c.args.b c.args.l c.args.src.now) c.args.from) f (rw c.block.ensures (block-holds g c.requires.1.0)) }
