-- `blocks::clear_block` meets its contract. Assumes nothing.
use mathlib.Core.List.{[]}
use native.Mathlib.Omega.{arith}
use Rattle.k_tuples.proofs.Held.{holds-set}
use Rattle.k_tuples.proofs.Blocks.{in-sets, put-none}
use Rattle.blocks.proofs.Stores.{block_room, block-holds, set-turned}
use Rattle.blocks.proofs.clear_block.Goals as goal

pub overflow_mul-at : goal.overflow_mul-at
overflow_mul-at c = omega (arith, block_room c.requires.0.store c.requires.1)

pub overflow_add-at : goal.overflow_add-at
overflow_add-at c = omega (arith, block_room c.requires.0.store c.requires.1)

pub offset_bounds-words-at : goal.offset_bounds-words-at
offset_bounds-words-at c = omega (arith, block_room c.requires.0.store c.requires.1)

pub slice_bounds-clear_set-end : goal.slice_bounds-clear_set-end
slice_bounds-clear_set-end c = omega (arith, block_room c.requires.0.store c.requires.1)

pub clear_set-requires : goal.clear_set-requires
clear_set-requires c = holds-set (block-holds c.requires.0.store c.requires.1)

pub returns : goal.returns
returns c = record { step = λ k w h. set-turned c.args.to [] (put-none h.stored c.args.to (in-sets h c.requires.1) c.clear_set.ensures) }
