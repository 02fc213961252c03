-- `blocks::unite_into` meets its contract. Assumes nothing.
use native.Mathlib.Omega.{arith}
use Rattle.blocks.proofs.Stores.{block_room, block-holds, block-filled}
use Rattle.blocks.proofs.unite_into.Goals as goal

pub overflow_mul-at : goal.overflow_mul-at
overflow_mul-at c = omega (arith, block_room c.requires.0.store c.requires.1)

pub overflow_add-at : goal.overflow_add-at
overflow_add-at c = omega (arith, block_room c.requires.0.store c.requires.1)

pub offset_bounds-words-at : goal.offset_bounds-words-at
offset_bounds-words-at c = omega (arith, block_room c.requires.0.store c.requires.1)

pub slice_bounds-unite_one-end : goal.slice_bounds-unite_one-end
slice_bounds-unite_one-end c = omega (arith, block_room c.requires.0.store c.requires.1)

pub unite_one-requires : goal.unite_one-requires
unite_one-requires c = let p = c.requires.0 in record { width = p.width; a = _; x = p.x; held = block-holds p.store c.requires.1; one = p.one }

pub returns : goal.returns
returns c =
    let u = c.unite_one in
    record { step = λ w x h g. block-filled h c.args.to c.requires.1 (u.ensures.step w _ x (block-holds h c.requires.1) g) u.auto.set }
