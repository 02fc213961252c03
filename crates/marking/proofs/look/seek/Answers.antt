-- `look::seek` meets its contract. Assumes nothing.
use native.Mathlib.Omega.{arith}
use Rattle.k_tuples.proofs.Held.{holds-set}
use Rattle.decision.proofs.Apart.{set_room, set_holds}
use Rattle.marking.proofs.look.seek.Goals as goal

pub overflow_mul-at : goal.overflow_mul-at
overflow_mul-at c = omega (arith, set_room c.requires.0 _ c.requires.1)

pub overflow_add-end : goal.overflow_add-end
overflow_add-end c = omega (arith, set_room c.requires.0 _ c.requires.1)

pub offset_bounds-res-at : goal.offset_bounds-res-at
offset_bounds-res-at c = omega (arith, set_room c.requires.0 _ c.requires.1)

pub slice_bounds-seek_in-end : goal.slice_bounds-seek_in-end
slice_bounds-seek_in-end c = omega (arith, set_room c.requires.0 _ c.requires.1)

pub seek_in-requires : goal.seek_in-requires
seek_in-requires c = holds-set (set_holds c.requires.0 _ c.requires.1)
