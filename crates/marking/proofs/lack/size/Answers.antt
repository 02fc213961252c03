-- `lack::size` meets its contract. Assumes nothing.
use native.Mathlib.Omega.{arith}
use Rattle.k_tuples.proofs.Held.{holds-set}
use Rattle.decision.proofs.Apart.{set_room, set_holds}
use mathlib.Core.Path.{sym, ◌∙◌}
use Rattle.marking.proofs.Numbers.{numbers-length}
use Rattle.marking.proofs.lack.size.Goals as goal

pub overflow_mul-at : goal.overflow_mul-at
overflow_mul-at c = omega (arith, set_room c.requires.0 _ c.requires.1)

pub overflow_add-end : goal.overflow_add-end
overflow_add-end c = omega (arith, set_room c.requires.0 _ c.requires.1)

pub offset_bounds-res-at : goal.offset_bounds-res-at
offset_bounds-res-at c = omega (arith, set_room c.requires.0 _ c.requires.1)

pub slice_bounds-count-end : goal.slice_bounds-count-end
slice_bounds-count-end c = omega (arith, set_room c.requires.0 _ c.requires.1)

pub count-requires : goal.count-requires
count-requires c = holds-set (set_holds c.requires.0 _ c.requires.1)

pub returns : goal.returns
returns c = c.count.ensures ∙ sym (numbers-length _)
