-- `blocks::copy_into` meets its contract. Assumes nothing.
use mathlib.Core.Path.{ap, ◌∙◌}
use Prim.Native.Nat.{ℕ}
use native.Mathlib.Omega.{arith}
use Rattle.k_tuples.specs.Held.{set_words}
use Rattle.k_tuples.proofs.Held.{holds-set, holds-count, copied}
use Rattle.k_tuples.proofs.Blocks.{in-sets, put-set}
use Rattle.blocks.proofs.Stores.{block_room, block_length, block-holds, set-turned}
use Rattle.blocks.proofs.copy_into.Goals as goal

pub overflow_mul-at : goal.overflow_mul-at
overflow_mul-at c = omega (arith, block_room c.requires.0.store c.requires.1.0)

pub overflow_add-at : goal.overflow_add-at
overflow_add-at c = omega (arith, block_room c.requires.0.store c.requires.1.0)

pub offset_bounds-words-at : goal.offset_bounds-words-at
offset_bounds-words-at c = omega (arith, block_room c.requires.0.store c.requires.1.0)

pub slice_bounds-replace_set-end : goal.slice_bounds-replace_set-end
slice_bounds-replace_set-end c = omega (arith, block_room c.requires.0.store c.requires.1.0)

pub replace_set-requires : goal.replace_set-requires
replace_set-requires c =
    let p = c.requires.0 in
    let one = p.one in
    (holds-set (block-holds p.store c.requires.1.0), (holds-set one, omega (arith, holds-count one, one.room, c.requires.1.1, block_length p.store c.requires.1.0)))

pub returns : goal.returns
returns c =
    let a = c.args in
    let t = c.replace_set in
    record {
      step = λ k w x h g.
          set-turned a.to x
          (put-set h.stored a.to (in-sets h c.requires.1.0) (copied _ g t.ensures ∙ ap (λ (n : ℕ). set_words k n w x) (block_length h c.requires.1.0))
          (record { room = omega (arith, g.room, c.requires.1.1); counted = g.counted; sorted = g.sorted; fit = g.fit }));
    }
