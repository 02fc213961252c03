-- `blocks::join_add` meets its contract. Assumes nothing.
use mathlib.Core.Path.{subst}
use mathlib.Core.List.{List}
use native.Mathlib.Omega.{arith}
use lib.ListN.{length}
use Rattle.k_tuple.specs.Strings.{Str}
use Rattle.k_tuples.specs.States.{set_of}
use Rattle.k_tuples.specs.Blocks.{sets_in, put_at}
use Rattle.blocks.specs.Stores.{Filled}
use Rattle.blocks.proofs.Stores.{block_room, block-holds, block-filled, add-joins}
use Rattle.blocks.proofs.join_add.Goals as goal

pub overflow_mul-at : goal.overflow_mul-at
overflow_mul-at c = omega (arith, block_room c.requires.0.store c.requires.1)

pub overflow_add-at : goal.overflow_add-at
overflow_add-at c = omega (arith, block_room c.requires.0.store c.requires.1)

pub offset_bounds-words-at : goal.offset_bounds-words-at
offset_bounds-words-at c = omega (arith, block_room c.requires.0.store c.requires.1)

pub slice_bounds-join_more-end : goal.slice_bounds-join_more-end
slice_bounds-join_more-end c = omega (arith, block_room c.requires.0.store c.requires.1)

pub join_more-requires : goal.join_more-requires
join_more-requires c =
    let p = c.requires.0 in
    record { width = p.width; a = _; x = p.x; y = p.y; some = p.some; short = p.short; held = block-holds p.store c.requires.1; first = p.first; second = p.second }

pub returns : goal.returns
returns c =
    let a = c.args in
    let j = c.join_more in
    let old = set_of (sets_in a.b a.m a.words.now) a.out in
    record {
      step = λ w x y h f g.
          let here = block-holds h c.requires.1 in
          subst (λ (new : List Str). Filled a.k w a.b a.m a.out (length old) new j.result a.words.now (put_at a.b a.out j.new.set a.words.now))
          (add-joins a.k old x y here.sorted)
          (block-filled h a.out c.requires.1 (j.ensures.step w old x y here f g) j.auto.set);
    }
