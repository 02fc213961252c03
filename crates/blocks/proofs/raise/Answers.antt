-- `blocks::raise` meets its contract. The loop's invariant: the numbers of the first i sets are those at k. Assumes nothing.
use mathlib.Core.Path.{refl}
use Prim.Native.Nat.{◌+◌, ◌*◌, ◌≤◌, ◌<◌}
use native.Mathlib.Omega.{arith}
use lib.ListN.{length, drop}
use Rattle.k_tuples.specs.Blocks.{sets_in}
use Rattle.k_tuples.proofs.Held.{some-held, as-any}
use Rattle.k_tuples.proofs.Blocks.{in-sets}
use Rattle.blocks.proofs.Raising.{Raising, raise-start, raise-holds, raise-room, raise-more, raise-done}
use borrow.Author.Rules.{rules}
use Rattle.blocks.proofs.raise.Goals as goal
use Rattle.blocks.proofs.raise.Goals.{In-loop-i}

pub loop-i-init : goal.loop-i-init
loop-i-init c = (omega arith, refl, λ j w h s. raise-start h s.stored)

-- a turn, at the k and the width that the call was given
here : (c : In-loop-i) →
    let a = c.args in
    let l = c.loop-i in
    Raising c.requires.j a.k c.requires.width a.b l.i (sets_in a.b a.m a.words.now) (drop (a.m * a.b) a.words.now) l.words
here c = let p = c.requires in c.loop-i.invariant.2 p.j p.width p.low p.store

turn : (c : In-loop-i) → let a = c.args in c.loop-i.i < length (sets_in a.b a.m a.words.now)
turn c = in-sets c.requires.store c.loop-i-test.true

room : (c : In-loop-i) → let a = c.args in let l = c.loop-i in l.i * a.b + a.b ≤ length l.words
room c = raise-room (here c) (turn c)

pub overflow_mul-at : goal.overflow_mul-at
overflow_mul-at c = omega (arith, room (goal.at.overflow_mul-at c).In-loop-i, c.loop-i.invariant.1)

pub overflow_add-at : goal.overflow_add-at
overflow_add-at c = omega (arith, room (goal.at.overflow_add-at c).In-loop-i, c.loop-i.invariant.1)

pub offset_bounds-words-at : goal.offset_bounds-words-at
offset_bounds-words-at c = omega (arith, room (goal.at.offset_bounds-words-at c).In-loop-i, c.loop-i.invariant.1)

pub slice_bounds-renumber-end : goal.slice_bounds-renumber-end
slice_bounds-renumber-end c = omega (arith, room (goal.at.slice_bounds-renumber-end c).In-loop-i, c.loop-i.invariant.1)

pub renumber-requires : goal.renumber-requires
renumber-requires c = some-held (as-any (raise-holds (here (goal.at.renumber-requires c).In-loop-i) (turn (goal.at.renumber-requires c).In-loop-i)))

pub loop-i-preserved : goal.loop-i-preserved
loop-i-preserved c = (
  omega (arith, c.loop-i-test.true),
  search rules,
  λ j w h s. raise-more (c.loop-i.invariant.2 j w h s) (in-sets s c.loop-i-test.true) c.renumber.ensures,
)

pub returns : goal.returns
returns c = record { step = λ j w h s. raise-done (c.loop-i.invariant.2 j w h s) (omega arith) }
