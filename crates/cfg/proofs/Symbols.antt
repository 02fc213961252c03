-- One turn of the loop of `read_symbols`. Assumes nothing.
use Prim.Native.Nat.{ℕ, suc, ◌+◌, ◌-◌, ◌≤◌, ◌<◌}
use native.Mathlib.Numerals.{add-one}
use native.Mathlib.Omega.{arith}
use mathlib.Core.Path.{◌≡◌, refl, ◌∙◌}
use mathlib.Core.List.{List}
use lib.ListN.{length, take, set, length-set}
use lib.Seq.{take-suc-set}
use Rattle.cfg.specs.Reading.{Reading, got, refused}
use Rattle.cfg.specs.Table.{symbol, symbols}

-- a place below an end is a turn that is left
pub left_over : (i e : ℕ) → i < e → e - i ≡ suc (e - (i + 1))
left_over i e h = omega arith

-- what is read from `at` on into the words from i up to e, where the whole is `goal`
pub record Reads (b : List ℕ) (n t : ℕ) (goal : Reading (List ℕ)) (size e : ℕ) (words : List ℕ) (i at : ℕ) : Type 0 where
  pub below : i ≤ e
  pub room : e ≤ size
  pub small : e < 65536
  pub same : length words ≡ size
  pub rest : symbols b n t (e - i) (take i words) at ≡ goal

module _ (b : List ℕ) (n t : ℕ) (goal : Reading (List ℕ)) (size e : ℕ) (words : List ℕ) (i at : ℕ)
    (w : Reads b n t goal size e words i at) (h : i < e) where
  pub symbols-refused : (r : ℕ) → refused r ≡ symbol b n t at → refused r ≡ goal
  unfolding symbols
  symbols-refused r s = rw (← w.rest, left_over i e h, ← s)

  pub symbols-more : (v next : ℕ) → got v next ≡ symbol b n t at → (k : ℕ) → k ≡ i → Reads b n t goal size e (set words k v) (i + 1) next
  unfolding symbols
  symbols-more v next s k z =
      let inside : i < length words = omega (arith, w.same, w.room) in
      rw z
      (record {
        below = omega arith;
        room = w.room;
        small = w.small;
        same = length-set words i v ∙ w.same;
        rest = rw (← w.rest, left_over i e h, ← s, add-one, take-suc-set words i v inside);
      })

module _ (b : List ℕ) (n t count : ℕ) (words : List ℕ) (used at : ℕ) where
  pub symbols-start : used + count ≤ length words → used + count < 65536
      → Reads b n t (symbols b n t count (take used words) at) (length words) (used + count) words used at
  symbols-start room small =
      let all : used + count - used ≡ count = omega arith in
      record { below = omega arith; room = room; small = small; same = refl; rest = rw all }

pub symbols-done : (b : List ℕ) (n t : ℕ) (goal : Reading (List ℕ)) (size e : ℕ) (words : List ℕ) (i at : ℕ)
    → Reads b n t goal size e words i at → e ≤ i → got (take e words) at ≡ goal
unfolding symbols
symbols-done b n t goal size e words i at w h =
    let end : i ≡ e = omega (arith, w.below) in
    let none : e - e ≡ 0 = omega arith in
    rw (end, none) at w.rest
