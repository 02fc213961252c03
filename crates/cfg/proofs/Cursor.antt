-- Going from one production to the next in words that are sound. Assumes nothing.
use Prim.Native.Nat.{ℕ, ◌+◌, ◌-◌, ◌/◌, ◌%◌, ◌≤◌, ◌<◌}
use native.Mathlib.Nat.{add-zero}
use native.Mathlib.Numerals.{add-one}
use native.Mathlib.Omega.{arith}
use mathlib.Core.Path.{◌≡◌, sym, ap, ◌∙◌}
use mathlib.Core.List.{List, [], ◌∷◌, map}
use lib.ListN.{length, get_or, take, drop}
use lib.Seq.{get_or-drop, drop-drop, drop-cons, drop-length}
use borrow.Author.Tests.{eq-eqb, ne_eqb}
use Rattle.cfg.proofs.Symbols.{left_over}
use Rattle.cfg.specs.declared.table.Span.{Span}
use Rattle.cfg.specs.Grammar.{Sym, nonterminal, terminal}
use Rattle.cfg.specs.Written.{productions_of, symbol_of}
use Rattle.cfg.specs.Words.{Sound, SoundHead, SpanAt, Below}

-- i of p productions are passed, and the next begins at `at`
pub record Cursor (n p : ℕ) (ws : List ℕ) (i at : ℕ) : Type 0 where
  pub below : i ≤ p
  pub here : at ≤ length ws
  pub sound : Sound n (p - i) (drop at ws)

pub cursor-start : (n p : ℕ) (ws : List ℕ) → Sound n p ws → Cursor n p ws 0 0
cursor-start n p ws s =
    let all : p - 0 ≡ p = omega arith in
    record { below = omega arith; here = omega arith; sound = rw all s }

module _ (n p : ℕ) (ws : List ℕ) (i at : ℕ) (cursor : Cursor n p ws i at) (h : i < p) where
  -- the productions that are left: this one, and those behind it
  both : SoundHead n (drop at ws) × Sound n (p - (i + 1)) (drop (2 + get_or (drop at ws) 1 0) (drop at ws))
  both = rw (left_over i p h) at cursor.sound

  pub head : SoundHead n (drop at ws)
  head = both.0

  module _ (span : Span) (s : SpanAt ws at span) where
    behind : drop (2 + get_or (drop at ws) 1 0) (drop at ws) ≡ drop span.to ws
    behind =
        let end : at + (2 + get_or (drop at ws) 1 0) ≡ span.to = omega (arith, s.to, get_or-drop at ws 1 0) in
        drop-drop _ at ws ∙ ap (λ (k : ℕ). drop k ws) end

    -- the words of its symbols
    symbol-words : take (get_or (drop at ws) 1 0) (drop 2 (drop at ws)) ≡ take (span.to - span.from) (drop span.from ws)
    symbol-words =
        let size : span.to - span.from ≡ get_or (drop at ws) 1 0 = omega (arith, s.to, s.from, get_or-drop at ws 1 0) in
        rw (size, drop-drop, s.from)

    pub cursor-next : Cursor n p ws (i + 1) span.to
    cursor-next = record { below = omega arith; here = s.inside; sound = rw behind at both.1 }

    pub span_below : Below n (map symbol_of (take (span.to - span.from) (drop span.from ws)))
    span_below = rw symbol-words at head.right

    left_word : span.left ≡ get_or (drop at ws) 0 0
    left_word = s.left ∙ ap (λ (k : ℕ). get_or ws k 0) (sym (add-zero at)) ∙ sym (get_or-drop at ws 0 0)

    pub span_left : span.left < n
    span_left = rw left_word head.left

    pub span-first : productions_of (p - i) (drop at ws)
        ≡ record { left = span.left; right = map symbol_of (take (span.to - span.from) (drop span.from ws)) } ∷ productions_of (p - (i + 1)) (drop span.to ws)
    span-first = rw (left_over i p h, behind, symbol-words, left_word)

-- Going from one symbol to the next in a right side.
pub right-split : (right : List ℕ) (j : ℕ) → j < length right → map symbol_of (drop j right) ≡ symbol_of (get_or right j 0) ∷ map symbol_of (drop (j + 1) right)
right-split right j h = rw (add-one, drop-cons right j 0 h)

pub odd-terminal : (c : ℕ) → c % 2 ≡ 1 → symbol_of c ≡ terminal (c / 2)
odd-terminal c odd = rw (ne_eqb (c % 2) 0 (omega arith))

pub even-nonterminal : (c : ℕ) → (c % 2 ≡ 1 → ⊥) → symbol_of c ≡ nonterminal (c / 2)
even-nonterminal c even =
    let zero_left : c % 2 ≡ 0 = omega arith in
    rw (eq-eqb (c % 2) 0 zero_left)

-- a right side is passed up to place j
pub record Place (n : ℕ) (right : List ℕ) (j : ℕ) : Type 0 where
  pub below : j ≤ length right
  pub sound : Below n (map symbol_of (drop j right))

pub place-start : (n : ℕ) (right : List ℕ) → Below n (map symbol_of right) → Place n right 0
place-start n right s = record { below = omega arith; sound = s }

module _ (n : ℕ) (right : List ℕ) (j : ℕ) (w : Place n right j) where
  pub place_end : length right ≤ j → ◌≡◌ {A = List Sym} (map symbol_of (drop j right)) []
  place_end h =
      let end : j ≡ length right = omega (arith, w.below) in
      rw (end, drop-length)

  module _ (h : j < length right) where
    pub place-terminal : get_or right j 0 % 2 ≡ 1 → Place n right (j + 1)
    place-terminal odd = record { below = omega arith; sound = rw (right-split right j h, odd-terminal (get_or right j 0) odd) at w.sound }

    module _ (even : get_or right j 0 % 2 ≡ 1 → ⊥) where
      both-sound : (get_or right j 0 / 2 < n) × Below n (map symbol_of (drop (j + 1) right))
      both-sound = rw (right-split right j h, even-nonterminal (get_or right j 0) even) at w.sound

      pub number_small : get_or right j 0 / 2 < n
      number_small = both-sound.0

      pub place-nonterminal : Place n right (j + 1)
      place-nonterminal = record { below = omega arith; sound = both-sound.1 }
