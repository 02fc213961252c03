-- Numbers that are told in lent words, or refused where these are too few. Assumes nothing.
use Prim.Native.Nat.{ℕ, ◌+◌, ◌*◌, ◌≤◌, ◌<◌}
use mathlib.Core.Path.{◌≡◌, refl, ap, ◌∙◌}
use mathlib.Core.Bool.{Bool, true, false, cond, ◌&&◌}
use mathlib.Core.List.{List, [], ◌∷◌, ◌++◌}
use native.Mathlib.Omega.{arith}
use borrow.Author.Tests.{lt-ltb, le-ltb, lt-leb, le-leb, leb-true}
use lib.Dec.{leb}
use lib.ListN.{length, get_or, take, drop}
use lib.Seq.{take-length}
use Rattle.k_tuple.specs.Paper.{Paper, gives, number_of}
use Rattle.engine.specs.Ask.{there_is, kind_start, place_of, set_part}
use Rattle.k_tuples.specs.Answers.{set_on_paper}
use Rattle.refusals.specs.declared.Refusal.{Refusal}
use Rattle.std.specs.Prelude.{Option, Some, None, Result, Ok, Err}
use Rattle.exports.specs.Told.{too_few, Wrote, Told, number_told, Left, part_of}

-- ---- words too few: 10, or a refusal that comes before it

pub few-none : {r : ℕ} → r < 1 → 10 ≡ too_few r
few-none {r} h = rw (lt-leb 1 r h)

pub few-later : {r : ℕ} → 1 ≤ r → 9 < r → 10 ≡ too_few r
few-later {r} h l = rw (le-leb 1 r h, lt-leb r 9 l)

pub few-before : {r : ℕ} → 1 ≤ r → r ≤ 9 → r ≡ too_few r
few-before {r} h l = rw (le-leb 1 r h, le-leb r 9 l)

-- it is no later one
pub few-at-most : (r : ℕ) → leb (too_few r) 10 ≡ true
few-at-most r = by (leb 1 r) (leb r 9) refl
  where
    by : (a b : Bool) → leb r 9 ≡ b → leb (cond (a && b) r 10) 10 ≡ true
    by true true e = let small = leb-true r 9 e in le-leb r 10 (omega arith)
    by true false e = refl
    by false b e = refl

-- ---- numbers told

pub told-few : {n r r₀ : ℕ} {values out : List ℕ} → length out < n → r ≡ too_few r₀ → Wrote n r₀ values out r out
told-few {n} {r} {r₀} {values} {out} h e = record { number = e ∙ rw (lt-ltb (length out) n h); words = rw (lt-ltb (length out) n h) }

pub told-whole : {r₀ : ℕ} {values out out' : List ℕ} → length values ≤ length out → out' ≡ take (length values) values ++ drop (length values) out
    → Wrote (length values) r₀ values out r₀ out'
told-whole {r₀} {values} {out} h e = record {
  number = rw (le-ltb (length out) (length values) h);
  words = e ∙ ap (λ (l : List ℕ). l ++ drop (length values) out) (take-length values) ∙ rw (le-ltb (length out) (length values) h);
}

-- what is told is told by any name
pub told_same : {n m r₀ r₁ : ℕ} {values values' out out' : List ℕ} {r : ℕ} → n ≡ m → r₀ ≡ r₁ → values ≡ values' → Wrote n r₀ values out r out' → Wrote m r₁ values' out r out'
told_same d e f t = rw d at (rw e at (rw f at t))

pub named-told : {p p' : Paper} {n : ℕ} {out out' : List ℕ} {r : ℕ} → p ≡ p' → Told n p out r out' → Told n p' out r out'
named-told e t = rw e at t

-- a set, and the number of its result
set-number : (r : Result (Unit {0}) Refusal) → number_told r ≡ number_of (set_on_paper r)
set-number (Ok x) = refl
set-number (Err e) = refl

pub set-left : (r : Result (Unit {0}) Refusal) {n : ℕ} {p : Paper} {new out' : List ℕ} → n ≡ number_told r → set_on_paper r ≡ p → out' ≡ new → Left p new n out'
set-left r h e f = record { number = h ∙ set-number r ∙ ap number_of e; words = f }

-- ---- the part of a set

module _ (words kind number n p q c : ℕ) where
  pub no_part : None ≡ place_of words kind number n p q c → (0 ∷ 0 ∷ []) ≡ part_of words kind number n p q c
  unfolding part_of
  no_part = by (there_is words kind number n p q c)
    where
      by : (b : Bool) → ◌≡◌ {A = Option ℕ} None (cond b (Some ((kind_start kind n p + number) * (2 * c + 1))) None)
          → (0 ∷ 0 ∷ []) ≡ cond b ((kind_start kind n p + number) * (2 * c + 1) ∷ (2 * c + 1) ∷ []) (0 ∷ 0 ∷ [])
      by true e = cc
      by false e = refl

  pub some-part : {at : ℕ} → Some at ≡ place_of words kind number n p q c → (at ∷ (2 * c + 1) ∷ []) ≡ part_of words kind number n p q c
  unfolding part_of
  some-part {at} = by (there_is words kind number n p q c)
    where
      by : (b : Bool) → Some at ≡ cond b (Some ((kind_start kind n p + number) * (2 * c + 1))) None
          → (at ∷ (2 * c + 1) ∷ []) ≡ cond b ((kind_start kind n p + number) * (2 * c + 1) ∷ (2 * c + 1) ∷ []) (0 ∷ 0 ∷ [])
      by true e = cc
      by false e = cc

  part_length : length (part_of words kind number n p q c) ≡ 2
  unfolding part_of
  part_length = by (there_is words kind number n p q c)
    where
      by : (b : Bool) → length (cond b ((kind_start kind n p + number) * (2 * c + 1) ∷ (2 * c + 1) ∷ []) (0 ∷ 0 ∷ [])) ≡ 2
      by true = refl
      by false = refl

  pub part-told : {values out out' : List ℕ} {r : ℕ} → values ≡ part_of words kind number n p q c → Wrote (length values) 0 values out r out' → Told 2 (gives (part_of words kind number n p q c)) out r out'
  part-told e t = record { wrote = told_same (ap length e ∙ part_length) refl e t }

-- the words that begin there, and are so many, are the set's part
pub part-is : (kind number n p q c : ℕ) (ws : List ℕ) → let part = part_of (length ws) kind number n p q c in take (get_or part 1 0) (drop (get_or part 0 0) ws) ≡ set_part kind number n p q c ws
unfolding part_of set_part
part-is kind number n p q c ws = by (there_is (length ws) kind number n p q c)
  where
    by : (b : Bool)
        → take (get_or (cond b ((kind_start kind n p + number) * (2 * c + 1) ∷ (2 * c + 1) ∷ []) (0 ∷ 0 ∷ [])) 1 0) (drop (get_or (cond b ((kind_start kind n p + number) * (2 * c + 1) ∷ (2 * c + 1) ∷ []) (0 ∷ 0 ∷ [])) 0 0) ws)
        ≡ cond b (take (2 * c + 1) (drop ((kind_start kind n p + number) * (2 * c + 1)) ws)) []
    by true = refl
    by false = refl
