-- The cases of asking for one set: what each way out of the functions says of the definitions. Assumes nothing.
use Prim.Native.Nat.{ℕ, ◌+◌, ◌*◌, ◌-◌, ◌≤◌, ◌<◌}
use native.Mathlib.Omega.{arith}
use native.Mathlib.Nat.{mul-le-mul, mul-le-mul_right, suc-mul}
use mathlib.Core.Path.{◌≡◌, refl, sym, ◌∙◌}
use mathlib.Core.Bool.{Bool, true, false, cond, ◌&&◌}
use mathlib.Core.List.{List, []}
use borrow.Author.Tests.{le-leb, lt-leb, lt-ltb, le-ltb, ne_eqb, leb-true, ltb-true}
use lib.Dec.{leb, ltb, eqb}
use lib.ListN.{length, take, drop}
use Rattle.std.specs.Prelude.{Option, Some, None}
use Rattle.engine.specs.Ask.{kind_start, kind_count, in_limits, result_size, there_is, place_of, set_part}

-- ---- limits

pub both : (a b : Bool) → (a && b) ≡ true → (a ≡ true) × (b ≡ true)
both true b e = (refl, e)
both false b e = absurd (let z : ◌≡◌ {A = ℕ} 0 1 = cc in omega arith)

-- what keeping the limits says
pub record Limits (n p q c : ℕ) : Type 0 where
  pub n-least : 1 ≤ n
  pub n-most : n ≤ 128
  pub p-most : p ≤ 512
  pub q-most : q ≤ 4096
  pub c-least : 1 ≤ c
  pub c-most : c ≤ 1024

pub limits : {n p q c : ℕ} → in_limits n p q c ≡ true → Limits n p q c
unfolding in_limits
limits {n} {p} {q} {c} e =
    let a = both (leb 1 n) _ e in
    let b = both (leb n 128) _ a.1 in
    let d = both (leb p 512) _ b.1 in
    let f = both (leb q 4096) _ d.1 in
    let g = both (leb 1 c) (leb c 1024) f.1 in
    record { n-least = leb-true 1 n a.0; n-most = leb-true n 128 b.0; p-most = leb-true p 512 d.0; q-most = leb-true q 4096 f.0; c-least = leb-true 1 c g.0; c-most = leb-true c 1024 g.1 }

pub kept : (n p q c : ℕ) (r : Bool) → r ≡ in_limits n p q c → r ≡ true → Limits n p q c
kept n p q c r e f = limits (sym e ∙ f)

-- what it says
pub record There (words kind number n p q c : ℕ) : Type 0 where
  pub inside : Limits n p q c
  pub below : number < kind_count kind n p q
  pub whole : (2 * n + p + q) * (2 * c + 1) ≤ words

pub there : {words kind number n p q c : ℕ} → there_is words kind number n p q c ≡ true → There words kind number n p q c
unfolding there_is result_size
there {words} {kind} {number} {n} {p} {q} {c} e =
    let a = both (in_limits n p q c) _ e in
    let b = both (ltb number (kind_count kind n p q)) _ a.1 in
    record { inside = limits a.0; below = ltb-true number (kind_count kind n p q) b.0; whole = leb-true ((2 * n + p + q) * (2 * c + 1)) words b.1 }

-- the sets of each kind stand behind those of the kinds before it
pub place_inside : (kind number n p q : ℕ) → number < kind_count kind n p q → kind_start kind n p + number < 2 * n + p + q
unfolding kind_start kind_count
place_inside kind number n p q = by (eqb kind 0) (eqb kind 1) (eqb kind 2) (eqb kind 3)
  where
    by : (a b d e : Bool) → number < cond a n (cond b p (cond d n (cond e q 0))) → cond a 0 (cond b n (cond d (n + p) (2 * n + p))) + number < 2 * n + p + q
    by true b d e h = omega arith
    by false true d e h = omega arith
    by false false true e h = omega arith
    by false false false true h = omega arith
    by false false false false h = absurd (omega arith)

-- a whole result takes few words
pub sets-few : (n p q c : ℕ) → Limits n p q c → (2 * n + p + q) * (2 * c + 1) ≤ 9966336
sets-few n p q c l = let m = mul-le-mul {n₁ = 2 * n + p + q} {m₁ = 2 * c + 1} {n₂ = 4864} {m₂ = 2049} (omega arith) (omega arith) in m

-- so that its words do, and they are few
pub record Inside (place size words : ℕ) : Type 0 where
  pub set : place < 4864
  pub within : place * size + size ≤ words
  pub few : place * size + size ≤ 9966336

pub inside_words : {words kind number n p q c start : ℕ} → There words kind number n p q c → start ≡ kind_start kind n p → Inside (start + number) (2 * c + 1) words
inside_words {words} {kind} {number} {n} {p} {q} {c} {start} t e =
    let few = sets-few n p q c t.inside in
    let below : start + number < 2 * n + p + q = rw e (place_inside kind number n p q t.below) in
    let all = mul-le-mul_right (2 * c + 1) below in
    let more = suc-mul (start + number) (2 * c + 1) in
    record { set = omega (arith, t.inside); within = omega (arith, t.whole); few = omega arith }

-- ---- there is such a set

-- a number over 3 names no kind, of which there are sets
unknown : (kind n p q : ℕ) → 3 < kind → 0 ≡ kind_count kind n p q
unfolding kind_count
unknown kind n p q h = rw (ne_eqb kind 0 (λ e. omega arith), ne_eqb kind 1 (λ e. omega arith), ne_eqb kind 2 (λ e. omega arith), ne_eqb kind 3 (λ e. omega arith))

module _ (words kind number n p q c : ℕ) {r : Bool} (e : r ≡ in_limits n p q c) where
  pub outside : r ≡ false → None ≡ place_of words kind number n p q c
  unfolding there_is
  outside f = rw (sym e ∙ f)

  module _ (inside : r ≡ true) where
    no_number : {m : ℕ} → m ≡ kind_count kind n p q → m ≤ number → None ≡ place_of words kind number n p q c
    unfolding there_is
    no_number {m} count h = rw (sym e ∙ inside, ← count, le-ltb number m h)

    pub no-kind : 3 < kind → None ≡ place_of words kind number n p q c
    no-kind h = no_number (unknown kind n p q h) (omega arith)

    -- a kind by its number j, and how many sets there are of it
    module _ {j : ℕ} (is : kind ≡ j) {m : ℕ} (count : m ≡ kind_count j n p q) where
      pub too-high : m ≤ number → None ≡ place_of words kind number n p q c
      too-high h = no_number (rw is count) h

      module _ (low : number < m) where
        whole : leb ((2 * n + p + q) * (2 * c + 1)) words ≡ there_is words kind number n p q c
        unfolding there_is result_size
        whole = rw (sym e ∙ inside, is, ← count, lt-ltb number m low)

        pub too_short : words < (2 * n + p + q) * (2 * c + 1) → None ≡ place_of words kind number n p q c
        too_short h = rw (← whole, lt-leb _ words h)

        module _ (long : (2 * n + p + q) * (2 * c + 1) ≤ words) where
          all-there : there_is words kind number n p q c ≡ true
          all-there = sym whole ∙ le-leb _ words long

          pub is-there : There words kind number n p q c
          is-there = there all-there

          pub found : {start : ℕ} → start ≡ kind_start j n p → Some ((start + number) * (2 * c + 1)) ≡ place_of words kind number n p q c
          found s = rw (all-there, s, is)

          pub found-inside : {start : ℕ} → start ≡ kind_start j n p → Inside (start + number) (2 * c + 1) words
          found-inside s = inside_words is-there (rw is s)

-- ---- the part

module _ (words kind number n p q c : ℕ) {at : ℕ} (e : Some at ≡ place_of words kind number n p q c) where
  -- there is such a set, and it begins there
  placed : (there_is words kind number n p q c ≡ true) × (at ≡ (kind_start kind n p + number) * (2 * c + 1))
  placed = by (there_is words kind number n p q c) refl e
    where
      by : (b : Bool) → there_is words kind number n p q c ≡ b → Some at ≡ cond b (Some ((kind_start kind n p + number) * (2 * c + 1))) None
          → (there_is words kind number n p q c ≡ true) × (at ≡ (kind_start kind n p + number) * (2 * c + 1))
      by true t e = (t, cc)
      by false t e = cc

  -- the set lies within the words, and they are few
  pub placed-inside : (at + (2 * c + 1) ≤ words) × (at + (2 * c + 1) ≤ 9966336)
  placed-inside = let i = inside_words (there placed.0) refl in rw placed.1 (i.within, i.few)

module _ (kind number n p q c : ℕ) (ws : List ℕ) where
  pub none-there : None ≡ place_of (length ws) kind number n p q c → [] ≡ set_part kind number n p q c ws
  unfolding set_part
  none-there = by (there_is (length ws) kind number n p q c)
    where
      by : (b : Bool) → ◌≡◌ {A = Option ℕ} None (cond b (Some ((kind_start kind n p + number) * (2 * c + 1))) None) → [] ≡ cond b (take (2 * c + 1) (drop ((kind_start kind n p + number) * (2 * c + 1)) ws)) []
      by true e = cc
      by false e = refl

  pub part-there : {at : ℕ} → Some at ≡ place_of (length ws) kind number n p q c → take (at + 2 * c + 1 - at) (drop at ws) ≡ set_part kind number n p q c ws
  unfolding set_part
  part-there {at} e =
      let is = placed (length ws) kind number n p q c e in
      let size : at + 2 * c + 1 - at ≡ 2 * c + 1 = omega arith in
      rw (size, is.0, is.1)
