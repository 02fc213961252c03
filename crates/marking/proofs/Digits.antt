-- A bit of a word that is or-ed with a power of two; and so what setting a mark changes. Assumes nothing.
use Prim.Native.Nat.{ℕ, zero, suc, ◌+◌, ◌-◌, ◌*◌, ◌/◌, ◌%◌, ◌^◌, ◌≤◌, ◌<◌, max}
use native.Mathlib.Nat.{max-zero, le-max_right, max-le, one-mul, pow-suc, div-eq_of_lt, zero-div}
use native.Mathlib.Omega.{arith}
use native.Mathlib.Decide.{dec_lt, ℕ_discrete}
use mathlib.Core.Path.{◌≡◌, refl, sym, ap, ◌∙◌}
use mathlib.Core.Bool.{false}
use mathlib.Core.List.{List}
use lib.Bits.{bit_or, or_step, or_shr}
use lib.Dec.{eqb}
use lib.ListN.{length, get_or, set, length-set, replicate}
use lib.Pow.{pow-lt, pow-add, shl_exact, shl-shr}
use lib.Seq.{get_or-set_same, get_or-set_other}
use Rattle.marking.specs.Bits.{bit_of, is_marked, MarkedAt}

-- ---- one digit

-- the last digit of an or, by that of the second number
or-odd : (a b : ℕ) → b % 2 ≡ 1 → bit_or a b % 2 ≡ 1
or-odd a b h =
    let e = or_step a b in
    let low : b % 2 ≤ max (a % 2) (b % 2) = le-max_right (a % 2) (b % 2) in
    let high : max (a % 2) (b % 2) ≤ 1 = max-le (omega arith) (omega arith) in
    omega arith

or-even : (a b : ℕ) → b % 2 ≡ 0 → bit_or a b % 2 ≡ a % 2
or-even a b h =
    let e : bit_or a b ≡ bit_or (a / 2) (b / 2) * 2 + a % 2 = or_step a b ∙ ap (λ (x : ℕ). bit_or (a / 2) (b / 2) * 2 + x) (ap (max (a % 2)) h ∙ max-zero (a % 2)) in
    omega arith

-- a power of two has a digit at its own place
power-here : (s : ℕ) → 2 ^ s / 2 ^ s % 2 ≡ 1
power-here s = ap (λ (x : ℕ). x % 2) (ap (λ (x : ℕ). x / 2 ^ s) (sym (one-mul (2 ^ s))) ∙ shl-shr 1 s)

-- and no other
power-else : (s t : ℕ) → ¬ t ≡ s → 2 ^ s / 2 ^ t % 2 ≡ 0
power-else s t n = by (dec_lt s t)
  where
    above : (d : ℕ) → s ≡ suc d + t → 2 ^ s / 2 ^ t % 2 ≡ 0
    above d e =
        let z : 2 ^ s / 2 ^ t ≡ 2 ^ suc d = ap (λ (m : ℕ). 2 ^ m / 2 ^ t) e ∙ ap (λ (m : ℕ). m / 2 ^ t) (pow-add 2 (suc d) t) ∙ shl-shr (2 ^ suc d) t in
        let y = pow-suc 2 d in
        omega arith

    by : Dec (s < t) → 2 ^ s / 2 ^ t % 2 ≡ 0
    by (yes l) = let z : 2 ^ s / 2 ^ t ≡ 0 = div-eq_of_lt (pow-lt l) in omega arith
    by (no l) = above (s - t - 1) (omega arith)

-- ---- one mark

module _ (marks : List ℕ) (e : ℕ) where
  abbrev more : ℕ
  more = bit_or (get_or marks (e / 64) 0) ((1 * 2 ^ (e % 64)) % 2 ^ 64)

  power-is : (1 * 2 ^ (e % 64)) % 2 ^ 64 ≡ 2 ^ (e % 64)
  power-is = shl_exact {a = 1} 1 (e % 64) 64 (omega arith) (omega arith) ∙ one-mul (2 ^ (e % 64))

  digit_at : (s : ℕ) → more / 2 ^ s ≡ bit_or (get_or marks (e / 64) 0 / 2 ^ s) (2 ^ (e % 64) / 2 ^ s)
  digit_at s = ap (λ (x : ℕ). bit_or (get_or marks (e / 64) 0) x / 2 ^ s) power-is ∙ or_shr (get_or marks (e / 64) 0) (2 ^ (e % 64)) s

  -- mark e is set, the others stay
  pub mark_set : e < 524288 → length marks ≡ 8192 → MarkedAt marks e (set marks (e / 64) more)
  unfolding is_marked
  mark_set h long = record {
    here =
        rw (get_or-set_same marks (e / 64) more 0 inside)
        (ap (λ (x : ℕ). eqb (x % 2) 1) (digit_at (e % 64)) ∙ ap (λ (x : ℕ). eqb x 1) (or-odd (get_or marks (e / 64) 0 / 2 ^ (e % 64)) (2 ^ (e % 64) / 2 ^ (e % 64)) (power-here (e % 64))));
    others = λ f n. by f n (ℕ_discrete (f / 64) (e / 64));
    long = length-set marks (e / 64) more;
  }
    where
      inside : e / 64 < length marks
      inside = omega arith

      by : (f : ℕ) → ¬ f ≡ e → Dec (f / 64 ≡ e / 64) → bit_of (get_or (set marks (e / 64) more) (f / 64) 0) (f % 64) ≡ bit_of (get_or marks (f / 64) 0) (f % 64)
      by f n (yes same) =
          let apart : ¬ (f % 64 ≡ e % 64) = λ z. n (omega arith) in
          rw (same, get_or-set_same marks (e / 64) more 0 inside)
          (ap (λ (x : ℕ). eqb (x % 2) 1) (digit_at (f % 64)) ∙ ap (λ (x : ℕ). eqb x 1) (or-even (get_or marks (e / 64) 0 / 2 ^ (f % 64)) (2 ^ (e % 64) / 2 ^ (f % 64)) (power-else (e % 64) (f % 64) apart)))
      by f n (no other) = ap (λ (x : ℕ). bit_of x (f % 64)) (get_or-set_other marks (e / 64) (f / 64) more 0 other)

-- ---- no marks

-- what is read of zeros
zeros-read : (n i : ℕ) → ◌≡◌ {A = ℕ} (get_or (replicate n 0) i 0) 0
zeros-read zero i = refl
zeros-read (suc n) zero = refl
zeros-read (suc n) (suc i) = zeros-read n i

-- no mark is set in zeros
pub clear-marks : (marks : List ℕ) (e : ℕ) → marks ≡ replicate 8192 0 → is_marked marks e ≡ false
unfolding is_marked
clear-marks marks e z =
    let r : get_or marks (e / 64) 0 ≡ 0 = ap (λ (l : List ℕ). get_or l (e / 64) 0) z ∙ zeros-read 8192 (e / 64) in
    let q : get_or marks (e / 64) 0 / 2 ^ (e % 64) % 2 ≡ 0 = ap (λ (x : ℕ). x / 2 ^ (e % 64) % 2) r ∙ (let d : 0 / 2 ^ (e % 64) ≡ 0 = zero-div (2 ^ (e % 64)) in omega arith) in
    ap (λ (x : ℕ). eqb x 1) q
