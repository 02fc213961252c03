-- The string of a run of terminals, pushed one after the other. Assumes nothing.
use mathlib.Core.Path.{◌≡◌, refl, sym, ap, ◌∙◌}
use mathlib.Core.Bool.{true, false}
use mathlib.Core.List.{List, [], ◌∷◌}
use Prim.Native.Nat.{ℕ, zero, suc, ◌+◌, ◌≤◌, ◌<◌}
use native.Mathlib.Nat.{not-suc-le-zero, le_of_suc-le-suc}
use native.Mathlib.Numerals.{add-one}
use native.Mathlib.Omega.{arith}
use borrow.Author.Tests.{le-leb, lt-ltb, ne_eqb}
use lib.ListN.{length, get_or, take, length-take}
use lib.Seq.{take-nil, take-suc}
use Rattle.k_tuple.specs.Strings.{eps, slots, good, ones, allowed, well_formed, ended}
use Rattle.k_tuple.specs.Packed.{Pushable, WellFormed, packed, reads, pushed_in, cut_in}
use Rattle.k_tuple.specs.declared.Terminals.{Terminals}
use Rattle.k_tuple.proofs.Closed.{reads-packed}
use Rattle.k_tuples.specs.Held.{Fits}
use Rattle.first_theory.specs.Compute.{str}
use Rattle.first.specs.Codes.{AllSlots}

slots-allowed : (w : ℕ) (xs : List ℕ) → AllSlots w xs → allowed w xs ≡ true
slots-allowed w [] s = refl
slots-allowed w (x ∷ xs) s = rw (lt-ltb x (ones w) s.0.1, lt-ltb 0 x s.0.0, slots-allowed w xs s.1)

take-slots : (w i : ℕ) (xs : List ℕ) → AllSlots w xs → AllSlots w (take i xs)
take-slots w zero xs s = tt
take-slots w (suc i) [] s = tt
take-slots w (suc i) (x ∷ xs) s = (s.0, take-slots w i xs s.1)

slot_at : (w i : ℕ) (xs : List ℕ) → i < length xs → AllSlots w xs → get_or xs i 0 < ones w
slot_at w i [] h s = absurd (not-suc-le-zero h)
slot_at w zero (x ∷ xs) h s = s.0.1
slot_at w (suc i) (x ∷ xs) h s = slot_at w i xs (le_of_suc-le-suc h) s.1

-- no terminal is the end marker
not-ended : (w : ℕ) (xs : List ℕ) → AllSlots w xs → ended xs ≡ false
not-ended w [] s = refl
not-ended w (x ∷ []) s = ne_eqb x 0 (λ e. omega (arith, s.0.0))
not-ended w (x ∷ y ∷ xs) s = not-ended w (y ∷ xs) s.1

module _ (w : ℕ) (wide : 1 ≤ w) (narrow : w ≤ 12) where
  slots-well : (xs : List ℕ) → length xs ≤ 10 → AllSlots w xs → well_formed w (slots xs) ≡ true
  unfolding well_formed
  slots-well xs h s = rw (le-leb 1 w wide, le-leb w 12 narrow, le-leb (length xs) 10 h, slots-allowed w xs s)

  pub eps-well : well_formed w eps ≡ true
  unfolding well_formed
  eps-well = rw (le-leb 1 w wide, le-leb w 12 narrow)

  pub eps-fits : (k : ℕ) → 1 ≤ k → Fits k w eps
  eps-fits k h = record { well = eps-well; some = omega arith; short = h }

  -- the string of a run is a member of a set at k
  pub run_fits : (k : ℕ) (xs : List ℕ) → 1 ≤ k → k ≤ 10 → AllSlots w xs → Fits k w (str (take k xs))
  run_fits k [] some short s = rw (take-nil {A = ℕ} k) (eps-fits k some)
  run_fits zero (x ∷ xs) some short s = absurd (not-suc-le-zero some)
  run_fits (suc k) (x ∷ xs) some short s =
      let size : length (take k xs) ≤ k = omega (arith, length-take k xs) in
      record { well = slots-well (x ∷ take k xs) (omega arith) (take-slots w (suc k) (x ∷ xs) s); some = omega arith; short = omega arith }

  -- ε is at hand as a string, and cut to nothing
  pub eps-string : {t : Terminals} → t ≡ packed w eps → WellFormed t
  eps-string e = record { width = w; str = eps; is = ap reads e ∙ reads-packed w eps eps-well }

  pub no-slots : {t : Terminals} → t ≡ packed w eps → cut_in 0 (reads t) ≡ packed w (slots [])
  no-slots e = ap (cut_in 0) (ap reads e ∙ reads-packed w eps eps-well)

  -- one terminal more
  module _ (xs : List ℕ) (s : AllSlots w xs) {t : Terminals} (i : ℕ) (h : i < length xs) (few : i < 10) (e : t ≡ packed w (slots (take i xs))) where
    here : reads t ≡ good w (slots (take i xs))
    here = ap reads e ∙ reads-packed w (slots (take i xs)) (slots-well (take i xs) (omega (arith, length-take i xs)) (take-slots w i xs s))

    pub can-push : Pushable t (get_or xs i 0)
    can-push =
        record {
          well = record { width = w; str = slots (take i xs); is = here };
          plain = refl;
          short = omega (arith, length-take i xs);
          small = slot_at w i xs h s;
        }

    pub pushed_more : pushed_in (get_or xs i 0) (reads t) ≡ packed w (slots (take (i + 1) xs))
    pushed_more =
        ap (pushed_in (get_or xs i 0)) here
        ∙ ap (λ (l : List ℕ). packed w (slots l)) (rw (not-ended w (take i xs) (take-slots w i xs s), add-one) (sym (take-suc xs i 0 h)))

-- the first k of a run, where there are as many or fewer
pub spelled : (k i : ℕ) (xs : List ℕ) → 1 ≤ k → 1 ≤ length xs → take i xs ≡ take k xs → slots (take i xs) ≡ str (take k xs)
spelled k i [] some one e = absurd (not-suc-le-zero one)
spelled zero i (x ∷ xs) some one e = absurd (not-suc-le-zero some)
spelled (suc k) i (x ∷ xs) some one e = ap slots e
