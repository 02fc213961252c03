-- The column "given exactly when" of the rules for the public functions on strings: for each function its refusals, in the order of the tests, and the numbers
-- that it answers where none applies; no other refusal is ever given. Assumes nothing.
use mathlib.Core.Path.{◌≡◌, refl, ap, ◌∙◌}
use mathlib.Core.Bool.{Bool, true, false, not, ◌&&◌, true≢false, false≢true}
use mathlib.Core.List.Memᴰ.{cases_cons}
use mathlib.Core.List.Memᴰ.{head as here}
use mathlib.Core.List.Memᴰ.{not-nil}
use mathlib.Core.List.Memᴰ.{tail as there}
use mathlib.Core.List.{List, [], ◌∷◌, ◌++◌, Memᴰ}
use mathlib.Core.Logic.{◌↔◌, ◌⊎◌, inl, inr, ⊎_elim}
use Prim.Native.Nat.{ℕ, ◌≤◌, ◌<◌}
use native.Mathlib.Omega.{arith}
use borrow.Author.Tests.{leb-false}
use lib.Dec.{leb, eqb}
use lib.ListN.{length, take, length-append}
use Rattle.k_tuple.specs.Strings.{Str, eps, slots, Decoded, good, bad, is_good, ones, width_of, pack, well_formed, ended, all_under, early, made, places}
use Rattle.k_tuple.specs.Packed.{packed, number_of, reads, width_in, eps_in, ended_in, shown_in, complete_in, joined, cut_in, pushed_in}
use Rattle.k_tuple.specs.Paper.{refused, flag, values, ◌for◌else◌, Exactly}
use Rattle.k_tuple.specs.Answers.{two_words, unpacked_on_paper, is_bad, length_in, place_in, width_answer, eps_answer, end_answer, make_answer, unpack_answer, complete_answer, cut_answer, push_answer, join_answer, order_answer}
use Rattle.k_tuple.specs.declared.Terminals.{Terminals}
use Rattle.k_tuple.proofs.Round.{decode-pack, decode-good}
use Rattle.k_tuple.proofs.Lists.{ended-last}
use Rattle.k_tuple.proofs.Column.{Means, ltb-means, leb-means, eqb-means, not-means, or-means, answered, given, passed, test, exactly}

-- ---- what the tests mean

pub bad-means : (d : Decoded) → Means (is_bad d) (d ≡ bad)
bad-means bad = (λ e. refl, λ e. refl)
bad-means (good w s) = (λ e. absurd (false≢true e), λ e. ap is_bad e)

eps-means : (d : Decoded) → Means (eps_in d) (d ≡ good (width_in d) eps)
eps-means d = (by d, λ e. ap eps_in e)
  where
    by : (d : Decoded) → eps_in d ≡ true → d ≡ good (width_in d) eps
    by bad e = absurd (false≢true e)
    by (good w eps) e = refl
    by (good w (slots xs)) e = absurd (false≢true e)

-- 13: two words that no string packs to
pub bad-exactly : (t : Terminals) → (reads t ≡ bad) ↔ ((w : ℕ) (s : Str) → well_formed w s ≡ true → number_of t ≡ pack w s → ⊥)
bad-exactly t = (packs, none (reads t) refl)
  where
    packs : reads t ≡ bad → (w : ℕ) (s : Str) → well_formed w s ≡ true → number_of t ≡ pack w s → ⊥
    packs b w s f e = let g : reads t ≡ good w s = rw e (decode-pack w s f) in let z : ◌≡◌ {A = ℕ} 0 1 = cc in omega arith

    none : (d : Decoded) → reads t ≡ d → ((w : ℕ) (s : Str) → well_formed w s ≡ true → number_of t ≡ pack w s → ⊥) → reads t ≡ bad
    none bad e h = e
    none (good w s) e h = let r = decode-good (number_of t) w s e in absurd (h w s r.well r.packed)

-- one of the list is over m
abbrev pub Over : ℕ → List ℕ → Type 0
Over m ts = (t : ℕ) × Memᴰ t ts × (m < t)

over-means : (m : ℕ) (ts : List ℕ) → Means (not (all_under m ts)) (Over m ts)
over-means m [] = (λ e. absurd (false≢true e), λ o. absurd (not-nil o.1))
over-means m (t ∷ ts) = by (leb t m) refl (over-means m ts)
  where
    later : Over m ts → Over m (t ∷ ts)
    later o = (o.0, there o.1, o.2)

    by : (b : Bool) → leb t m ≡ b → Means (not (all_under m ts)) (Over m ts) → Means (not (b && all_under m ts)) (Over m (t ∷ ts))
    by true l below = (λ e. later (below.0 e), λ o. ⊎_elim (λ (e : o.0 ≡ t). absurd (let h = (leb-means t m).0 l in let g = o.2 in omega arith)) (λ i. below.1 (o.0, i, o.2)) (cases_cons o.1))
    by false l below = (λ e. (t, here refl, leb-false t m l), λ o. refl)

-- an end marker, and more behind it
abbrev pub Early : List ℕ → Type 0
Early ts = (us : List ℕ) × (t : ℕ) × (vs : List ℕ) × (ts ≡ us ++ 0 ∷ t ∷ vs)

early-long : (ts : List ℕ) → Early ts → 2 ≤ length ts
early-long ts o = rw (o.3, length-append o.0 (0 ∷ o.1 ∷ o.2)) (omega arith)

early-means : (ts : List ℕ) → Means (early ts) (Early ts)
early-means [] = (λ e. absurd (false≢true e), λ o. absurd (omega (arith, early-long [] o)))
early-means (t ∷ []) = (λ e. absurd (false≢true e), λ o. absurd (omega (arith, early-long (t ∷ []) o)))
early-means (t ∷ u ∷ ts) =
    let m = or-means (eqb t 0) (early (u ∷ ts)) (eqb-means t 0) (early-means (u ∷ ts)) in
    (λ e. ⊎_elim now later (m.0 e), λ o. m.1 (part o))
  where
    now : t ≡ 0 → Early (t ∷ u ∷ ts)
    now z = ([], u, ts, ap {B = List ℕ} (λ (x : ℕ). x ∷ u ∷ ts) z)

    later : Early (u ∷ ts) → Early (t ∷ u ∷ ts)
    later o = (t ∷ o.0, o.1, o.2, ap {B = List ℕ} (λ (xs : List ℕ). t ∷ xs) o.3)

    part : Early (t ∷ u ∷ ts) → (t ≡ 0) ⊎ Early (u ∷ ts)
    part ([], v, vs, e) = inl (cc)
    part (x ∷ us, v, vs, e) = inr (us, v, vs, cc)

-- a string whose last slot is the end marker
abbrev pub Ended : Decoded → Type 0
Ended d = (us : List ℕ) × (d ≡ good (width_in d) (slots (us ++ 0 ∷ [])))

ended-means : (d : Decoded) → Means (ended_in d) (Ended d)
ended-means d = (by d, λ o. ap ended_in o.1 ∙ ended-last o.0 0)
  where
    last : (xs : List ℕ) → ended xs ≡ true → (us : List ℕ) × (xs ≡ us ++ 0 ∷ [])
    last [] e = absurd (false≢true e)
    last (x ∷ []) e = ([], ap {B = List ℕ} (λ (y : ℕ). y ∷ []) ((eqb-means x 0).0 e))
    last (x ∷ y ∷ xs) e = let o = last (y ∷ xs) e in (x ∷ o.0, ap {B = List ℕ} (λ (ys : List ℕ). x ∷ ys) o.1)

    by : (d : Decoded) → ended_in d ≡ true → Ended d
    by bad e = absurd (false≢true e)
    by (good w eps) e = absurd (false≢true e)
    by (good w (slots xs)) e = let o = last xs e in (o.0, ap (λ (ys : List ℕ). good w (slots ys)) o.1)

-- ---- the functions

module _ (m : ℕ) where
  pub width-exactly : Exactly (width_answer m) (
      14 for 4094 < m else
      values (width_of m ∷ []))
  width-exactly = exactly refl (test _ (ltb-means 4094 m) (answered refl))

  pub eps-exactly : Exactly (eps_answer m) (
      14 for 4094 < m else
      values (two_words (packed (width_of m) eps)))
  eps-exactly = exactly refl (test _ (ltb-means 4094 m) (answered refl))

  pub end-exactly : Exactly (end_answer m) (
      14 for 4094 < m else
      values (two_words (packed (width_of m) (slots (0 ∷ [])))))
  end-exactly = exactly refl (test _ (ltb-means 4094 m) (answered refl))

pub make-exactly : (k m : ℕ) (ts : List ℕ) → Exactly (make_answer k m ts) (
    1 for 10 < k else
    14 for (4094 < m) ⊎ Over m (take k ts) else
    21 for Early (take k ts) else
    values (two_words (packed (width_of m) (made k ts))))
make-exactly k m ts = exactly refl (test _ (ltb-means 10 k) (test _ (or-means _ _ (ltb-means 4094 m) (over-means m (take k ts))) (test _ (early-means (take k ts)) (answered refl))))

pub unpack-exactly : (d : Decoded) → Exactly (unpacked_on_paper (unpack_answer d)) (
    13 for d ≡ bad else
    values (length_in d ∷ places 10 (shown_in d)))
unpack-exactly bad = exactly refl (given refl refl)
unpack-exactly (good w s) = exactly refl (passed (λ e. true≢false (ap is_good e)) (answered refl))

module _ (d : Decoded) where
  pub complete-exactly : (k : ℕ) → Exactly (complete_answer k d) (
      1 for 10 < k else
      13 for d ≡ bad else
      values (flag (complete_in k d)))
  complete-exactly k = exactly refl (test _ (ltb-means 10 k) (test _ (bad-means d) (answered refl)))

  pub cut-exactly : (k : ℕ) → Exactly (cut_answer k d) (
      1 for 10 < k else
      13 for d ≡ bad else
      values (two_words (cut_in k d)))
  cut-exactly k = exactly refl (test _ (ltb-means 10 k) (test _ (bad-means d) (answered refl)))

  pub push-exactly : (x : ℕ) → Exactly (push_answer x d) (
      13 for d ≡ bad else
      14 for ones (width_in d) ≤ x else
      16 for length_in d ≡ 10 else
      21 for Ended d else
      17 for d ≡ good (width_in d) eps else
      values (two_words (pushed_in x d)))
  push-exactly x = exactly refl (test _ (bad-means d) (test _ (leb-means _ x) (test _ (eqb-means _ 10) (test _ (ended-means d) (test _ (eps-means d) (answered refl))))))

  -- the rows of push, one by one; those of the others are read in the same way
  push-13 : (x : ℕ) → (push_answer x d ≡ refused 13 (0 ∷ 0 ∷ [])) ↔ (d ≡ bad)
  push-13 x = (push-exactly x).rows.0

  push-14 : (x : ℕ) → (push_answer x d ≡ refused 14 (0 ∷ 0 ∷ [])) ↔ ((¬ (d ≡ bad)) × (ones (width_in d) ≤ x))
  push-14 x = (push-exactly x).rows.1.0

  push-16 : (x : ℕ) → (push_answer x d ≡ refused 16 (0 ∷ 0 ∷ [])) ↔ ((¬ (d ≡ bad)) × ((¬ (ones (width_in d) ≤ x)) × (length_in d ≡ 10)))
  push-16 x = (push-exactly x).rows.1.1.0

  push-21 : (x : ℕ) → (push_answer x d ≡ refused 21 (0 ∷ 0 ∷ [])) ↔ ((¬ (d ≡ bad)) × ((¬ (ones (width_in d) ≤ x)) × ((¬ (length_in d ≡ 10)) × Ended d)))
  push-21 x = (push-exactly x).rows.1.1.1.0

module _ (d e : Decoded) where
  pub join-exactly : (k : ℕ) → Exactly (join_answer k d e) (
      1 for 10 < k else
      13 for (d ≡ bad) ⊎ (e ≡ bad) else
      15 for ¬ (width_in d ≡ width_in e) else
      values (two_words (joined k d e)))
  join-exactly k = exactly refl (test _ (ltb-means 10 k) (test _ (or-means _ _ (bad-means d) (bad-means e)) (test _ (not-means _ (eqb-means _ _)) (answered refl))))

  pub order-exactly : Exactly (order_answer d e) (
      13 for (d ≡ bad) ⊎ (e ≡ bad) else
      15 for ¬ (width_in d ≡ width_in e) else
      values (place_in d e ∷ []))
  order-exactly = exactly refl (test _ (or-means _ _ (bad-means d) (bad-means e)) (test _ (not-means _ (eqb-means _ _)) (answered refl)))
