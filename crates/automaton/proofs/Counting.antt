-- The sizes of the trees: the loops over them, and what they say of the trees. Assumes nothing.
use Prim.Native.Nat.{ℕ, zero, suc, ◌+◌, ◌-◌, ◌≤◌, ◌<◌}
use native.Mathlib.Omega.{arith}
use native.Mathlib.Decide.{dec_lt}
use native.Mathlib.Numerals.{add-one}
use mathlib.Core.Path.{◌≡◌, refl, sym, ap, ◌∙◌, subst}
use mathlib.Core.Bool.{Bool, true, false, ◌&&◌}
use mathlib.Core.List.{List, [], ◌∷◌}
use borrow.Author.Tests.{le-leb, lt-leb}
use lib.Dec.{leb}
use lib.ListN.{length, get_or, take, length-append}
use lib.Seq.{take-suc}
use Rattle.k_tuples.specs.Work.{got, refused}
use Rattle.decision_theory.specs.Needed.{each_from}
use Rattle.decision_theory.specs.Automaton.{State, automata_bytes, all_small}
use Rattle.trees.specs.Answer.{bytes_of}
use Rattle.std.specs.Prelude.{sum, Result, Ok, Err}
use Rattle.std.proofs.lemmas.List.Sums.{sum_by-append}
use Rattle.refusals.specs.declared.Refusal.{Refusal}
use Rattle.refusals.specs.declared.Refusal.TheVariants.{LentTooFew}
use Rattle.automaton.specs.Steps.{OneLarge, AllSized, sum_to, Totals, Fitting, answer_for}

-- ---- the loops

-- one size more
pub sum_more : (sizes : List ℕ) (a : ℕ) → sum_to sizes (a + 1) ≡ sum_to sizes a + get_or sizes a 0
unfolding sum_to
sum_more sizes a = ap (sum_to sizes) (add-one a)

-- a sum of fewer is not more
pub sum-fewer : (sizes : List ℕ) (a d : ℕ) → sum_to sizes a ≤ sum_to sizes (a + d)
unfolding sum_to
sum-fewer sizes a zero = let z : a + 0 ≡ a = omega arith in subst (λ (b : ℕ). sum_to sizes a ≤ sum_to sizes b) (sym z) (omega arith)
sum-fewer sizes a (suc d) =
    let z : a + suc d ≡ suc (a + d) = omega arith in
    let h = sum-fewer sizes a d in
    subst (λ (b : ℕ). sum_to sizes a ≤ sum_to sizes b) (sym z) (omega arith)

-- nor is one up to an earlier place
pub sum-upto : (sizes : List ℕ) (a n : ℕ) → a ≤ n → sum_to sizes a ≤ sum_to sizes n
sum-upto sizes a n h = let z : a + (n - a) ≡ n = omega arith in subst (λ (b : ℕ). sum_to sizes a ≤ sum_to sizes b) z (sum-fewer sizes a (n - a))

pub record Sums (n : ℕ) (sizes : List ℕ) (room at a : ℕ) : Type 0 where
  pub below : a ≤ n
  pub is : at ≡ sum_to sizes a
  pub inside : at ≤ room

-- the sum of none
pub sums-start : (n : ℕ) (sizes : List ℕ) (room : ℕ) → Sums n sizes room 0 0
unfolding sum_to
sums-start n sizes room = record { below = omega arith; is = refl; inside = omega arith }

module _ {n : ℕ} {sizes : List ℕ} {room at a : ℕ} (l : Sums n sizes room at a) where
  -- the next one fits
  pub sums-more : a < n → get_or sizes a 0 ≤ room - at → Sums n sizes room (at + get_or sizes a 0) (a + 1)
  sums-more h e = let i = l.inside in record { below = omega arith; is = ap (λ (b : ℕ). b + get_or sizes a 0) l.is ∙ sym (sum_more sizes a); inside = omega arith }

  -- it does not
  pub sums-short : a < n → room - at < get_or sizes a 0 → Totals n sizes room (Err LentTooFew)
  sums-short h e =
      let i = l.inside in
      let s = l.is in
      let m = sum_more sizes a in
      let o = sum-upto sizes (a + 1) n (omega arith) in
      Totals.short (omega arith) refl

  -- all fit
  pub sums-end : n ≤ a → Totals n sizes room (Ok at)
  sums-end h =
      let same : a ≡ n = omega (arith, l.below) in
      let s : at ≡ sum_to sizes n = l.is ∙ ap (sum_to sizes) same in
      Totals.fits (let i = l.inside in omega arith) (ap Ok s)

-- the sum of the first of them, as the place of one is worked out
pub sum-taken : (sizes : List ℕ) (a : ℕ) → a ≤ length sizes → sum (take a sizes) ≡ sum_to sizes a
unfolding sum_to
sum-taken sizes zero h = refl
sum-taken sizes (suc a) h =
    let more = sum-taken sizes a (omega arith) in
    let split = ap sum (take-suc sizes a 0 (omega arith)) ∙ sum_by-append (λ (x : ℕ). x) (take a sizes) (get_or sizes a 0 ∷ []) in
    omega arith

-- ---- the trees

module _ (T : ℕ → List State) where
  -- all trees are small
  each-small : (i n : ℕ) → ((A : ℕ) → i ≤ A → A < i + n → length (T A) ≤ 2048) → all_small (each_from T i n) ≡ true
  unfolding all_small
  each-small i zero h = refl
  each-small i (suc n) h = rw (le-leb (length (T i)) 2048 (h i (omega arith) (omega arith)), each-small (suc i) n (λ A a b. h A (omega arith) (omega arith)))

  -- one is not
  one-large : (i n A : ℕ) → i ≤ A → A < i + n → 2048 < length (T A) → all_small (each_from T i n) ≡ false
  unfolding all_small
  one-large i zero A a b h = absurd (omega arith)
  one-large i (suc n) A a b h = by (dec_lt i A) (leb (length (T i)) 2048) refl (λ l. one-large (suc i) n A l (omega arith) h)
    where
      later : (x : Bool) → all_small (each_from T (suc i) n) ≡ false → (x && all_small (each_from T (suc i) n)) ≡ false
      later true e = e
      later false e = refl

      by : Dec (i < A) → (x : Bool) → leb (length (T i)) 2048 ≡ x → (i < A → all_small (each_from T (suc i) n) ≡ false) → (x && all_small (each_from T (suc i) n)) ≡ false
      by (yes l) x e more = later x (more l)
      by (no l) x e more =
          let same : A ≡ i = omega arith in
          let no_leb : leb (length (T i)) 2048 ≡ false = lt-leb (length (T i)) 2048 (subst (λ (B : ℕ). 2048 < length (T B)) same h) in
          let z : x ≡ false = sym e ∙ no_leb in
          rw z

  -- a sum from a place on
  sums-bytes : (sizes : List ℕ) (i n : ℕ) → ((A : ℕ) → i ≤ A → A < i + n → get_or sizes A 0 ≡ length (bytes_of (T A))) → sum_to sizes i + length (automata_bytes (each_from T i n)) ≡ sum_to sizes (i + n)
  unfolding automata_bytes sum_to
  sums-bytes sizes i zero h = let z : i + 0 ≡ i = omega arith in ap (λ (m : ℕ). m + 0) refl ∙ (let y : sum_to sizes i + 0 ≡ sum_to sizes i = omega arith in y) ∙ ap (sum_to sizes) (sym z)
  sums-bytes sizes i (suc n) h =
      let l = length-append (bytes_of (T i)) (automata_bytes (each_from T (suc i) n)) in
      let e = h i (omega arith) (omega arith) in
      let more = sums-bytes sizes (suc i) n (λ A a b. h A (omega arith) (omega arith)) in
      let z : i + suc n ≡ suc i + n = omega arith in
      ap (λ (m : ℕ). sum_to sizes i + m) l ∙ (let y : sum_to sizes i + (length (bytes_of (T i)) + length (automata_bytes (each_from T (suc i) n))) ≡ sum_to sizes i + get_or sizes i 0 + length (automata_bytes (each_from T (suc i) n)) = omega arith in y) ∙ more ∙ ap (sum_to sizes) (sym z)

-- one tree has too many states: that is told first
pub large-answer : {T : ℕ → List State} {n : ℕ} → OneLarge T n → (room : ℕ) → answer_for room (each_from T 0 n) ≡ refused 23
unfolding answer_for
large-answer {T} {n} l room = rw (one-large T 0 n l.which (omega arith) (let h = l.inside in omega arith) l.many) refl

module _ {T : ℕ → List State} {n : ℕ} {sizes : List ℕ} (sized : AllSized T n sizes) where
  -- the sum of the sizes is the number of all bytes
  pub sum_is : length (automata_bytes (each_from T 0 n)) ≡ sum_to sizes n
  unfolding sum_to
  sum_is = let z : 0 + n ≡ n = omega arith in let y : length (automata_bytes (each_from T 0 n)) ≡ 0 + length (automata_bytes (each_from T 0 n)) = omega arith in y ∙ sums-bytes T sizes 0 n (λ A a b. (sized.each A (omega arith)).is) ∙ ap (sum_to sizes) z

  -- all trees are small
  all-few : all_small (each_from T 0 n) ≡ true
  all-few = each-small T 0 n (λ A a b. (sized.each A (omega arith)).few)

  module _ {room : ℕ} {r : Result ℕ Refusal} (totals : Totals n sizes room r) where
    -- too few bytes are told
    pub total-short : (e : Refusal) → r ≡ Err e → (e ≡ LentTooFew) × (answer_for room (each_from T 0 n) ≡ refused 10)
    unfolding answer_for
    total-short e z = by totals
      where
        by : Totals n sizes room r → (e ≡ LentTooFew) × (answer_for room (each_from T 0 n) ≡ refused 10)
        by (Totals.short h q) = (let x : Err e ≡ Err LentTooFew = sym z ∙ q in cc, rw (all-few, lt-leb (length (automata_bytes (each_from T 0 n))) room (omega (arith, sum_is))) refl)
        by (Totals.fits h q) = let x : Ok (sum_to sizes n) ≡ Err e = sym q ∙ z in let y : ◌≡◌ {A = ℕ} 0 1 = cc in absurd (omega arith)

    -- or how many there are, and all fit
    pub total-fits : (bytes : ℕ) → r ≡ Ok bytes → Fitting T n sizes room × (answer_for room (each_from T 0 n) ≡ got (automata_bytes (each_from T 0 n))) × (bytes ≡ length (automata_bytes (each_from T 0 n)))
    unfolding answer_for
    total-fits bytes z = by totals
      where
        by : Totals n sizes room r → Fitting T n sizes room × (answer_for room (each_from T 0 n) ≡ got (automata_bytes (each_from T 0 n))) × (bytes ≡ length (automata_bytes (each_from T 0 n)))
        by (Totals.short h q) = let x : Err LentTooFew ≡ Ok bytes = sym q ∙ z in let y : ◌≡◌ {A = ℕ} 0 1 = cc in absurd (omega arith)
        by (Totals.fits h q) = (
          record { sized = sized; fits = h },
          rw (all-few, le-leb (length (automata_bytes (each_from T 0 n))) room (omega (arith, sum_is))) refl,
          let x : Ok (sum_to sizes n) ≡ Ok bytes = sym q ∙ z in let y : sum_to sizes n ≡ bytes = cc in sym y ∙ sym sum_is,
        )
