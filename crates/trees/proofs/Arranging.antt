-- The numbers of strings are brought into dictionary order. Assumes nothing.
use Prim.Native.Nat.{ℕ, zero, suc, ◌+◌, ◌-◌, ◌/◌, ◌≤◌, ◌<◌}
use native.Mathlib.Omega.{arith}
use native.Mathlib.Numerals.{add-one}
use native.Mathlib.Decide.{dec_lt}
use mathlib.Core.Path.{◌≡◌, refl, sym, ap, ap₂, ◌∙◌, subst}
use mathlib.Core.Bool.{Bool, true, false, true≢false, false≢true}
use mathlib.Core.Logic.{◌↔◌, ◌⊎◌, inl, inr, ⊎_elim}
use mathlib.Core.List.Memᴰ
use mathlib.Core.List.Memᴰ.{append_cases}
use mathlib.Core.List.Memᴰ.{eq_of_singleton as only}
use mathlib.Core.List.Memᴰ.{head as here}
use mathlib.Core.List.Memᴰ.{not-nil}
use mathlib.Core.List.{List, [], ◌∷◌, ◌++◌, append_assoc, append-nil}
use Rattle.std.specs.Prelude.{Option, Some, None, not}
use Rattle.std.specs.Option.{option_eq, option_partial_cmp}
use Rattle.std.specs.Ordering.{partial_lt}
use Rattle.std.specs.declared.cmp.Ordering.{Ordering}
use borrow.Author.Tests.{eqb-true, eq-eqb, lt-ltb, le-ltb, ltb-true, ltb-false}
use lib.Dec.{eqb, ltb}
use lib.ListN.{length, get_or, take, drop, set, length-set, length-append, length-drop, take-append-drop, drop_of_length-le, get_or-append}
use lib.Seq.{length-take-le, take_all, take-suc, drop-cons, take-suc-set, take_at, drop_at}
use Rattle.cfg.specs.Grammar.{Word}
use Rattle.k_tuples.specs.Sets.{◌∈◌}
use Rattle.decision_theory.proofs.Lists.{at_place, place_of}
use Rattle.trees.specs.Listed.{Listed, word_at, code_at, code_of}
use Rattle.trees.specs.Order.{not_after, Inside, left_next, merged, Sorted, Arranged, Numbers, InOrder}
use Rattle.trees.proofs.Reading.{word-short}
use Rattle.trees.proofs.Ordering.{codes_same, codes-differ, merge-left, merge-right, merged-members, merged-sorted}

-- Nothing is left behind the end.
past : {A : Type 0} (l : List A) (e : ℕ) → length l ≤ e → drop e l ≡ []
past l e h = drop_of_length-le l h

-- ---- two strings

-- Their first e letters are the same.
pub record Comparing (v w : Word) (e : ℕ) : Type 0 where
  pub below : e ≤ 10
  pub rest : not_after (drop e v) (drop e w) ≡ not_after v w

-- Letters that are told the same have the same code,
pub codes-equal : (a b : Option ℕ) → not (option_eq eqb a b) ≡ false → code_of a ≡ code_of b
codes-equal None None e = refl
codes-equal None (Some t) e = absurd (true≢false e)
codes-equal (Some s) None e = absurd (true≢false e)
codes-equal (Some s) (Some t) e = by (eqb s t) refl
  where
    by : (x : Bool) → eqb s t ≡ x → suc s ≡ suc t
    by true q = ap suc (eqb-true s t q)
    by false q = absurd (true≢false (sym (ap not q) ∙ e))

-- and others have not.
pub codes-apart : (a b : Option ℕ) → not (option_eq eqb a b) ≡ true → code_of a ≡ code_of b → ⊥
codes-apart None None e q = false≢true e
codes-apart None (Some t) e q = omega arith
codes-apart (Some s) None e q = omega arith
codes-apart (Some s) (Some t) e q = let h : s ≡ t = omega arith in false≢true (sym (ap not (eq-eqb s t h)) ∙ e)

-- One comes before another where its code does.
pub codes-lower : (C : ℕ → ℕ → Option Ordering) → ((s t : ℕ) → partial_lt C s t ≡ ltb s t) → (a b : Option ℕ) → partial_lt (option_partial_cmp C) a b ≡ ltb (code_of a) (code_of b)
codes-lower C is None None = refl
codes-lower C is None (Some t) = sym (lt-ltb 0 (suc t) (omega arith))
codes-lower C is (Some s) None = sym (le-ltb (suc s) 0 (omega arith))
codes-lower C is (Some s) (Some t) = is s t ∙ by (ltb s t) refl
  where
    by : (x : Bool) → ltb s t ≡ x → ltb s t ≡ ltb (suc s) (suc t)
    by true q = q ∙ sym (lt-ltb (suc s) (suc t) (let h = ltb-true s t q in omega arith))
    by false q = q ∙ sym (le-ltb (suc s) (suc t) (let h = ltb-false s t q in omega arith))

module _ (v w : Word) where
  pub compare-start : Comparing v w 0
  compare-start = record { below = omega arith; rest = refl }

  module _ (e a b : ℕ) (c : Comparing v w e) (left : a ≡ code_at v e) (right : b ≡ code_at w e) where
    pub compare-more : e < 10 → a ≡ b → Comparing v w (e + 1)
    compare-more h q = record { below = omega arith; rest = rw add-one (sym (codes_same v w e (sym left ∙ q ∙ right)) ∙ c.rest) }

    pub compare-done : (a ≡ b → ⊥) → ltb a b ≡ not_after v w
    compare-done n = ap₂ ltb left right ∙ sym (codes-differ v w e (λ q. n (left ∙ q ∙ sym right))) ∙ c.rest

pub compare-end : (ws : List ℕ) (n i j e : ℕ) → Listed ws n → i < n → Comparing (word_at ws i) (word_at ws j) e → 10 ≤ e → true ≡ not_after (word_at ws i) (word_at ws j)
unfolding not_after
compare-end ws n i j e listed l c h = let s = word-short ws n i listed l in ap (λ (x : Word). not_after x (drop e (word_at ws j))) (sym (past (word_at ws i) e (omega arith))) ∙ c.rest

-- ---- a copy

pub record Copying (from to₀ to : List ℕ) (i : ℕ) : Type 0 where
  pub same : length to ≡ length to₀
  pub room : length from ≤ length to
  pub below : i ≤ length from
  pub front : take i to ≡ take i from

module _ (from to₀ : List ℕ) where
  pub copy_start : length from ≤ length to₀ → Copying from to₀ to₀ 0
  copy_start e = record { same = refl; room = e; below = omega arith; front = refl }

  pub copy_more : (to : List ℕ) (i : ℕ) → Copying from to₀ to i → i < length from → Copying from to₀ (set to i (get_or from i 0)) (i + 1)
  copy_more to i c h =
      let e = c.room in record {
        same = length-set to i (get_or from i 0) ∙ c.same;
        room = rw length-set c.room;
        below = omega arith;
        front = rw add-one (take-suc-set to i (get_or from i 0) (omega arith) ∙ ap (λ (l : List ℕ). l ++ get_or from i 0 ∷ []) c.front ∙ sym (take-suc from i 0 h));
      }

  pub copy-end : (to : List ℕ) (i : ℕ) → Copying from to₀ to i → length from ≤ i → take (length from) to ≡ from
  copy-end to i c h =
      let b = c.below in
      let e : i ≡ length from = omega arith in
      ap (λ (k : ℕ). take k to) (sym e) ∙ c.front ∙ take_all i from h

-- ---- numbers from 0 on

pub record Counting (size : ℕ) (xs : List ℕ) (i : ℕ) : Type 0 where
  pub long : length xs ≡ size
  pub below : i ≤ size
  pub front : (j : ℕ) → j ∈ take i xs ↔ (j < i)

pub count-start : (xs : List ℕ) → Counting (length xs) xs 0
count-start xs = record { long = refl; below = omega arith; front = λ j. (λ m. absurd (not-nil m), λ h. absurd (omega arith)) }

pub count-more : (size : ℕ) (xs : List ℕ) (i : ℕ) → Counting size xs i → i < length xs → Counting size (set xs i i) (i + 1)
count-more size xs i c h =
    let e = c.long in record {
      long = length-set xs i i ∙ c.long;
      below = omega arith;
      front = λ j. rw (add-one, take-suc-set xs i i h) (
        λ m. ⊎_elim (λ n. let l = (c.front j).0 n in omega arith) (λ n. let q = only n in omega arith) (append_cases (take i xs) m),
        λ l. at j l (dec_lt j i),
      );
    }
  where
    at : (j : ℕ) → j < suc i → Dec (j < i) → j ∈ (take i xs ++ i ∷ [])
    at j l (yes d) = Memᴰ.append_left (i ∷ []) ((c.front j).1 d)
    at j l (no d) = let q : j ≡ i = omega arith in Memᴰ.append_right (take i xs) (here q)

pub count-end : (size : ℕ) (xs : List ℕ) (i : ℕ) → Counting size xs i → length xs ≤ i → Numbers size xs
count-end size xs i c h =
    let a = c.long in
    let b = c.below in
    let e : i ≡ size = omega arith in
    record { size = c.long; all = λ j. subst (λ (k : ℕ). j ∈ xs ↔ (j < k)) e (subst (λ (l : List ℕ). j ∈ l ↔ (j < i)) (take_all i xs h) (c.front j)) }

-- ---- which is next

-- What stands at a place of them is the number of a string.
pub inside-at : (n : ℕ) (xs : List ℕ) (i : ℕ) → Inside n xs → i < length xs → get_or xs i 0 < n
inside-at n xs i h l = h (get_or xs i 0) (at_place xs 0 i l)

module _ (ws left right : List ℕ) (i j : ℕ) where
  pub next-none : length left ≤ i → false ≡ left_next ws (drop i left) (drop j right)
  unfolding left_next
  next-none h = ap (λ (xs : List ℕ). left_next ws xs (drop j right)) (sym (past left i h))

  pub next-left : i < length left → length right ≤ j → true ≡ left_next ws (drop i left) (drop j right)
  unfolding left_next
  next-left l h = ap₂ (left_next ws) (sym (drop-cons left i 0 l)) (sym (past right j h))

  pub next_both : i < length left → j < length right → (r : Bool) → r ≡ not_after (word_at ws (get_or left i 0)) (word_at ws (get_or right j 0)) → r ≡ left_next ws (drop i left) (drop j right)
  unfolding left_next
  next_both l h r e = e ∙ ap₂ (left_next ws) (sym (drop-cons left i 0 l)) (sym (drop-cons right j 0 h))

-- ---- merging

-- i of the left and j of the right were taken: so many as there are places filled.
pub record Merging (ws left right both : List ℕ) (i j at : ℕ) : Type 0 where
  pub size : length both ≡ length left + length right
  pub some : i ≤ length left
  pub others : j ≤ length right
  pub place : at ≡ i + j
  pub come : take at both ++ merged ws (drop i left) (drop j right) ≡ merged ws left right

module _ (ws left right : List ℕ) where
  pub merge-start : (both : List ℕ) → length both ≡ length left + length right → Merging ws left right both 0 0 0
  merge-start both e = record { size = e; some = omega arith; others = omega arith; place = refl; come = refl }

  module _ (both : List ℕ) (i j at : ℕ) (m : Merging ws left right both i j at) (h : at < length both) (b : Bool) (next : b ≡ left_next ws (drop i left) (drop j right)) where
    -- Where the left is next there is one, and where the right is.
    pub left-some : b ≡ true → i < length left
    unfolding left_next
    left-some t = by (dec_lt i (length left))
      where
        by : Dec (i < length left) → i < length left
        by (yes l) = l
        by (no l) = let e : false ≡ true = ap (λ (xs : List ℕ). left_next ws xs (drop j right)) (sym (past left i (omega arith))) ∙ sym next ∙ t in let z : ◌≡◌ {A = ℕ} 0 1 = cc in absurd (omega arith)

    pub right-some : b ≡ false → j < length right
    unfolding left_next
    right-some t = by (dec_lt j (length right))
      where
        by : Dec (j < length right) → j < length right
        by (yes l) = l
        by (no l) =
            let i-in : i < length left = let a = m.size in let c = m.some in let p = m.place in omega arith in
            let e : true ≡ false = ap₂ (left_next ws) (sym (drop-cons left i 0 i-in)) (sym (past right j (omega arith))) ∙ sym next ∙ t in
            let z : ◌≡◌ {A = ℕ} 0 1 = cc in absurd (omega arith)

    pub merge-one : b ≡ true → Merging ws left right (set both at (get_or left i 0)) (i + 1) j (at + 1)
    merge-one t =
        let l = left-some t in
        let x = get_or left i 0 in
        let place = add-one at in
        let split = drop-cons left i 0 l in
        record {
          size = length-set both at x ∙ m.size;
          some = omega arith;
          others = m.others;
          place = let p = m.place in omega arith;
          come =
              ap (λ (k : ℕ). take k (set both at x) ++ merged ws (drop (i + 1) left) (drop j right)) place
              ∙ ap (λ (L : List ℕ). L ++ merged ws (drop (i + 1) left) (drop j right)) (take-suc-set both at x h)
              ∙ append_assoc (take at both) (x ∷ []) (merged ws (drop (i + 1) left) (drop j right))
              ∙ ap (λ (L : List ℕ). take at both ++ L)
              (rw add-one (sym (ap (λ (L : List ℕ). merged ws L (drop j right)) split ∙ merge-left ws x (drop (suc i) left) (drop j right) (ap (λ (L : List ℕ). left_next ws L (drop j right)) (sym split) ∙ sym next ∙ t))))
              ∙ m.come;
        }

    pub merge-other : b ≡ false → Merging ws left right (set both at (get_or right j 0)) i (j + 1) (at + 1)
    merge-other t =
        let l = right-some t in
        let x = get_or right j 0 in
        let place = add-one at in
        let split = drop-cons right j 0 l in
        record {
          size = length-set both at x ∙ m.size;
          some = m.some;
          others = omega arith;
          place = let p = m.place in omega arith;
          come =
              ap (λ (k : ℕ). take k (set both at x) ++ merged ws (drop i left) (drop (j + 1) right)) place
              ∙ ap (λ (L : List ℕ). L ++ merged ws (drop i left) (drop (j + 1) right)) (take-suc-set both at x h)
              ∙ append_assoc (take at both) (x ∷ []) (merged ws (drop i left) (drop (j + 1) right))
              ∙ ap (λ (L : List ℕ). take at both ++ L)
              (rw add-one (sym (ap (merged ws (drop i left)) split ∙ merge-right ws (drop i left) x (drop (suc j) right) (ap (left_next ws (drop i left)) (sym split) ∙ sym next ∙ t))))
              ∙ m.come;
        }

  pub merge-end : (both : List ℕ) (i j at : ℕ) → Merging ws left right both i j at → length both ≤ at → both ≡ merged ws left right
  unfolding merged
  merge-end both i j at m h =
      let a = m.size in
      let b = m.some in
      let c = m.others in
      let p = m.place in
      sym (append-nil both)
      ∙ ap₂ ◌++◌ (sym (take_all at both h)) (ap₂ (merged ws) (sym (past left i (omega arith))) (sym (past right j (omega arith))))
      ∙ m.come

-- ---- parts of a list

module _ (l : List ℕ) (m : ℕ) where
  -- What a part holds the list holds.
  front-in : (j : ℕ) → j ∈ take m l → j ∈ l
  front-in j i = subst (λ (x : List ℕ). j ∈ x) (take-append-drop m l) (Memᴰ.append_left (drop m l) i)

  back_in : (j : ℕ) → j ∈ drop m l → j ∈ l
  back_in j i = subst (λ (x : List ℕ). j ∈ x) (take-append-drop m l) (Memᴰ.append_right (take m l) i)

  -- What the list holds is in one of its parts.
  in_parts : (j : ℕ) → j ∈ l → (j ∈ take m l) ⊎ (j ∈ drop m l)
  in_parts j i = append_cases (take m l) (subst (λ (x : List ℕ). j ∈ x) (sym (take-append-drop m l)) i)

  -- The part from m on, as it is lent.
  pub back_is : take (length l - m) (drop m l) ≡ drop m l
  back_is = take_all (length l - m) (drop m l) (let e = length-drop m l in omega arith)

  pub front-size : m ≤ length l → m ≡ length (take m l)
  front-size h = sym (length-take-le m l h)

  pub parts-size : m ≤ length l → length l ≡ length (take m l) + length (take (length l - m) (drop m l))
  parts-size h = let a = length-take-le m l h in let b = ap length back_is in let c = length-drop m l in omega arith

  module _ (n : ℕ) (h : Inside n l) where
    pub front-inside : Inside n (take m l)
    front-inside j i = h j (front-in j i)

    pub back_inside : Inside n (take (length l - m) (drop m l))
    back_inside j i = h j (back_in j (subst (λ (x : List ℕ). j ∈ x) back_is i))

  -- Two parts as one.
  pub merged-parts : (ws r : List ℕ) → r ≡ merged ws (take m l) (take (length l - m) (drop m l)) → r ≡ merged ws (take m l) (drop m l)
  merged-parts ws r e = e ∙ ap (merged ws (take m l)) back_is

-- ---- a copy of the list as the two parts

module _ (order spare : List ℕ) (copied : take (length order) spare ≡ order) where
  pub copied-inside : (n : ℕ) → Inside n order → Inside n (take (length order) spare)
  copied-inside n h = rw copied h

  pub copied-size : length order ≡ length (take (length order) spare)
  copied-size = sym (ap length copied)

  pub copied-merged : (ws r : List ℕ) (m : ℕ) → r ≡ merged ws (take m (take (length order) spare)) (drop m (take (length order) spare)) → r ≡ merged ws (take m order) (drop m order)
  copied-merged ws r m e = e ∙ ap (λ (l : List ℕ). merged ws (take m l) (drop m l)) copied

-- ---- sorting

-- Fewer than two are in order.
pub few-arranged : (ws xs : List ℕ) → length xs < 2 → Arranged ws xs xs
few-arranged ws [] h = record { same = λ j. (λ m. m, λ m. m); sorted = tt }
few-arranged ws (x ∷ []) h = record { same = λ j. (λ m. m, λ m. m); sorted = (λ y m. absurd (not-nil m), tt) }
few-arranged ws (x ∷ y ∷ xs) h = absurd (omega arith)

-- Two parts that are in order, as one.
pub merged-arranged : (ws xs a b r : List ℕ) (m : ℕ) → Arranged ws (take m xs) a → Arranged ws (drop m xs) b → r ≡ merged ws a b → Arranged ws xs r
merged-arranged ws xs a b r m left right e = rw e (record {
  same = λ j. (
    λ i. ⊎_elim (λ k. front-in xs m j ((left.same j).0 k)) (λ k. back_in xs m j ((right.same j).0 k)) ((merged-members ws a b j).0 i),
    λ i. (merged-members ws a b j).1 (⊎_elim (λ k. inl ((left.same j).1 k)) (λ k. inr ((right.same j).1 k)) (in_parts xs m j i)),
  );
  sorted = merged-sorted ws a b left.sorted right.sorted;
})

-- The same members are inside.
pub arranged-inside : (ws xs a : List ℕ) (n : ℕ) → Arranged ws xs a → Inside n xs → Inside n a
arranged-inside ws xs a n h k j i = k j ((h.same j).0 i)

-- ---- the halves, one after the other

-- The first half was brought into order: a stands for it.
module _ (o a : List ℕ) (size : length a ≡ length (take (length o / 2) o)) where
  -- how many are in the first half
  abbrev m : ℕ
  m = length o / 2

  -- the second half, as it is lent
  abbrev pub half : List ℕ
  half = take (length (a ++ drop m o) - m) (drop m (a ++ drop m o))

  a-size : length a ≡ m
  a-size = size ∙ length-take-le m o (omega arith)

  pub half_is : half ≡ drop m o
  half_is =
      let e : drop m (a ++ drop m o) ≡ drop m o = drop_at a (drop m o) m a-size in
      back_is (a ++ drop m o) m ∙ e

  pub half-inside : (n : ℕ) → Inside n o → Inside n half
  half-inside n h = rw half_is (λ j i. h j (back_in o m j i))

  pub half-size : length half + m ≡ length o
  half-size = let e = ap length half_is in let d = length-drop m o in omega arith

  -- Then the second: b stands for it.
  module _ (b : List ℕ) (size-b : length b ≡ length half) where
    -- the list, as it comes back
    abbrev pub whole : List ℕ
    whole = take m (a ++ drop m o) ++ (b ++ drop (length (a ++ drop m o) - m) (drop m (a ++ drop m o)))

    whole_is : whole ≡ a ++ b
    whole_is =
        let front : take m (a ++ drop m o) ≡ a = take_at a (drop m o) m a-size in
        let none : drop (length (a ++ drop m o) - m) (drop m (a ++ drop m o)) ≡ [] = past (drop m (a ++ drop m o)) (length (a ++ drop m o) - m) (let e = length-drop m (a ++ drop m o) in omega arith) in
        ap₂ ◌++◌ front (ap (λ (l : List ℕ). b ++ l) none ∙ append-nil b)

    pub whole-size : length whole ≡ length o
    whole-size = ap length whole_is ∙ length-append a b ∙ (let h = half-size in let k = a-size in omega arith)

    pub whole-inside : (ws : List ℕ) (n : ℕ) → Inside n o → Arranged ws (take m o) a → Arranged ws half b → Inside n whole
    whole-inside ws n h left right j i =
        ⊎_elim (λ k. h j (front-in o m j ((left.same j).0 k))) (λ k. half-inside n h j ((right.same j).0 k))
        (append_cases a (subst (λ (l : List ℕ). j ∈ l) whole_is i))

    pub whole-arranged : (ws r : List ℕ) → Arranged ws (take m o) a → Arranged ws half b → r ≡ merged ws (take m whole) (drop m whole) → Arranged ws o r
    whole-arranged ws r left right e =
        merged-arranged ws o a b r m left (subst (λ (l : List ℕ). Arranged ws l b) half_is right)
        (e ∙ ap₂ (merged ws) (ap (take m) whole_is ∙ take_at a b m a-size) (ap (drop m) whole_is ∙ drop_at a b m a-size))

-- ---- all numbers in order

-- What is in order is so at any two places.
sorted-at : (ws xs : List ℕ) → Sorted ws xs → (c d : ℕ) → c < d → d < length xs → not_after (word_at ws (get_or xs c 0)) (word_at ws (get_or xs d 0)) ≡ true
sorted-at ws [] up c d l h = absurd (omega arith)
sorted-at ws (x ∷ xs) up c zero l h = absurd (omega arith)
sorted-at ws (x ∷ xs) up zero (suc d) l h = up.0 (get_or xs d 0) (at_place xs 0 d (omega arith))
sorted-at ws (x ∷ xs) up (suc c) (suc d) l h = sorted-at ws xs up.1 c d (omega arith) (omega arith)

-- The first n places were numbered.
module _ (n : ℕ) (o num : List ℕ) (fits : n ≤ length o) (numbers : Numbers (length (take n o)) num) where
  num-length : length num ≡ n
  num-length = numbers.size ∙ length-take-le n o fits

  num-is : take n (num ++ drop n o) ≡ num
  num-is = take_at num (drop n o) n num-length

  num-all : (j : ℕ) → j ∈ num ↔ (j < n)
  num-all j = subst (λ (k : ℕ). j ∈ num ↔ (j < k)) (length-take-le n o fits) (numbers.all j)

  pub num-size : n ≡ length (take n (num ++ drop n o))
  num-size = sym (ap length num-is ∙ num-length)

  pub num-inside : Inside n (take n (num ++ drop n o))
  num-inside = rw num-is (λ j i. (num-all j).0 i)

  -- Then they were sorted.
  pub in_order : (ws s : List ℕ) → length s ≡ length (take n (num ++ drop n o)) → Arranged ws (take n (num ++ drop n o)) s → InOrder ws n (s ++ drop n (num ++ drop n o))
  in_order ws s size arranged = record {
    room = let e = length-append s rest in let l = s-length in omega arith;
    inside = λ c h. rw (at c h) ((num-all (get_or s c 0)).0 ((same (get_or s c 0)).0 (at_place s 0 c (let l = s-length in omega arith))));
    whole = λ j h.
        let (c, l, e) = place_of j 0 s ((same j).1 ((num-all j).1 h)) in
        let k : c < n = let z = s-length in omega arith in
        (c, k, at c k ∙ e);
    rising = λ c d l h. rw (at c (omega arith), at d h) (sorted-at ws s arranged.sorted c d l (let z = s-length in omega arith));
  }
    where
      rest : List ℕ
      rest = drop n (num ++ drop n o)

      s-length : length s ≡ n
      s-length = size ∙ sym num-size

      at : (c : ℕ) → c < n → get_or (s ++ drop n (num ++ drop n o)) c 0 ≡ get_or s c 0
      at c h = get_or-append s (drop n (num ++ drop n o)) 0 c (let e = s-length in omega arith)

      same : (j : ℕ) → j ∈ s ↔ j ∈ num
      same j = subst (λ (l : List ℕ). j ∈ s ↔ j ∈ l) num-is (arranged.same j)
