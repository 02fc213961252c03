-- The union of two rising lists by their first members and by their last, and what they have in common by their first. Assumes nothing.
use mathlib.Core.Path.{◌≡◌, refl, sym, ap, ◌∙◌, subst}
use mathlib.Core.Bool.{Bool, true, false, cond, ◌&&◌}
use mathlib.Core.List.{List, [], ◌∷◌, ◌++◌}
use mathlib.Core.Logic.{◌⊎◌, inl, inr, ⊎_elim}
use Prim.Native.Nat.{ℕ, zero, suc, ◌+◌, ◌≤◌, ◌<◌}
use native.Mathlib.Omega.{arith}
use borrow.Author.Tests.{ltb-true, ltb-false, lt-ltb, le-ltb, ne_eqb, eq-eqb, eqb-true, eqb-false}
use lib.Dec.{ltb, eqb}
use lib.ListN.{length, get_or, take, drop}
use Rattle.k_tuple.specs.declared.Terminals.{Terminals}
use Rattle.k_tuple.specs.Packed.{number_of, less_of}
use Rattle.k_tuple.proofs.Ordered.{ltb-like}
use Rattle.std.specs.declared.cmp.Ordering.TheVariants.{Less, Equal, Greater}
use Rattle.k_tuples.specs.Members.{before, rising, rank, adding, add_all, same_member, has_of, both_of, none_of}
use Rattle.k_tuples.specs.Merging.{side_of, Passed}
use Rattle.k_tuples.proofs.Rising.{both, less-trans, rising-add_all, length-add_all, add_all-append}

-- ---- where two members stand

not-less : (x y : Terminals) → less_of x y ≡ true → less_of y x ≡ false
unfolding less_of
not-less x y e = by (ltb (number_of y) (number_of x)) refl
  where
    by : (t : Bool) → ltb (number_of y) (number_of x) ≡ t → t ≡ false
    by true f = absurd (omega (arith, ltb-true (number_of x) (number_of y) e, ltb-true (number_of y) (number_of x) f))
    by false f = refl

below-differs : (x y : Terminals) → less_of x y ≡ true → number_of x ≡ number_of y → ⊥
unfolding less_of
below-differs x y e s = absurd (omega (arith, ltb-true (number_of x) (number_of y) e))

-- neither comes before the other
pub record Level (x y : Terminals) : Type 0 where
  pub not-below : less_of x y ≡ false
  pub not-above : less_of y x ≡ false

level-number : {x y : Terminals} → Level x y → number_of x ≡ number_of y
unfolding less_of
level-number {x} {y} l = omega (arith, ltb-false (number_of x) (number_of y) l.not-below, ltb-false (number_of y) (number_of x) l.not-above)

module _ (x y : Terminals) where
  pub is_below : side_of x y ≡ Less → less_of x y ≡ true
  unfolding side_of less_of
  is_below = by (ltb (number_of x) (number_of y)) (eqb (number_of x) (number_of y))
    where
      by : (s t : Bool) → cond s Less (cond t Equal Greater) ≡ Less → s ≡ true
      by true t e = refl
      by false true e = absurd (cc)
      by false false e = absurd (cc)

  pub is-above : side_of x y ≡ Greater → less_of y x ≡ true
  unfolding side_of less_of
  is-above = by (ltb (number_of x) (number_of y)) (eqb (number_of x) (number_of y)) refl refl
    where
      by : (s t : Bool) → ltb (number_of x) (number_of y) ≡ s → eqb (number_of x) (number_of y) ≡ t → cond s Less (cond t Equal Greater) ≡ Greater → ltb (number_of y) (number_of x) ≡ true
      by true t a b e = absurd (cc)
      by false true a b e = absurd (cc)
      by false false a b e =
          let h = ltb-false (number_of x) (number_of y) a in
          let n = eqb-false (number_of x) (number_of y) b in
          lt-ltb (number_of y) (number_of x) (omega arith)

  pub is_same : side_of x y ≡ Equal → Level x y
  unfolding side_of less_of
  is_same = by (ltb (number_of x) (number_of y)) (eqb (number_of x) (number_of y)) refl refl
    where
      by : (s t : Bool) → ltb (number_of x) (number_of y) ≡ s → eqb (number_of x) (number_of y) ≡ t → cond s Less (cond t Equal Greater) ≡ Equal → Level x y
      by true t a b e = absurd (cc)
      by false true a b e =
          let h = eqb-true (number_of x) (number_of y) b in
          record { not-below = a; not-above = le-ltb (number_of y) (number_of x) (omega arith) }
      by false false a b e = absurd (cc)

-- ---- rising lists

pub rest-rises : (x : Terminals) (xs : List Terminals) → rising (x ∷ xs) ≡ true → rising xs ≡ true
unfolding rising
rest-rises x xs r = (both (before x xs) (rising xs) r).1

pub drop-rises : (i : ℕ) (xs : List Terminals) → rising xs ≡ true → rising (drop i xs) ≡ true
drop-rises zero xs r = r
drop-rises (suc i) [] r = r
drop-rises (suc i) (x ∷ xs) r = drop-rises i xs (rest-rises x xs r)

first_two : (x y : Terminals) (ys : List Terminals) → rising (x ∷ y ∷ ys) ≡ true → (less_of x y ≡ true) × (rising (y ∷ ys) ≡ true)
unfolding before rising
first_two x y ys r = both (less_of x y) (before y ys && rising ys) r

cons-rises : (x y : Terminals) (ys : List Terminals) → less_of x y ≡ true → rising (y ∷ ys) ≡ true → rising (x ∷ y ∷ ys) ≡ true
unfolding before rising
cons-rises x y ys l r = rw l r

-- the first n of a rising list rise
pub take-rises : (n : ℕ) (xs : List Terminals) → rising xs ≡ true → rising (take n xs) ≡ true
unfolding before rising
take-rises zero xs r = refl
take-rises (suc n) [] r = refl
take-rises (suc zero) (x ∷ xs) r = refl
take-rises (suc (suc n)) (x ∷ []) r = refl
take-rises (suc (suc n)) (x ∷ y ∷ ys) r =
    let p = first_two x y ys r in
    cons-rises x y (take n ys) p.0 (take-rises (suc n) (y ∷ ys) p.1)

-- what comes before the first comes before the rest
under : (x y : Terminals) (ys : List Terminals) → less_of x y ≡ true → rising (y ∷ ys) ≡ true → rising (x ∷ ys) ≡ true
unfolding before rising
under x y [] l r = refl
under x y (z ∷ zs) l r =
    let p = first_two y z zs r in
    rw (less-trans x y z l p.0) (unfold before rising in p.1)

-- so does what stands level with it
level-test : {x y : Terminals} (z : Terminals) → Level x y → less_of x z ≡ less_of y z
unfolding less_of
level-test z l = rw (level-number l)

level-test' : {x y : Terminals} (z : Terminals) → Level x y → less_of z x ≡ less_of z y
unfolding less_of
level-test' z l = rw (level-number l)

pub level-rises : {x y : Terminals} (ys : List Terminals) → Level x y → rising (y ∷ ys) ≡ true → rising (x ∷ ys) ≡ true
unfolding before rising
level-rises [] l r = refl
level-rises (z ∷ zs) l r = rw (level-test z l) r

pub level-swap : {x y : Terminals} → Level x y → Level y x
level-swap l = record { not-below = l.not-above; not-above = l.not-below }

-- ---- a union by the first members

-- a first that comes before all that is added stays the first
add-above : (x : Terminals) (ys ms : List Terminals) → rising (x ∷ ys) ≡ true → add_all ys (x ∷ ms) ≡ x ∷ add_all ys ms
unfolding add_all adding
add-above x [] ms r = refl
add-above x (y ∷ ys) ms r =
    let p = first_two x y ys r in
    rw p.0 (add-above x ys (adding y ms) (under x y ys p.0 p.1))

-- a set added to none is itself
pub add_none : (ys : List Terminals) → rising ys ≡ true → add_all ys [] ≡ ys
unfolding add_all adding
add_none [] r = refl
add_none (y ∷ ys) r = add-above y ys [] r ∙ ap (λ (l : List Terminals). y ∷ l) (add_none ys (rest-rises y ys r))

module _ (x y : Terminals) (xs ys : List Terminals) (r : rising (y ∷ ys) ≡ true) where
  pub first_below : less_of x y ≡ true → add_all (y ∷ ys) (x ∷ xs) ≡ x ∷ add_all (y ∷ ys) xs
  first_below e = add-above x (y ∷ ys) xs (cons-rises x y ys e r)

  pub first_above : less_of y x ≡ true → add_all (y ∷ ys) (x ∷ xs) ≡ y ∷ add_all ys (x ∷ xs)
  unfolding add_all adding
  first_above e = rw (not-less y x e, e) (add-above y ys (x ∷ xs) r)

  pub first-same : Level x y → add_all (y ∷ ys) (x ∷ xs) ≡ x ∷ add_all ys xs
  unfolding add_all adding
  first-same l = rw (l.not-below, l.not-above) (add-above x ys xs (level-rises ys l r))

-- what comes before the first that is added stays in front
module _ (y : Terminals) (ys : List Terminals) (r : rising (y ∷ ys) ≡ true) where
  pub add-behind : (ms : List Terminals) → add_all (y ∷ ys) ms ≡ take (rank y ms) ms ++ add_all (y ∷ ys) (drop (rank y ms) ms)
  unfolding rank
  add-behind [] = refl
  add-behind (m ∷ ms) = by (less_of m y) refl (add-behind ms)
    where
      by : (s : Bool) → less_of m y ≡ s → add_all (y ∷ ys) ms ≡ take (rank y ms) ms ++ add_all (y ∷ ys) (drop (rank y ms) ms)
          → add_all (y ∷ ys) (m ∷ ms) ≡ take (cond s (suc (rank y ms)) zero) (m ∷ ms) ++ add_all (y ∷ ys) (drop (cond s (suc (rank y ms)) zero) (m ∷ ms))
      by true e ih = first_below m y ms ys r e ∙ ap (λ (l : List Terminals). m ∷ l) ih
      by false e ih = refl

  -- and where there is nothing else, the one follows the other
  pub add-after : (ms : List Terminals) → add_all (y ∷ ys) (take (rank y ms) ms) ≡ take (rank y ms) ms ++ y ∷ ys
  unfolding rank
  add-after [] = add_none (y ∷ ys) r
  add-after (m ∷ ms) = by (less_of m y) refl (add-after ms)
    where
      by : (s : Bool) → less_of m y ≡ s → add_all (y ∷ ys) (take (rank y ms) ms) ≡ take (rank y ms) ms ++ y ∷ ys
          → add_all (y ∷ ys) (take (cond s (suc (rank y ms)) zero) (m ∷ ms)) ≡ take (cond s (suc (rank y ms)) zero) (m ∷ ms) ++ y ∷ ys
      by true e ih = first_below m y (take (rank y ms) ms) ys r e ∙ ap (λ (l : List Terminals). m ∷ l) ih
      by false e ih = add_none (y ∷ ys) r

-- where nothing is gained, nothing is changed
adding-grows : (x : Terminals) (ms : List Terminals) → (adding x ms ≡ ms) ⊎ (length ms < length (adding x ms))
unfolding adding
adding-grows x [] = inr (omega arith)
adding-grows x (m ∷ ms) = by (less_of m x) (less_of x m) (adding-grows x ms)
  where
    by : (s t : Bool) → (adding x ms ≡ ms) ⊎ (length ms < length (adding x ms))
        → (cond s (m ∷ adding x ms) (cond t (x ∷ m ∷ ms) (m ∷ ms)) ≡ m ∷ ms) ⊎ (suc (length ms) < length (cond s (m ∷ adding x ms) (cond t (x ∷ m ∷ ms) (m ∷ ms))))
    by true t (inl e) = inl (ap (λ (l : List Terminals). m ∷ l) e)
    by true t (inr h) = inr (omega arith)
    by false true ih = inr (omega arith)
    by false false ih = inl refl

-- and a union is no longer than both together
adding-most : (x : Terminals) (ms : List Terminals) → length (adding x ms) ≤ length ms + 1
unfolding adding
adding-most x [] = omega arith
adding-most x (m ∷ ms) = by (less_of m x) (less_of x m) (adding-most x ms)
  where
    by : (s t : Bool) → length (adding x ms) ≤ length ms + 1 → length (cond s (m ∷ adding x ms) (cond t (x ∷ m ∷ ms) (m ∷ ms))) ≤ suc (length ms) + 1
    by true t ih = omega arith
    by false true ih = omega arith
    by false false ih = omega arith

pub length_most : (xs ms : List Terminals) → length (add_all xs ms) ≤ length ms + length xs
unfolding add_all
length_most [] ms = omega arith
length_most (x ∷ xs) ms = omega (arith, length_most xs (adding x ms), adding-most x ms)

pub add-idle : (xs ms : List Terminals) → length (add_all xs ms) ≤ length ms → add_all xs ms ≡ ms
unfolding add_all
add-idle [] ms h = refl
add-idle (x ∷ xs) ms h =
    ⊎_elim (λ (e : adding x ms ≡ ms). ap (add_all xs) e ∙ add-idle xs ms (subst (λ (l : List Terminals). length (add_all xs l) ≤ length ms) e h))
    (λ (l : length ms < length (adding x ms)). absurd (omega (arith, length-add_all xs (adding x ms))))
    (adding-grows x ms)

-- ---- a union by the last members

-- a list with one more behind it
infixl 20 ◌then◌
abbrev pub ◌then◌ : List Terminals → Terminals → List Terminals
xs then x = xs ++ x ∷ []

-- each comes before the last
before_last : (z : Terminals) (xs : List Terminals) (x : Terminals) → rising (z ∷ (xs then x)) ≡ true → less_of z x ≡ true
before_last z [] x r = (first_two z x [] r).0
before_last z (y ∷ ys) x r =
    let p = first_two z y (ys then x) r in
    less-trans z y x p.0 (before_last y ys x p.1)

before_more : (z : Terminals) (xs : List Terminals) (x y : Terminals) → before z ((xs then x) then y) ≡ before z (xs then x)
unfolding before
before_more z [] x y = refl
before_more z (w ∷ ws) x y = refl

pub then-rises : (xs : List Terminals) (x y : Terminals) → rising (xs then x) ≡ true → less_of x y ≡ true → rising ((xs then x) then y) ≡ true
unfolding before rising
then-rises [] x y r l = rw l
then-rises (z ∷ zs) x y r l =
    let p = both (before z (zs then x)) (rising (zs then x)) r in
    rw (before_more z zs x y, p.0) (then-rises zs x y p.1 l)

before-level : {x y : Terminals} (z : Terminals) (xs : List Terminals) → Level x y → before z (xs then x) ≡ before z (xs then y)
unfolding before
before-level z [] l = level-test' z l
before-level z (w ∷ ws) l = refl

pub then-level : {x y : Terminals} (xs : List Terminals) → Level x y → rising (xs then y) ≡ true → rising (xs then x) ≡ true
unfolding before rising
then-level [] l r = refl
then-level {x} {y} (z ∷ zs) l r =
    let p = both (before z (zs then y)) (rising (zs then y)) r in
    rw (before-level z zs l, p.0) (then-level zs l p.1)

-- a last that comes after what is added stays the last
adding-before : (y x : Terminals) (ms : List Terminals) → less_of y x ≡ true → adding y (ms then x) ≡ adding y ms then x
unfolding adding
adding-before y x [] l = rw (not-less y x l, l)
adding-before y x (m ∷ ms) l = by (less_of m y) (less_of y m) (adding-before y x ms l)
  where
    by : (s t : Bool) → adding y (ms then x) ≡ adding y ms then x
        → cond s (m ∷ adding y (ms then x)) (cond t (y ∷ m ∷ (ms then x)) (m ∷ (ms then x))) ≡ cond s (m ∷ adding y ms) (cond t (y ∷ m ∷ ms) (m ∷ ms)) then x
    by true t ih = ap (λ (l : List Terminals). m ∷ l) ih
    by false true ih = refl
    by false false ih = refl

add-before : (ys : List Terminals) (x : Terminals) (ms : List Terminals) → rising (ys then x) ≡ true → add_all ys (ms then x) ≡ add_all ys ms then x
unfolding add_all
add-before [] x ms r = refl
add-before (y ∷ ys) x ms r =
    ap (add_all ys) (adding-before y x ms (before_last y ys x r)) ∙ add-before ys x (adding y ms) (rest-rises y (ys then x) r)

-- one that comes after all goes behind them
adding-last : (ms : List Terminals) (y : Terminals) → rising (ms then y) ≡ true → adding y ms ≡ ms then y
unfolding adding
adding-last [] y r = refl
adding-last (m ∷ ms) y r = rw (before_last m ms y r) (ap (λ (l : List Terminals). m ∷ l) (adding-last ms y (rest-rises m (ms then y) r)))

-- one that stands level with the last changes nothing
adding-level : (ms : List Terminals) (x y : Terminals) → Level x y → rising (ms then x) ≡ true → adding y (ms then x) ≡ ms then x
unfolding adding
adding-level [] x y l r = rw (l.not-below, l.not-above)
adding-level (m ∷ ms) x y l r =
    rw (sym (level-test' m l) ∙ before_last m ms x r) (ap (λ (l : List Terminals). m ∷ l) (adding-level ms x y l (rest-rises m (ms then x) r)))

-- a union of what comes before y comes before y
add-rises : (ys xs : List Terminals) (y : Terminals) → rising (ys then y) ≡ true → rising (xs then y) ≡ true → rising (add_all ys xs then y) ≡ true
add-rises ys xs y r s = subst (λ (l : List Terminals). rising l ≡ true) (add-before ys y xs r) (rising-add_all ys (xs then y) s)

module _ (x y : Terminals) (xs ys : List Terminals) (s : rising (xs then x) ≡ true) (r : rising (ys then y) ≡ true) where
  pub last-below : less_of x y ≡ true → add_all (ys then y) (xs then x) ≡ add_all ys (xs then x) then y
  unfolding add_all
  last-below e = add_all-append ys (y ∷ []) (xs then x) ∙ adding-last (add_all ys (xs then x)) y (add-rises ys (xs then x) y r (then-rises xs x y s e))

  pub last-above : less_of y x ≡ true → add_all (ys then y) (xs then x) ≡ add_all (ys then y) xs then x
  last-above e = add-before (ys then y) x xs (then-rises ys y x r e)

  pub last-same : Level x y → add_all (ys then y) (xs then x) ≡ add_all ys xs then x
  unfolding add_all
  last-same l =
      let r' : rising (ys then x) ≡ true = then-level ys l r in
      add_all-append ys (y ∷ []) (xs then x) ∙ ap (adding y) (add-before ys x xs r') ∙ adding-level (add_all ys xs) x y l (add-rises ys xs x r' s)

-- ---- what two sets have in common, by the first members

module _ (x y : Terminals) (ys : List Terminals) where
  -- the test of `has_of`, where s tells whether y comes before x
  tested : Bool → Bool
  tested s = ltb (cond s (suc (rank x ys)) zero) (suc (length ys)) && same_member x (get_or (y ∷ ys) (cond s (suc (rank x ys)) zero) x)

  first-tested : (s : Bool) → s ≡ false → tested s ≡ same_member x y
  unfolding tested
  first-tested true e = absurd (let z : ◌≡◌ {A = ℕ} 0 1 = cc in omega arith)
  first-tested false e = rw (lt-ltb 0 (suc (length ys)) (omega arith))

  next-tested : (s : Bool) → s ≡ true → tested s ≡ (ltb (rank x ys) (length ys) && same_member x (get_or ys (rank x ys) x))
  unfolding tested
  next-tested true e =
      ap (λ (t : Bool). t && same_member x (get_or ys (rank x ys) x)) (ltb-like (suc (rank x ys)) (suc (length ys)) (rank x ys) (length ys) (λ h. omega arith) (λ h. omega arith))
  next-tested false e = absurd (let z : ◌≡◌ {A = ℕ} 0 1 = cc in omega arith)

  has-below : less_of x y ≡ true → has_of x (y ∷ ys) ≡ false
  unfolding has_of rank tested
  has-below e = first-tested (less_of y x) (not-less x y e) ∙ ne_eqb (number_of x) (number_of y) (below-differs x y e)

  has_above : less_of y x ≡ true → has_of x (y ∷ ys) ≡ has_of x ys
  unfolding has_of rank tested
  has_above e = next-tested (less_of y x) e

  pub has_same : Level x y → has_of x (y ∷ ys) ≡ true
  unfolding has_of rank tested
  has_same l = first-tested (less_of y x) l.not-above ∙ eq-eqb (number_of x) (number_of y) (level-number l)

-- a member that comes before all of the others is of no account
module _ (y : Terminals) (ys : List Terminals) where
  pub none-past : (xs : List Terminals) → rising (y ∷ xs) ≡ true → none_of xs (y ∷ ys) ≡ none_of xs ys
  none-past [] r = refl
  none-past (x ∷ xs) r =
      let p = first_two y x xs r in
      rw (has_above x y ys p.0, none-past xs (under y x xs p.0 p.1))

  pub both-past : (xs : List Terminals) → rising (y ∷ xs) ≡ true → both_of xs (y ∷ ys) ≡ both_of xs ys
  both-past [] r = refl
  both-past (x ∷ xs) r =
      let p = first_two y x xs r in
      rw (has_above x y ys p.0, both-past xs (under y x xs p.0 p.1))

module _ (x y : Terminals) (xs ys : List Terminals) (r : rising (x ∷ xs) ≡ true) where
  pub none_below : less_of x y ≡ true → none_of (x ∷ xs) (y ∷ ys) ≡ none_of xs (y ∷ ys)
  none_below e = rw (has-below x y ys e)

  pub none_above : less_of y x ≡ true → none_of (x ∷ xs) (y ∷ ys) ≡ none_of (x ∷ xs) ys
  none_above e = none-past y ys (x ∷ xs) (cons-rises y x xs e r)

  pub none-same : Level x y → none_of (x ∷ xs) (y ∷ ys) ≡ false
  none-same l = rw (has_same x y ys l)

  pub both_below : less_of x y ≡ true → both_of (x ∷ xs) (y ∷ ys) ≡ both_of xs (y ∷ ys)
  both_below e = rw (has-below x y ys e)

  pub both-above : less_of y x ≡ true → both_of (x ∷ xs) (y ∷ ys) ≡ both_of (x ∷ xs) ys
  both-above e = both-past y ys (x ∷ xs) (cons-rises y x xs e r)

  pub both-same : Level x y → both_of (x ∷ xs) (y ∷ ys) ≡ x ∷ both_of xs ys
  both-same l = rw (has_same x y ys l) (ap (λ (l : List Terminals). x ∷ l) (both-past y ys xs (level-rises xs (level-swap l) r)))

-- nothing is in a set without members
pub none-in-none : (xs : List Terminals) → none_of xs [] ≡ true
unfolding has_of rank
none-in-none [] = refl
none-in-none (x ∷ xs) = none-in-none xs

pub both-with-none : (xs : List Terminals) → both_of xs [] ≡ []
unfolding has_of rank
both-with-none [] = refl
both-with-none (x ∷ xs) = both-with-none xs

-- the front of a set that comes before the first of the other one is of no account
module _ (x : Terminals) (xs : List Terminals) (r : rising (x ∷ xs) ≡ true) where
  none-behind : (ys : List Terminals) → none_of (x ∷ xs) ys ≡ none_of (x ∷ xs) (drop (rank x ys) ys)
  unfolding rank
  none-behind [] = refl
  none-behind (y ∷ ys) = by (less_of y x) refl (none-behind ys)
    where
      by : (s : Bool) → less_of y x ≡ s → none_of (x ∷ xs) ys ≡ none_of (x ∷ xs) (drop (rank x ys) ys)
          → none_of (x ∷ xs) (y ∷ ys) ≡ none_of (x ∷ xs) (drop (cond s (suc (rank x ys)) zero) (y ∷ ys))
      by true e ih = none_above x y xs ys r e ∙ ih
      by false e ih = refl

  both_behind : (ys : List Terminals) → both_of (x ∷ xs) ys ≡ both_of (x ∷ xs) (drop (rank x ys) ys)
  unfolding rank
  both_behind [] = refl
  both_behind (y ∷ ys) = by (less_of y x) refl (both_behind ys)
    where
      by : (s : Bool) → less_of y x ≡ s → both_of (x ∷ xs) ys ≡ both_of (x ∷ xs) (drop (rank x ys) ys)
          → both_of (x ∷ xs) (y ∷ ys) ≡ both_of (x ∷ xs) (drop (cond s (suc (rank x ys)) zero) (y ∷ ys))
      by true e ih = both-above x y xs ys r e ∙ ih
      by false e ih = refl

pub none_passed : (xs ys : List Terminals) (p : ℕ) → rising xs ≡ true → Passed xs ys p → none_of xs ys ≡ none_of xs (drop p ys)
none_passed [] ys p r e = refl
none_passed (x ∷ xs) ys p r e = none-behind x xs r ys ∙ ap (λ (k : ℕ). none_of (x ∷ xs) (drop k ys)) (sym e)

pub both-passed : (xs ys : List Terminals) (p : ℕ) → rising xs ≡ true → Passed xs ys p → both_of xs ys ≡ both_of xs (drop p ys)
both-passed [] ys p r e = refl
both-passed (x ∷ xs) ys p r e = both_behind x xs r ys ∙ ap (λ (k : ℕ). both_of (x ∷ xs) (drop k ys)) (sym e)
