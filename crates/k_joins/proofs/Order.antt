-- A run rises: strings of one length, each followed by the members of a set in turn. Assumes nothing.
use mathlib.Core.Path.{◌≡◌, refl, sym, ap, ap₂, ◌∙◌, subst}
use mathlib.Core.Bool.{false}
use mathlib.Core.List.Memᴰ
use mathlib.Core.List.Memᴰ.{append_cases}
use mathlib.Core.List.Memᴰ.{head as here}
use mathlib.Core.List.Memᴰ.{not-nil}
use mathlib.Core.List.Memᴰ.{tail as there}
use mathlib.Core.List.{List, [], ◌∷◌, ◌++◌}
use mathlib.Core.Logic.{⊎_elim}
use Prim.Native.Nat.{ℕ, compare, Ordering}
use native.Mathlib.Omega.{arith}
use lib.ListN.{length}
use Rattle.k_tuple.specs.Strings.{Str, eps, slots, terminals, is_eps}
use Rattle.k_tuple.specs.Order.{and_then, cmp_slots, cmp, ◌≺◌}
use Rattle.k_tuple.proofs.Order.{cmp_slots-refl}
use Rattle.k_tuples.specs.Sets.{◌∈◌, Sorted}
use Rattle.k_tuples.proofs.Sorted.{cases}
use Rattle.k_joins.specs.Runs.{follow, row, run}

then_equal : (o : Ordering) → o ≡ and_then o Ordering.eq
then_equal Ordering.lt = refl
then_equal Ordering.eq = refl
then_equal Ordering.gt = refl

then-then : (o p q : Ordering) → and_then (and_then o p) q ≡ and_then o (and_then p q)
then-then Ordering.lt p q = refl
then-then Ordering.eq p q = refl
then-then Ordering.gt p q = refl

-- of slots after as many slots, those that come after decide first
pub append-order : (s s' t t' : List ℕ) → length s ≡ length s' → cmp_slots (s ++ t) (s' ++ t') ≡ and_then (cmp_slots t t') (cmp_slots s s')
unfolding cmp_slots
append-order [] [] t t' e = then_equal (cmp_slots t t')
append-order [] (b ∷ s') t t' e = absurd (omega arith)
append-order (a ∷ s) [] t t' e = absurd (omega arith)
append-order (a ∷ s) (b ∷ s') t t' e =
    ap (λ (o : Ordering). and_then o (compare a b)) (append-order s s' t t' (omega arith))
    ∙ then-then (cmp_slots t t') (cmp_slots s s') (compare a b)

-- a string other than ε is its slots
pub plain : (x : Str) → is_eps x ≡ false → x ≡ slots (terminals x)
plain eps e = let z : ◌≡◌ {A = ℕ} 0 1 = cc in absurd (omega arith)
plain (slots s) e = refl

plain-order : (x y : Str) → is_eps x ≡ false → is_eps y ≡ false → cmp_slots (terminals x) (terminals y) ≡ cmp x y
unfolding cmp
plain-order x y e f = sym (ap₂ cmp (plain x e) (plain y f))

module _ (x x' : Str) (same : length (terminals x) ≡ length (terminals x')) where
  -- the same string follows: the first ones decide
  pub follow-first : (y : Str) → is_eps x ≡ false → is_eps x' ≡ false → x ≺ x' → follow x y ≺ follow x' y
  unfolding cmp
  follow-first y e f h =
      append-order (terminals x) (terminals x') (terminals y) (terminals y) same
      ∙ rw (cmp_slots-refl (terminals y)) (plain-order x x' e f ∙ h)

  -- otherwise what follows decides
  pub follow-second : (y y' : Str) → is_eps y ≡ false → is_eps y' ≡ false → y ≺ y' → follow x y ≺ follow x' y'
  unfolding cmp
  follow-second y y' e f h =
      append-order (terminals x) (terminals x') (terminals y) (terminals y') same
      ∙ ap (λ (o : Ordering). and_then o (cmp_slots (terminals x) (terminals x'))) (plain-order y y' e f ∙ h)

-- ---- members of a run

pub record Product (a : List Str) (b : List Str) (z : Str) : Type 0 where
  pub first : Str
  pub second : Str
  pub in-first : first ∈ a
  pub in-second : second ∈ b
  pub is : z ≡ follow first second

row-cases : (z y : Str) (a : List Str) → z ∈ row a y → Product a (y ∷ []) z
unfolding row
row-cases z y [] m = absurd (not-nil m)
row-cases z y (x ∷ a) m =
    cases m (λ e. record { first = x; second = y; in-first = here refl; in-second = here refl; is = e })
    (λ i. let p = row-cases z y a i in record { first = p.first; second = p.second; in-first = there p.in-first; in-second = p.in-second; is = p.is })

row_has : (x y : Str) (a : List Str) → x ∈ a → follow x y ∈ row a y
unfolding row
row_has x y [] m = absurd (not-nil m)
row_has x y (w ∷ a) m = cases m (λ e. here (ap (λ (v : Str). follow v y) e)) (λ i. there (row_has x y a i))

widen : (y : Str) (a b : List Str) (z : Str) → Product a b z → Product a (y ∷ b) z
widen y a b z p = record { first = p.first; second = p.second; in-first = p.in-first; in-second = there p.in-second; is = p.is }

pub run-cases : (z : Str) (a b : List Str) → z ∈ run a b → Product a b z
unfolding run
run-cases z a [] m = absurd (not-nil m)
run-cases z a (y ∷ b) m =
    ⊎_elim (λ i. let p = row-cases z y a i in record { first = p.first; second = p.second; in-first = p.in-first; in-second = cases p.in-second here (λ n. absurd (not-nil n)); is = p.is })
    (λ i. widen y a b z (run-cases z a b i)) (append_cases (row a y) m)

pub run-has : (x y : Str) (a b : List Str) → x ∈ a → y ∈ b → follow x y ∈ run a b
unfolding run
run-has x y a [] m n = absurd (not-nil n)
run-has x y a (w ∷ b) m n =
    cases n (λ e. Memᴰ.append_left (run a b) (subst (λ (v : Str). follow x v ∈ row a w) (sym e) (row_has x w a m)))
    (λ i. Memᴰ.append_right (row a w) (run-has x y a b m i))

-- ---- a run rises

pub sorted-append : (p q : List Str) → Sorted p → Sorted q → ((x y : Str) → x ∈ p → y ∈ q → x ≺ y) → Sorted (p ++ q)
sorted-append [] q h i f = i
sorted-append (x ∷ p) q h i f =
    (λ y m. ⊎_elim (h.0 y) (λ n. f x y (here refl) n) (append_cases p m), sorted-append p q h.1 i (λ v y m n. f v y (there m) n))

-- strings of l slots, none of them ε
abbrev pub AllOf : ℕ → List Str → Type 0
AllOf l a = (x : Str) → x ∈ a → (is_eps x ≡ false) × (length (terminals x) ≡ l)

abbrev pub NoEps : List Str → Type 0
NoEps b = (y : Str) → y ∈ b → is_eps y ≡ false

row-sorted : (l : ℕ) (y : Str) (a : List Str) → Sorted a → AllOf l a → Sorted (row a y)
unfolding row
row-sorted l y [] h c = tt
row-sorted l y (x ∷ a) h c = (
  λ z m. let p = row-cases z y a m in
      let u = cases p.in-second (λ e. e) (λ n. absurd (not-nil n)) in
      let g = c p.first (there p.in-first) in
      let f = c x (here refl) in
      subst (λ (v : Str). follow x y ≺ v) (sym (p.is ∙ ap (follow p.first) u))
      (follow-first x p.first (f.1 ∙ sym g.1) y f.0 g.0 (h.0 p.first p.in-first)),
  row-sorted l y a h.1 (λ v m. c v (there m)),
)

pub run-sorted : (l : ℕ) (a b : List Str) → Sorted a → AllOf l a → Sorted b → NoEps b → Sorted (run a b)
unfolding run
run-sorted l a [] h c i d = tt
run-sorted l a (y ∷ b) h c i d =
    sorted-append (row a y) (run a b) (row-sorted l y a h c) (run-sorted l a b h c i.1 (λ v m. d v (there m)))
    (λ z z' m n. let p = row-cases z y a m in
    let q = run-cases z' a b n in
    let u = cases p.in-second (λ e. e) (λ n. absurd (not-nil n)) in
    let s = follow-second p.first q.first ((c p.first p.in-first).1 ∙ sym (c q.first q.in-first).1) y q.second
    (d y (here refl)) (d q.second (there q.in-second)) (i.0 q.second q.in-second) in
    rw (p.is ∙ ap (follow p.first) u, q.is) s)
