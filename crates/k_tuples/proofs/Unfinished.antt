-- Sets of which nothing is unfinished: adding them to a set leaves its number, joining them changes nothing, and joined to others they leave nothing
-- unfinished. And the strings of a set from one of k slots on: they do not get shorter, so none is unfinished; and from an unfinished one on: those
-- with as many slots are unfinished. Assumes nothing.
use mathlib.Core.Path.{◌≡◌, refl, sym, ap, ◌∙◌, subst}
use mathlib.Core.Bool.{Bool, true, false, cond}
use mathlib.Core.Logic.{⊎_elim}
use mathlib.Core.List.Memᴰ.{head as here}
use mathlib.Core.List.Memᴰ.{tail as there}
use mathlib.Core.List.{List, [], ◌∷◌, ◌++◌, map}
use Prim.Native.Nat.compare
use Prim.Native.Nat.{ℕ, zero, suc, ◌+◌, ◌-◌, ◌≤◌, ◌<◌, zero-le, suc-le-suc, Ordering}
use native.Mathlib.Omega.{arith}
use native.Mathlib.Nat.{eq-or-lt_of_le}
use borrow.Author.Tests.{le-leb, lt-leb, eqb-false, ne_eqb}
use lib.ListN.{length, get_or, drop, length-drop}
use lib.Seq.{drop-cons, drop-drop, get_or-drop}
use Rattle.k_tuple.specs.Strings.{Str, eps, slots, length_of, ended, complete, join}
use Rattle.k_tuple.specs.Order.{cmp_slots, cmp, ◌≺◌}
use Rattle.k_tuple.proofs.Order.{lt≢gt, lt≢eq}
use Rattle.k_tuple.proofs.Closed.{open-string}
use Rattle.k_tuples.specs.Sets.{◌∈◌, Sorted, place, insert, union, unfinished, joins}
use Rattle.k_tuples.proofs.Joins.{join-complete}
use Rattle.k_tuples.proofs.Sorted.{sorted-places}

-- none of x ∷ a is unfinished: x is complete, and none of a is
first_done : (k : ℕ) (x : Str) (a : List Str) → unfinished k (x ∷ a) ≡ 0 → (complete k x ≡ true) × (unfinished k a ≡ 0)
unfolding unfinished
first_done k x a = by (complete k x)
  where
    by : (t : Bool) → cond t (unfinished k a) (suc (unfinished k a)) ≡ 0 → (t ≡ true) × (unfinished k a ≡ 0)
    by true e = (refl, e)
    by false e = absurd (omega arith)

-- one string and the others
more : (k : ℕ) (x : Str) (a : List Str) → unfinished k (x ∷ a) ≡ unfinished k (x ∷ []) + unfinished k a
unfolding unfinished
more k x a = by (complete k x)
  where
    by : (t : Bool) → cond t (unfinished k a) (suc (unfinished k a)) ≡ cond t 0 (suc 0) + unfinished k a
    by true = omega arith
    by false = omega arith

one-done : (k : ℕ) (x : Str) → complete k x ≡ true → unfinished k (x ∷ []) ≡ 0
unfolding unfinished
one-done k x e = rw e

insert-done : (k : ℕ) (x : Str) (a : List Str) → complete k x ≡ true → unfinished k (insert x a) ≡ unfinished k a
unfolding insert unfinished
insert-done k x [] e = rw e
insert-done k x (y ∷ a) e = by (cmp x y) (insert-done k x a e)
  where
    by : (o : Ordering) → unfinished k (insert x a) ≡ unfinished k a → unfinished k (place o x y a (insert x a)) ≡ unfinished k (y ∷ a)
    by Ordering.lt h = rw e
    by Ordering.eq h = refl
    by Ordering.gt h = ap (λ (n : ℕ). cond (complete k y) n (suc n)) h

pub union-done : (k : ℕ) (a b : List Str) → unfinished k b ≡ 0 → unfinished k (union a b) ≡ unfinished k a
unfolding union
union-done k a [] e = refl
union-done k a (x ∷ b) e =
    let f = first_done k x b e in
    insert-done k x (union a b) f.0 ∙ union-done k a b f.1

-- where x is new to a it counts
insert-adds : (k : ℕ) (x : Str) (a : List Str) → length (insert x a) ≡ suc (length a) → unfinished k (insert x a) ≡ unfinished k a + unfinished k (x ∷ [])
unfolding insert unfinished
insert-adds k x [] e = omega arith
insert-adds k x (y ∷ a) e = by (cmp x y) e (λ h. insert-adds k x a h)
  where
    by : (o : Ordering) → length (place o x y a (insert x a)) ≡ suc (suc (length a)) → (length (insert x a) ≡ suc (length a) → unfinished k (insert x a) ≡ unfinished k a + unfinished k (x ∷ []))
        → unfinished k (place o x y a (insert x a)) ≡ unfinished k (y ∷ a) + unfinished k (x ∷ [])
    by Ordering.lt h below = more k x (y ∷ a) ∙ omega arith
    by Ordering.eq h below = absurd (omega arith)
    by Ordering.gt h below = let b = below (omega arith) in omega (arith, more k y (insert x a), more k y a)

insert-most : (x : Str) (a : List Str) → length (insert x a) ≤ suc (length a)
unfolding insert
insert-most x [] = omega arith
insert-most x (y ∷ a) = by (cmp x y) (insert-most x a)
  where
    by : (o : Ordering) → length (insert x a) ≤ suc (length a) → length (place o x y a (insert x a)) ≤ suc (suc (length a))
    by Ordering.lt h = omega arith
    by Ordering.eq h = omega arith
    by Ordering.gt h = omega arith

pub union-most : (a b : List Str) → length (union a b) ≤ length a + length b
unfolding union
union-most a [] = omega arith
union-most a (x ∷ b) = omega (arith, insert-most x (union a b), union-most a b)

none : (k : ℕ) → unfinished k [] ≡ 0
unfolding unfinished
none k = refl

-- the numbers of two sets that have nothing in common are added
pub union-apart : (k : ℕ) (a b : List Str) → length (union a b) ≡ length a + length b → unfinished k (union a b) ≡ unfinished k a + unfinished k b
unfolding union
union-apart k a [] e = omega (arith, none k)
union-apart k a (x ∷ b) e =
    let most = union-most a b in
    let one = insert-most x (union a b) in
    omega (arith, insert-adds k x (union a b) (omega arith), union-apart k a b (omega arith), more k x b)

pub unfinished-few : (k : ℕ) (a : List Str) → unfinished k a ≤ length a
unfolding unfinished
unfinished-few k [] = omega arith
unfinished-few k (x ∷ a) = by (complete k x) (unfinished-few k a)
  where
    by : (t : Bool) → unfinished k a ≤ length a → cond t (unfinished k a) (suc (unfinished k a)) ≤ suc (length a)
    by true h = omega arith
    by false h = omega arith

pub joins-done : (k : ℕ) (a b : List Str) → unfinished k a ≡ 0 → joins k a b ≡ a
joins-done k [] b e = refl
joins-done k (x ∷ a) b e =
    let f = first_done k x a e in
    let stays : cond (complete k x) (x ∷ []) (map (join k x) b) ≡ x ∷ [] = rw f.0 in
    ap (λ (l : List Str). l ++ joins k a b) stays ∙ ap (λ (l : List Str). x ∷ l) (joins-done k a b f.1)

append-adds : (k : ℕ) (a b : List Str) → unfinished k (a ++ b) ≡ unfinished k a + unfinished k b
append-adds k [] b = omega (arith, none k)
append-adds k (x ∷ a) b = omega (arith, more k x (a ++ b), more k x a, append-adds k a b)

-- nothing of a join is unfinished where nothing of the second set is
pub joins-closed : (k : ℕ) (a b : List Str) → 1 ≤ k → unfinished k b ≡ 0 → unfinished k (joins k a b) ≡ 0
joins-closed k [] b h e = none k
joins-closed k (x ∷ a) b h e =
    omega (arith, append-adds k (cond (complete k x) (x ∷ []) (map (join k x) b)) (joins k a b), joins-closed k a b h e, by (complete k x) refl b e)
  where
    all : complete k x ≡ false → (b : List Str) → unfinished k b ≡ 0 → unfinished k (map (join k x) b) ≡ 0
    all c [] e = none k
    all c (y ∷ b) e =
        let f = first_done k y b e in
        omega (arith, more k (join k x y) (map (join k x) b), all c b f.1, one-done k (join k x y) (join-complete k x y h c f.0))

    by : (t : Bool) → complete k x ≡ t → (b : List Str) → unfinished k b ≡ 0 → unfinished k (cond t (x ∷ []) (map (join k x) b)) ≡ 0
    by true c b e = one-done k x c
    by false c b e = all c b e

-- ---- from a long string on

≮-length : (s t : List ℕ) → (cmp_slots s t ≡ Ordering.gt → ⊥) → length s ≤ length t
unfolding cmp_slots
≮-length [] t h = zero-le
≮-length (a ∷ s) [] h = absurd (h refl)
≮-length (a ∷ s) (b ∷ t) h = suc-le-suc (≮-length s t (λ e. h (rw e)))

-- a string that comes before another has no more slots
pub before-length : (x y : Str) → x ≺ y → length_of x ≤ length_of y
unfolding cmp
before-length eps eps e = absurd (lt≢eq (sym e))
before-length eps (slots []) e = absurd (lt≢gt (sym e))
before-length eps (slots (b ∷ [])) e = absurd (lt≢gt (sym e))
before-length eps (slots (b ∷ c ∷ t)) e = omega arith
before-length (slots []) eps e = omega arith
before-length (slots (a ∷ [])) eps e = omega arith
before-length (slots (a ∷ c ∷ s)) eps e = absurd (lt≢gt (sym e))
before-length (slots s) (slots t) e = ≮-length s t (λ g. lt≢gt (sym e ∙ g))

long-complete : (k : ℕ) (x : Str) → k ≤ length_of x → 1 < length_of x → complete k x ≡ true
long-complete k eps h l = absurd (omega arith)
long-complete k (slots s) h l = rw (le-leb k (length s) h)

long-done : (k : ℕ) (x : Str) (a : List Str) → Sorted (x ∷ a) → k ≤ length_of x → 1 < length_of x → unfinished k (x ∷ a) ≡ 0
unfolding unfinished
long-done k x [] s h l = rw (long-complete k x h l)
long-done k x (y ∷ a) s h l =
    let longer = before-length x y (s.0 y (here refl)) in
    rw (long-complete k x h l) (long-done k y a s.1 (omega arith) (omega arith))

drop-sorted : (i : ℕ) (a : List Str) → Sorted a → Sorted (drop i a)
drop-sorted zero a s = s
drop-sorted (suc i) [] s = tt
drop-sorted (suc i) (x ∷ a) s = drop-sorted i a s.1

pub long_rest : (k i : ℕ) (a : List Str) → Sorted a → i < length a → k ≤ length_of (get_or a i eps) → 1 < length_of (get_or a i eps) → unfinished k (drop i a) ≡ 0
long_rest k i a s h long some =
    let e : drop i a ≡ get_or a i eps ∷ drop (suc i) a = drop-cons a i eps h in
    ap (unfinished k) e ∙ long-done k (get_or a i eps) (drop (suc i) a) (subst Sorted e (drop-sorted i a s)) long some

-- ---- from an unfinished string on

-- among lists of one length the last slot does not fall
still_open : (s t : List ℕ) → length s ≡ length t → (cmp_slots s t ≡ Ordering.gt → ⊥) → ended s ≡ false → ended t ≡ false
unfolding cmp_slots
still_open [] [] e h o = refl
still_open [] (b ∷ t) e h o = absurd (omega arith)
still_open (a ∷ s) [] e h o = absurd (omega arith)
still_open (a ∷ []) (b ∷ d ∷ t) e h o = absurd (omega arith)
still_open (a ∷ c ∷ s) (b ∷ []) e h o = absurd (omega arith)
still_open (zero ∷ []) (b ∷ []) e h o = absurd (eqb-false 0 0 o refl)
still_open (suc a ∷ []) (zero ∷ []) e h o = absurd (h (compare.suc-zero a))
still_open (suc a ∷ []) (suc b ∷ []) e h o = ne_eqb (suc b) 0 (λ z. absurd (omega arith))
still_open (a ∷ c ∷ s) (b ∷ d ∷ t) e h o = still_open (c ∷ s) (d ∷ t) (omega arith) (λ g. h (rw g)) o

-- what follows an unfinished string and has as many slots is unfinished
open_after : (k : ℕ) (x y : Str) → x ≺ y → length_of x ≡ length_of y → complete k x ≡ false → complete k y ≡ false
unfolding cmp
open_after k x eps l e o = refl
open_after k eps (slots []) l e o = absurd (omega arith)
open_after k eps (slots (b ∷ [])) l e o = absurd (lt≢gt (sym l))
open_after k eps (slots (b ∷ c ∷ t)) l e o = absurd (omega arith)
open_after k (slots s) (slots t) l e o =
    let p = open-string k s o in
    rw (lt-leb k (length t) (omega arith), still_open s t e (λ g. lt≢gt (sym l ∙ g)) p.1)

-- where the first d strings are unfinished, they are counted by d
open-first : (k d : ℕ) (a : List Str) → d ≤ length a → ((m : ℕ) → m < d → complete k (get_or a m eps) ≡ false) → unfinished k a ≡ d + unfinished k (drop d a)
unfolding unfinished
open-first k zero a h o = omega arith
open-first k (suc d) [] h o = absurd (omega arith)
open-first k (suc d) (x ∷ a) h o = rw (o 0 (omega arith)) (let rest = open-first k d a (omega arith) (λ m l. o (suc m) (omega arith)) in omega arith)

-- from an unfinished string on, up to j, none is longer: all of these are unfinished
pub open-class : (k i j : ℕ) (a : List Str) → Sorted a → i < j → j ≤ length a → ((m : ℕ) → m < j → length_of (get_or a m eps) ≤ length_of (get_or a i eps)) → complete k (get_or a i eps) ≡ false
    → unfinished k (drop i a) ≡ (j - i) + unfinished k (drop j a)
open-class k i j a s some within short o =
    let end : i + (j - i) ≡ j = omega arith in
    open-first k (j - i) (drop i a) (omega (arith, length-drop i a)) (λ m l. ap (complete k) (get_or-drop i a m eps) ∙ each (i + m) (omega arith) (omega arith))
    ∙ ap (λ (b : List Str). (j - i) + unfinished k b) (drop-drop (j - i) i a ∙ ap (λ (n : ℕ). drop n a) end)
  where
    each : (m : ℕ) → i ≤ m → m < j → complete k (get_or a m eps) ≡ false
    each m l u = ⊎_elim
        (λ (e : i ≡ m). ap (λ (n : ℕ). complete k (get_or a n eps)) (sym e) ∙ o)
        (λ (e : i < m).
        let follows = sorted-places eps a s i m e (omega arith) in
        open_after k (get_or a i eps) (get_or a m eps) follows (omega (arith, before-length (get_or a i eps) (get_or a m eps) follows, short m u)) o)
        (eq-or-lt_of_le l)

pub drop-member : {z : Str} (i : ℕ) (a : List Str) → z ∈ drop i a → z ∈ a
drop-member zero a m = m
drop-member (suc i) [] m = m
drop-member (suc i) (x ∷ a) m = there (drop-member i a m)
