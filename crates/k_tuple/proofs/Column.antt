-- From tests to "given exactly when": a test that stands for a proposition puts a row on a column, and a column whose refusals differ is exact. Assumes nothing.
use mathlib.Core.Path.{◌≡◌, refl}
use mathlib.Core.Bool.{Bool, true, false, cond, not, ◌&&◌, ◌||◌, true≢false, false≢true}
use mathlib.Core.List.Memᴰ.{cases_cons}
use mathlib.Core.List.Memᴰ.{head as here}
use mathlib.Core.List.Memᴰ.{not-nil}
use mathlib.Core.List.Memᴰ.{tail as there}
use mathlib.Core.List.{List, [], ◌∷◌, Memᴰ}
use mathlib.Core.Logic.{◌↔◌, ◌⊎◌, inl, inr, ⊎_elim}
use Prim.Native.Nat.{ℕ, ◌≤◌, ◌<◌}
use native.Mathlib.Omega.{arith}
use borrow.Author.Tests.{ltb-true, lt-ltb, leb-true, le-leb, eqb-true, eq-eqb}
use lib.Dec.{ltb, leb, eqb}
use Rattle.k_tuple.proofs.Round.{both}
use Rattle.k_tuple.specs.Paper.{Paper, refused, gives, Column, values, ◌for◌else◌, refusals, zeros_for, Rows, Exactly}

-- ---- what a test stands for

abbrev pub Means : Bool → Type 0 → Type 0
Means t P = (t ≡ true) ↔ P

pub ltb-means : (a b : ℕ) → Means (ltb a b) (a < b)
ltb-means a b = (ltb-true a b, lt-ltb a b)

pub leb-means : (a b : ℕ) → Means (leb a b) (a ≤ b)
leb-means a b = (leb-true a b, le-leb a b)

pub eqb-means : (a b : ℕ) → Means (eqb a b) (a ≡ b)
eqb-means a b = (eqb-true a b, eq-eqb a b)

pub not-means : {P : Type 0} (t : Bool) → Means t P → Means (not t) (¬ P)
not-means true m = (λ e. absurd (false≢true e), λ f. absurd (f (m.0 refl)))
not-means false m = (λ e p. false≢true (m.1 p), λ f. refl)

pub or-means : {P Q : Type 0} (t u : Bool) → Means t P → Means u Q → Means (t || u) (P ⊎ Q)
or-means true u m n = (λ e. inl (m.0 refl), λ o. refl)
or-means false u m n = (λ e. inr (n.0 e), λ o. ⊎_elim (λ p. absurd (false≢true (m.1 p))) n.1 o)

-- ---- a column, test by test

-- p is refused, with the zeros z, by the first row whose proposition holds, or is the values
pub data Says (z : List ℕ) (p : Paper) : Column → Type 1 where
  answered : {v : List ℕ} → p ≡ gives v → Says z p (values v)
  given : {r : ℕ} {P : Type 0} {c : Column} → P → p ≡ refused r z → Says z p (r for P else c)
  passed : {r : ℕ} {P : Type 0} {c : Column} → (P → ⊥) → Says z p c → Says z p (r for P else c)

-- a test, as the outcome of tests has it
pub test : {r : ℕ} {P : Type 0} {c : Column} {z : List ℕ} {p : Paper} (b : Bool) → Means b P → Says z p c → Says z (cond b (refused r z) p) (r for P else c)
test true m s = given (m.0 refl) refl
test false m s = passed (λ p. false≢true (m.1 p)) s

-- what is answered has passed the test
pub passes : (r : ℕ) (b : Bool) (z : List ℕ) (p : Paper) {v : List ℕ} → cond b (refused r z) p ≡ gives v → (b ≡ false) × (p ≡ gives v)
passes r true z p e = absurd (let o : ◌≡◌ {A = ℕ} 0 1 = cc in omega arith)
passes r false z p e = (refl, e)

pub neither : (a b : Bool) → (a || b) ≡ false → (a ≡ false) × (b ≡ false)
neither true b e = absurd (true≢false e)
neither false b e = (refl, e)

-- ---- the rows of a column whose refusals differ

abbrev pub absent : ℕ → List ℕ → Bool
absent r [] = true
absent r (q ∷ l) = not (eqb r q) && absent r l

abbrev pub differ : List ℕ → Bool
differ [] = true
differ (r ∷ l) = absent r l && differ l

absent-not : (r : ℕ) (l : List ℕ) → absent r l ≡ true → Memᴰ r l → ⊥
absent-not r [] a m = not-nil m
absent-not r (q ∷ l) a m =
    let b = both (not (eqb r q)) (absent r l) a in
    ⊎_elim (λ (e : r ≡ q). (not-means (eqb r q) (eqb-means r q)).0 b.0 e) (absent-not r l b.1) (cases_cons m)

-- no other refusal is given, nor with other numbers
none-else : {z : List ℕ} {p : Paper} {c : Column} → Says z p c → (r : ℕ) (y : List ℕ) → p ≡ refused r y → Memᴰ r (refusals c) × (y ≡ z)
none-else (answered e) r y f = absurd (let z : ◌≡◌ {A = ℕ} 0 1 = cc in omega arith)
none-else (given {r = q} x e) r y f = (here {x = q} (cc), cc)
none-else (passed n s) r y f = let o = none-else s r y f in (there o.0, o.1)

-- the rows after the one that refuses
refused-before : {z : List ℕ} {p : Paper} (c : Column) (after : Type 0 → Type 0) → ((Q : Type 0) → after Q → ⊥) → (r : ℕ) → p ≡ refused r z → (Memᴰ r (refusals c) → ⊥) → Rows after z p c
refused-before (values v) after h r e n = (λ f. absurd (let z : ◌≡◌ {A = ℕ} 0 1 = cc in omega arith), λ q. absurd (h (Unit {0}) q))
refused-before (q for P else c) after h r e n =
    ((λ f. absurd (n (here (cc))), λ x. absurd (h P x)), refused-before c (λ (Q : Type 0). after ((¬ P) × Q)) (λ Q x. h ((¬ P) × Q) x) r e (λ m. n (there m)))

rows : {z : List ℕ} {p : Paper} {c : Column} (after : Type 0 → Type 0) → ((Q : Type 0) → after Q ↔ Q) → Says z p c → differ (refusals c) ≡ true → Rows after z p c
rows after h (answered e) d = (λ f. (h (Unit {0})).1 tt, λ q. e)
rows after h (given {r = r} {P = P} {c = c} x e) d =
    let a = both (absent r (refusals c)) (differ (refusals c)) d in
    ((λ f. (h P).1 x, λ q. e), refused-before c (λ (Q : Type 0). after ((¬ P) × Q)) (λ Q q. ((h ((¬ P) × Q)).0 q).0 x) r e (absent-not r (refusals c) a.0))
rows {z = z} after h (passed {r = r} {P = P} {c = c} n s) d =
    let a = both (absent r (refusals c)) (differ (refusals c)) d in (
      (λ f. absurd (absent-not r (refusals c) a.0 (none-else s r z f).0), λ q. absurd (n ((h P).0 q))),
      rows (λ (Q : Type 0). after ((¬ P) × Q)) (λ Q. (λ q. ((h ((¬ P) × Q)).0 q).1, λ q. (h ((¬ P) × Q)).1 (n, q))) s a.1,
    )

-- where 0 is not among the refusals it is not given as one
pub not-0 : {p : Paper} {c : Column} → Exactly p c → absent 0 (refusals c) ≡ true → (z : List ℕ) → p ≡ refused 0 z → ⊥
not-0 {c} x a z e = absent-not 0 (refusals c) a (x.no_other 0 z e).0

pub exactly : {p : Paper} {c : Column} → differ (refusals c) ≡ true → Says (zeros_for c) p c → Exactly p c
exactly d s = record { rows = rows (λ (Q : Type 0). Q) (λ Q. (λ q. q, λ q. q)) s d; no_other = none-else s }
