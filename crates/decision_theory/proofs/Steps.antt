-- A program's steps lead to the definitions. Assumes nothing.
use Prim.Native.Nat.{ℕ, zero, suc, ◌≤◌, ◌<◌}
use native.Mathlib.Omega.{arith}
use native.Mathlib.Decide.{dec_lt}
use mathlib.Core.Path.{◌≡◌, refl, sym, ap}
use mathlib.Core.Bool.{Bool, true, false, cond, ◌&&◌}
use mathlib.Core.Logic.{◌↔◌, inl, inr}
use mathlib.Core.List.Memᴰ.{eq_of_singleton as only}
use mathlib.Core.List.Memᴰ.{head as here}
use mathlib.Core.List.Memᴰ.{not-nil}
use mathlib.Core.List.Memᴰ.{tail as there}
use mathlib.Core.List.{List, [], ◌∷◌, map}
use lib.Dec.{T, leb, leb→le, le→leb, ltb, ltb→lt, lt→ltb, nltb→le}
use lib.ListN.{length}
use Rattle.cfg.specs.Grammar.{Grammar, Accepted}
use Rattle.k_tuple.specs.Strings.{Str}
use Rattle.k_tuples.specs.Sets.{join_sets, ◌∈◌, disjoint}
use Rattle.k_tuples.specs.States.{State, set_of, Each}
use Rattle.k_tuples.specs.Work.{Answer, got, refused, ◌>>=◌, within}
use Rattle.k_tuples.proofs.Sorted.{cases}
use Rattle.k_tuples.proofs.Tests.{passed, failed, fails, holds, unpassed, and_left, and_right, and_both}
use Rattle.k_tuples.proofs.Work.{Right, no_room, right}
use Rattle.analysis.specs.Analysis.{work}
use Rattle.decision_theory.specs.Needed.{choices_of, Rising, Serves, OneProduction, own, Choice, ChoiceIs, apart_from, apart, choices_at, needed_k, WorkedOut, NoneBelow, Answered, one-production, serves, passed_on, own-set, none-serves}
use Rattle.decision_theory.specs.Steps.{begun, is_open, tried_at, tried, standing, at_least}
use Rattle.decision_theory.proofs.Needed.{own-means, own-rising, apart-means, Over, at_right, answered, answered-one}

-- ---- k by k

module _ (g : Grammar) (c A : ℕ) where
  -- Nothing is below 1.
  start : NoneBelow g c A 1
  start j j>0 h = absurd (omega arith)

  -- Before any k was tried.
  begun-answered : Answered g c 0 A (begun (own g A))
  begun-answered = by (own g A) refl
    where
      by : (is : List ℕ) → own g A ≡ is → Answered g c 0 A (begun is)
      by [] e = none-serves (λ o. not-nil (rw e at ((own-means g A o.0).1 o.1))) start
      by (i ∷ []) e = one-production (i, (own-means g A i).0 (rw e (here refl)), λ j q. only (rw e at ((own-means g A j).1 q)))
      by (i ∷ j ∷ is) e =
          let up : Rising (i ∷ j ∷ is) = rw e at (own-rising A 0 g.productions) in
          let before = up.0 j (here refl) in
          none-serves (λ o.
          let p : i ≡ o.0 = o.2 i ((own-means g A i).0 (rw e (here refl))) in
          let q : j ≡ o.0 = o.2 j ((own-means g A j).0 (rw e (there (here refl)))) in
          omega arith) start

  -- One production decides before any k is tried,
  pub begun-one : OneProduction g A → begun (own g A) ≡ got 0
  begun-one o = answered-one g c 0 A begun-answered (one-production o)

  -- and else A is open.
  pub begun-several : ¬ OneProduction g A → begun (own g A) ≡ refused 22
  begun-several n = answered-one g c 0 A begun-answered (none-serves n start)

module _ (g : Grammar) (ok : Accepted g) (c : ℕ) (room : 1 ≤ c) (A : ℕ) where
  -- What k makes of an open one.
  tried-answered : (k : ℕ) → ¬ OneProduction g A → NoneBelow g c A (suc k) → Answered g c (suc k) A (tried c g A (suc k) (work (suc k) c g))
  unfolding tried choices_at
  tried-answered k several none = by (choices_at c g A (suc k)) (at_right g ok c room A (suc k) (omega arith))
    where
      by : (m : Answer (List Choice)) → Right (Over g ok c room A (suc k)) (λ xs. Each (ChoiceIs g (suc k)) (own g A) xs × WorkedOut g c A (suc k)) m → Answered g c (suc k) A (tried_at (suc k) m)
      by (refused r) (no_room (inl o)) = passed_on {k = suc k} several (omega arith, omega arith) none o
      by (refused r) (no_room (inr (enough, o))) = own-set {k = suc k} several (omega arith, omega arith) none enough o
      by (got xs) (right (all, worked)) = test (apart xs) refl
        where
          test : (b : Bool) → apart xs ≡ b → Answered g c (suc k) A (cond b (got (suc k)) (refused 22))
          test true e = serves {k = suc k} several (omega arith, omega arith) none worked ((apart-means g (suc k) A xs all).0 (passed e))
          test false e = none-serves several (λ j j>0 h. last j j>0 h (dec_lt j (suc k)))
            where
              last : (j : ℕ) → 1 ≤ j → j < suc (suc k) → Dec (j < suc k) → WorkedOut g c A j × ¬ Serves g j A
              last j j>0 h (yes l) = none j j>0 l
              last j j>0 h (no l) = let same : j ≡ suc k = omega arith in rw same (worked, λ s. fails e ((apart-means g (suc k) A xs all).1 s))

  -- How A stands is an answer for the k tried so far.
  standing-answered : (k : ℕ) → Answered g c k A (standing c g A k)
  unfolding standing
  standing-answered zero = begun-answered g c A
  standing-answered (suc k) = by (standing c g A k) (standing-answered k)
    where
      by : (x : Answer ℕ) → Answered g c k A x → Answered g c (suc k) A (cond (is_open x) (tried c g A (suc k) (work (suc k) c g)) x)
      by x (one-production o) = one-production o
      by x (serves n h none w s) = serves n (h.0, omega arith) none w s
      by x (passed_on n h none o) = passed_on n (h.0, omega arith) none o
      by x (own-set n h none e o) = own-set n (h.0, omega arith) none e o
      by x (none-serves n none) = tried-answered k n none

  -- How A stands once every k up to the limit was tried is the answer.
  pub standing-is : (limit : ℕ) → standing c g A limit ≡ needed_k c g A limit
  standing-is limit = answered-one g c limit A (standing-answered limit) (answered g ok c room A limit)

-- ---- the choices, production by production

module _ (c k : ℕ) (P F : State) (A : ℕ) where
  -- The joined set of production i.
  abbrev pub joined_at : ℕ → List Str
  joined_at i = join_sets k (set_of P i) (set_of F A)

  abbrev pub choice_at : ℕ → Choice
  choice_at i = record { production = i; ahead = joined_at i }

  -- Where each fits, the choices are these.
  pub choices-fit : (is : List ℕ) → ((i : ℕ) → i ∈ is → length (joined_at i) ≤ c) → choices_of c k P F A is ≡ got (map choice_at is)
  unfolding choices_of within
  choices-fit [] h = refl
  choices-fit (i ∷ is) h = rw (holds (leb (length (joined_at i)) c) (le→leb (length (joined_at i)) c (h i (here refl))), choices-fit is (λ j m. h j (there m)))

  -- Where one does not, they are refused 11.
  pub choices-over : (is : List ℕ) (i : ℕ) → i ∈ is → c < length (joined_at i) → choices_of c k P F A is ≡ refused 11
  unfolding choices_of within
  choices-over [] i m h = absurd (not-nil m)
  choices-over (j ∷ is) i m h = by (leb (length (joined_at j)) c) refl (choices-over is i)
    where
      by : (b : Bool) → leb (length (joined_at j)) c ≡ b → (i ∈ is → c < length (joined_at i) → choices_of c k P F A is ≡ refused 11)
          → (cond b (got (joined_at j)) (refused 11) >>= λ s. choices_of c k P F A is >>= λ more. got (record { production = j; ahead = s } ∷ more)) ≡ refused 11
      by true e rest = rw (rest (cases m (λ (q : i ≡ j). absurd (omega (arith, leb→le (length (joined_at j)) c (passed e), ap (λ (n : ℕ). length (joined_at n)) q))) (λ n. n)) h)
      by false e rest = refl

  -- One set with those of some numbers.
  numbers : (n : ℕ) (js : List ℕ) → T (apart_from (joined_at n) (map choice_at js)) ↔ ((j : ℕ) → j ∈ js → T (disjoint (joined_at n) (joined_at j)))
  unfolding apart_from
  numbers n [] = (λ t j m. absurd (not-nil m), λ h. tt)
  numbers n (i ∷ js) = by (numbers n js)
    where
      by : T (apart_from (joined_at n) (map choice_at js)) ↔ ((j : ℕ) → j ∈ js → T (disjoint (joined_at n) (joined_at j)))
          → T (disjoint (joined_at n) (joined_at i) && apart_from (joined_at n) (map choice_at js)) ↔ ((j : ℕ) → j ∈ (i ∷ js) → T (disjoint (joined_at n) (joined_at j)))
      by rest = (
        λ t j m. cases m (λ (e : j ≡ i). rw e (and_left (disjoint (joined_at n) (joined_at i)) (apart_from (joined_at n) (map choice_at js)) t)) (rest.0 (and_right (disjoint (joined_at n) (joined_at i)) (apart_from (joined_at n) (map choice_at js)) t) j),
        λ h. and_both (disjoint (joined_at n) (joined_at i)) (apart_from (joined_at n) (map choice_at js)) (h i (here refl)) (rest.1 (λ j m. h j (there m))),
      )

  -- Over numbers in rising order they are apart exactly when each two are disjoint, the lower number first.
  pub apart-numbers : (is : List ℕ) → Rising is → T (apart (map choice_at is)) ↔ ((i j : ℕ) → i ∈ is → j ∈ is → i < j → T (disjoint (joined_at i) (joined_at j)))
  unfolding apart
  apart-numbers [] up = (λ t i j m. absurd (not-nil m), λ h. tt)
  apart-numbers (n ∷ is) up = by (apart-numbers is up.1) (numbers n is)
    where
      by : T (apart (map choice_at is)) ↔ ((i j : ℕ) → i ∈ is → j ∈ is → i < j → T (disjoint (joined_at i) (joined_at j)))
          → T (apart_from (joined_at n) (map choice_at is)) ↔ ((j : ℕ) → j ∈ is → T (disjoint (joined_at n) (joined_at j)))
          → T (apart_from (joined_at n) (map choice_at is) && apart (map choice_at is)) ↔ ((i j : ℕ) → i ∈ (n ∷ is) → j ∈ (n ∷ is) → i < j → T (disjoint (joined_at i) (joined_at j)))
      by rest first = (
        λ t i j m k l. cases m
            (λ (e : i ≡ n). cases k (λ (f : j ≡ n). absurd (omega arith)) (λ q. rw e (first.0 (and_left (apart_from (joined_at n) (map choice_at is)) (apart (map choice_at is)) t) j q)))
            (λ p. cases k (λ (f : j ≡ n). let a = up.0 i p in absurd (omega arith)) (λ q. rest.0 (and_right (apart_from (joined_at n) (map choice_at is)) (apart (map choice_at is)) t) i j p q l)),
        λ h. and_both (apart_from (joined_at n) (map choice_at is)) (apart (map choice_at is)) (first.1 (λ j m. h n j (here refl) (there m) (up.0 j m))) (rest.1 (λ i j m k l. h i j (there m) (there k) l)),
      )

-- ---- letters one after the other

-- From 0 on are all.
pub least-all : (ts : List ℕ) → at_least 0 ts ≡ ts
unfolding at_least
least-all [] = refl
least-all (t ∷ ts) = rw (unpassed (ltb t 0) (λ p. omega (arith, ltb→lt t 0 p)))

-- No member from f on.
pub least-none : (f : ℕ) (ts : List ℕ) → ((u : ℕ) → u ∈ ts → u < f) → at_least f ts ≡ []
unfolding at_least
least-none f [] h = refl
least-none f (t ∷ ts) h = rw (holds (ltb t f) (lt→ltb t f (h t (here refl)))) (least-none f ts (λ u m. h u (there m)))

-- The least member from f on comes next, and the others are those above it.
pub least-next : (f m : ℕ) (ts : List ℕ) → Rising ts → m ∈ ts → f ≤ m → ((u : ℕ) → u ∈ ts → f ≤ u → m ≤ u) → at_least f ts ≡ m ∷ at_least (suc m) ts
unfolding at_least
least-next f m [] up i l h = absurd (not-nil i)
least-next f m (t ∷ ts) up i l h = by (ltb t f) refl (least-next f m ts up.1)
  where
    by : (b : Bool) → ltb t f ≡ b → (m ∈ ts → f ≤ m → ((u : ℕ) → u ∈ ts → f ≤ u → m ≤ u) → at_least f ts ≡ m ∷ at_least (suc m) ts)
        → cond b (at_least f ts) (t ∷ ts) ≡ m ∷ cond (ltb t (suc m)) (at_least (suc m) ts) (t ∷ ts)
    by true e rest =
        let small = ltb→lt t f (passed e) in
        rw (holds (ltb t (suc m)) (lt→ltb t (suc m) (omega arith)))
        (rest (cases i (λ (q : m ≡ t). absurd (omega arith)) (λ n. n)) l (λ u n. h u (there n)))
    by false e rest =
        let big : f ≤ t = nltb→le t f (failed e) in
        let most : m ≤ t = h t (here refl) big in
        let same : m ≡ t = cases i (λ q. q) (λ n. let k = up.0 m n in absurd (omega arith)) in
        rw (same, holds (ltb t (suc t)) (lt→ltb t (suc t) (omega arith))) (ap (λ (l : List ℕ). t ∷ l) (sym (above ts up.0)))
      where
        above : (us : List ℕ) → ((j : ℕ) → j ∈ us → t < j) → at_least (suc t) us ≡ us
        above [] h = refl
        above (u ∷ us) h = rw (unpassed (ltb u (suc t)) (λ p. let a = h u (here refl) in omega (arith, ltb→lt u (suc t) p)))
