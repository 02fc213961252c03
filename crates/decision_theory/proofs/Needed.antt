-- The k that is answered is the one that is needed, each refusal is given exactly when the rules say, and there is one answer. Assumes nothing.
use Prim.Native.Nat.{ℕ, zero, suc, ◌+◌, ◌≤◌, ◌<◌}
use native.Mathlib.Omega.{arith}
use native.Mathlib.Decide.{dec_le, dec_lt}
use mathlib.Core.Path.{◌≡◌, refl, sym, ap, ◌∙◌, subst}
use mathlib.Core.Bool.{Bool, true, false, cond, ◌&&◌}
use mathlib.Core.Logic.{◌↔◌, ◌⊎◌, inl, inr}
use mathlib.Core.List.Memᴰ
use mathlib.Core.List.Memᴰ.{eq_of_singleton as only}
use mathlib.Core.List.Memᴰ.{head as here}
use mathlib.Core.List.Memᴰ.{not-nil}
use mathlib.Core.List.Memᴰ.{tail as there}
use mathlib.Core.List.{List, [], ◌∷◌}
use lib.Dec.{T, eqb, eqb→eq, eqb_refl}
use lib.ListN.{length, get_or}
use Rattle.cfg.specs.Grammar.{Word, Grammar, Production, Accepted}
use Rattle.k_tuple.specs.Strings.{Str}
use Rattle.k_tuples.specs.Sets.{◌∈◌, disjoint, join_sets}
use Rattle.k_tuples.specs.States.{set_of, Each, each_none, each_more}
use Rattle.k_tuples.specs.Work.{Answer, got, refused, ◌>>=◌}
use Rattle.k_tuples.proofs.Sets.{disjoint-means}
use Rattle.k_tuples.proofs.Sorted.{cases}
use Rattle.k_tuples.proofs.Work.{Right, no_room, right, right-then, right-more, over-more, within-right, not-got, got-inj}
use Rattle.k_tuples.proofs.Tests.{passed, fails, holds, and_left, and_right, and_both}
use Rattle.first_theory.specs.Compute.{str}
use Rattle.first_theory.specs.Room.{MoreWords}
use Rattle.analysis.specs.Analysis.{Analysis, work}
use Rattle.analysis.specs.Promises.{IsSetOf, ProductionSets, FollowSets, SomePasses, EnoughRoom, Between}
use Rattle.analysis.proofs.Kept.{answers-right, only-eleven, eleven-exactly}
use Rattle.decision_theory.specs.Needed.{Rising, production_at, Of, Ahead, Serves, OneProduction, Needs, needs-none, smallest, own_from, own, Choice, choices_of, apart_from, apart, Decided, choices_at, try_from, decide_for, decide, only_k, needed_k, OwnPasses, WorkedOut, NoneBelow, NotWorkedOut, Answered, one-production, serves, passed_on, own-set, none-serves, ChoiceIs, RightFor, right-one, right-several}
use Rattle.decision_theory.proofs.Ahead.{set-passes, set-fits, production-set, joined_is, rule-in-range}

-- ---- a nonterminal's own productions

-- What stands past the end.
abbrev none : Production
none = record { left = 0; right = [] }

-- A number found is that of a production of A.
own-sound : (A s : ℕ) (ps : List Production) (i : ℕ) → i ∈ own_from A s ps → (j : ℕ) × (i ≡ s + j) × (j < length ps) × ((get_or ps j none).left ≡ A)
unfolding own_from
own-sound A s [] i m = absurd (not-nil m)
own-sound A s (p ∷ ps) i m = by (own-sound A (suc s) ps i) (eqb p.left A) refl m
  where
    Found : List Production → ℕ → Type 0
    Found qs s = (j : ℕ) × (i ≡ s + j) × (j < length qs) × ((get_or qs j none).left ≡ A)

    later : Found ps (suc s) → Found (p ∷ ps) s
    later (j, e, l, h) = (suc j, omega arith, omega arith, h)

    by : (i ∈ own_from A (suc s) ps → Found ps (suc s)) → (b : Bool) → eqb p.left A ≡ b → i ∈ cond b (s ∷ own_from A (suc s) ps) (own_from A (suc s) ps) → Found (p ∷ ps) s
    by below true e m = cases m (λ q. (0, omega arith, omega arith, eqb→eq p.left A (passed e))) (λ n. later (below n))
    by below false e m = later (below m)

-- And each of A's is found.
own-whole : (A s : ℕ) (ps : List Production) (j : ℕ) → j < length ps → (get_or ps j none).left ≡ A → (s + j) ∈ own_from A s ps
unfolding own_from
own-whole A s [] j l e = absurd (omega arith)
own-whole A s (p ∷ ps) zero l e = let z : s + 0 ≡ s = omega arith in rw (z, holds (eqb p.left A) (rw e (eqb_refl A))) (here refl)
own-whole A s (p ∷ ps) (suc j) l e = let z : s + suc j ≡ suc s + j = omega arith in rw z (by (eqb p.left A) (own-whole A (suc s) ps j (omega arith) e))
  where
    by : (b : Bool) → (suc s + j) ∈ own_from A (suc s) ps → (suc s + j) ∈ cond b (s ∷ own_from A (suc s) ps) (own_from A (suc s) ps)
    by true m = there m
    by false m = m

-- They are A's productions.
pub own-means : (g : Grammar) (A i : ℕ) → i ∈ own g A ↔ Of g A i
own-means g A i = (
  λ m. let (j, e, l, h) = own-sound A 0 g.productions i m in let z : i ≡ j = omega arith in rw z (l, h),
  λ o. let z : 0 + i ≡ i = omega arith in subst (λ (j : ℕ). j ∈ own g A) z (own-whole A 0 g.productions i o.0 o.1),
)

-- In rising order, so each once.
pub own-rising : (A s : ℕ) (ps : List Production) → Rising (own_from A s ps)
unfolding own_from
own-rising A s [] = tt
own-rising A s (p ∷ ps) = by (own-rising A (suc s) ps) (eqb p.left A)
  where
    by : Rising (own_from A (suc s) ps) → (b : Bool) → Rising (cond b (s ∷ own_from A (suc s) ps) (own_from A (suc s) ps))
    by below true = (λ j m. let (i, e, l, _) = own-sound A (suc s) ps j m in omega arith, below)
    by below false = below

-- ---- the choices

module _ (g : Grammar) (ok : Accepted g) (k : ℕ) (k>0 : 0 < k) (c : ℕ) (a : Analysis) (P : ProductionSets g k a) (F : FollowSets g k a) (A : ℕ) where
  -- The join for production i is its joined set.
  own-set-is : (i : ℕ) → Of g A i → IsSetOf (Ahead g k i) (join_sets k (set_of a.productions i) (set_of a.follows A))
  own-set-is i o =
      subst (λ (B : ℕ). IsSetOf (Ahead g k i) (join_sets k (set_of a.productions i) (set_of a.follows B))) o.1
      (joined_is g ok k k>0 (production_at g i).left (production_at g i).right (set_of a.productions i) (set_of a.follows (production_at g i).left)
      (rule-in-range g ok i o.0) (production-set g k a P i o.0) (F (production_at g i).left))

  -- Among these productions.
  abbrev Passes : List ℕ → Type 0
  Passes is = (i : ℕ) × (i ∈ is) × MoreWords c (Ahead g k i)

  -- each choice is right, and none passes the room
  abbrev Fine : List ℕ → List Choice → Type 0
  Fine is xs = Each (ChoiceIs g k) is xs × ¬ Passes is

  -- The choices are got as long as they fit.
  choices-right : (is : List ℕ) → ((i : ℕ) → i ∈ is → Of g A i) → Right (Passes is) (Fine is) (choices_of c k a.productions a.follows A is)
  unfolding choices_of
  choices-right [] all = right (each_none, λ p. not-nil p.1)
  choices-right (i ∷ is) all =
      let o = all i (here refl) in
      right-then (within-right (λ s. IsSetOf (Ahead g k i) s) c (join_sets k (set_of a.productions i) (set_of a.follows A)) (own-set-is i o) (λ l. (i, here refl, set-passes c (Ahead g k i) _ (own-set-is i o) l)))
      (λ s is_set.
      right-then (over-more (λ p. (p.0, there p.1, p.2)) (choices-right is (λ j m. all j (there m)))) (λ xs fine.
      right (
        each_more (record { number = refl; set = is_set.0 }) fine.0,
        λ p. cases p.1 (λ (e : p.0 ≡ i). set-fits c (Ahead g k i) s is_set.0 is_set.2 (rw e at p.2)) (λ m. fine.1 (p.0, m, p.2)),
      )))

-- ---- the test

-- No string in common.
abbrev Apart : Choice → Choice → Type 0
Apart x y = (z : Str) → z ∈ x.ahead → z ∈ y.ahead → ⊥

-- The test of one set with others.
apart_from_lem : (x : Choice) (ys : List Choice) → T (apart_from x.ahead ys) ↔ ((y : Choice) → y ∈ ys → Apart x y)
unfolding apart_from
apart_from_lem x [] = (λ t y m. absurd (not-nil m), λ h. tt)
apart_from_lem x (y ∷ ys) = by (apart_from_lem x ys) (disjoint-means x.ahead y.ahead)
  where
    by : T (apart_from x.ahead ys) ↔ ((y : Choice) → y ∈ ys → Apart x y) → T (disjoint x.ahead y.ahead) ↔ Apart x y
        → T (disjoint x.ahead y.ahead && apart_from x.ahead ys) ↔ ((z : Choice) → z ∈ (y ∷ ys) → Apart x z)
    by below first = (
      λ t z m. cases m (λ (e : z ≡ y). rw e (first.0 (and_left (disjoint x.ahead y.ahead) (apart_from x.ahead ys) t))) (below.0 (and_right (disjoint x.ahead y.ahead) (apart_from x.ahead ys) t) z),
      λ h. and_both (disjoint x.ahead y.ahead) (apart_from x.ahead ys) (first.1 (h y (here refl))) (below.1 (λ z m. h z (there m))),
    )

module _ (g : Grammar) (k : ℕ) where
  -- A production has its choice, and a choice its production.
  pub choice-of : {is : List ℕ} {xs : List Choice} → Each (ChoiceIs g k) is xs → (i : ℕ) → i ∈ is → (x : Choice) × (x ∈ xs) × ChoiceIs g k i x
  choice-of each_none i m = absurd (not-nil m)
  choice-of (each_more {b = x} r more) i m =
      cases m (λ (e : i ≡ _). (x, here refl, rw e r)) (λ n. let (y, j, h) = choice-of more i n in (y, there j, h))

  -- Of a choice, its production.
  pub production-of : {is : List ℕ} {xs : List Choice} → Each (ChoiceIs g k) is xs → (x : Choice) → x ∈ xs → (i : ℕ) × (i ∈ is) × ChoiceIs g k i x
  production-of each_none x m = absurd (not-nil m)
  production-of (each_more {a = i} r more) x m =
      cases m (λ (e : x ≡ _). (i, here refl, rw e r)) (λ n. let (j, l, h) = production-of more x n in (j, there l, h))

  -- A word in common is a string in common.
  shared : {i j : ℕ} {x y : Choice} → ChoiceIs g k i x → ChoiceIs g k j y → (w : Word) → Ahead g k i w → Ahead g k j w → Apart x y → ⊥
  shared p q w u v h = h (str w) ((p.set.has w).1 u) ((q.set.has w).1 v)

  -- among these productions
  abbrev ServesAmong : List ℕ → Type 0
  ServesAmong is = (i j : ℕ) → i ∈ is → j ∈ is → (w : Word) → Ahead g k i w → Ahead g k j w → i ≡ j

  -- Where the test succeeds k serves,
  apart-serves : {is : List ℕ} {xs : List Choice} → Each (ChoiceIs g k) is xs → T (apart xs) → ServesAmong is
  unfolding apart
  apart-serves each_none t i j m n w u v = absurd (not-nil m)
  apart-serves (each_more {a = l} {b = x} {xs = is} {ys = ys} r more) t i j m n w u v =
      let first : (y : Choice) → y ∈ ys → Apart x y = (apart_from_lem x ys).0 (and_left (apart_from x.ahead ys) (apart ys) t) in
      let below : ServesAmong is = apart-serves more (and_right (apart_from x.ahead ys) (apart ys) t) in
      cases m
      (λ (e : i ≡ l). cases n (λ f. e ∙ sym f) (λ n. let (y, q, h) = choice-of more j n in absurd (shared r h w (rw e at u) v (first y q))))
      (λ m. cases n (λ (f : j ≡ l). let (y, q, h) = choice-of more i m in absurd (shared r h w (rw f at v) u (first y q))) (λ n. below i j m n w u v))

  -- and where k serves it succeeds.
  serves-apart : {is : List ℕ} {xs : List Choice} → Rising is → Each (ChoiceIs g k) is xs → ServesAmong is → T (apart xs)
  unfolding apart
  serves-apart up each_none s = tt
  serves-apart up (each_more {a = l} {b = x} {ys = ys} r more) s =
      and_both (apart_from x.ahead ys) (apart ys)
      ((apart_from_lem x ys).1 (λ y m z p q.
      let (j, n, h) = production-of more y m in
      let (w, e) = r.set.words z p in
      let same : l ≡ j = s l j (here refl) (there n) w ((r.set.has w).0 (Memᴰ.cast (sym e) p)) ((h.set.has w).0 (Memᴰ.cast (sym e) q)) in
      let before = up.0 j n in
      omega arith))
      (serves-apart up.1 more (λ i j m n. s i j (there m) (there n)))

  -- The test tells whether k serves.
  pub apart-means : (A : ℕ) (xs : List Choice) → Each (ChoiceIs g k) (own g A) xs → T (apart xs) ↔ Serves g k A
  apart-means A xs all = (
    λ t i j p q. apart-serves all t i j ((own-means g A i).1 p) ((own-means g A j).1 q),
    λ s. serves-apart (own-rising A 0 g.productions) all (λ i j m n. s i j ((own-means g A i).0 m) ((own-means g A j).0 n)),
  )

-- ---- the search

module _ (g : Grammar) (ok : Accepted g) (c : ℕ) (room : 1 ≤ c) (A : ℕ) where
  -- why the choices at k are refused
  abbrev pub Over : ℕ → Type 0
  Over k = SomePasses g k c ⊎ (EnoughRoom g k c × OwnPasses g c A k)

  -- The choices at k, or why they are refused.
  pub at_right : (k : ℕ) → 1 ≤ k → Right (Over k) (λ xs. Each (ChoiceIs g k) (own g A) xs × WorkedOut g c A k) (choices_at c g A k)
  unfolding choices_at
  at_right k k>0 = by (work k c g) refl
    where
      by : (m : Answer Analysis) → work k c g ≡ m
          → Right (Over k) (λ xs. Each (ChoiceIs g k) (own g A) xs × WorkedOut g c A k) (m >>= λ a. choices_of c k a.productions a.follows A (own g A))
      by (refused r) e =
          let eleven : r ≡ 11 = only-eleven g k c ok k>0 room r e in
          rw eleven (no_room (inl ((eleven-exactly g k c ok k>0 room).0 (e ∙ ap refused eleven))))
      by (got a) e =
          let is = answers-right g k c ok k>0 room a e in
          let enough : EnoughRoom g k c = λ o. not-got (sym ((eleven-exactly g k c ok k>0 room).1 o) ∙ e) in
          right-more (λ xs fine. (fine.0, (enough, λ p. fine.1 (p.0, (own-means g A p.0).1 p.1, p.2))))
          (over-more (λ p. inr (enough, (p.0, (own-means g A p.0).0 p.1, p.2)))
          (choices-right g ok k k>0 c a is.production-sets is.follow-sets A (own g A) (λ i m. (own-means g A i).0 m)))

  -- What is decided, and that its choices are the joined sets.
  abbrev Decides : ℕ → Answer Decided → Type 0
  Decides limit m = Answered g c limit A (only_k m) × ((d : Decided) → m ≡ got d → RightFor g A d)

  module _ (several : ¬ OneProduction g A) (limit : ℕ) where
    -- Trying from k on, where nothing before it serves.
    try-right : (left k : ℕ) → 1 ≤ k → k + left ≡ suc limit → NoneBelow g c A k → Decides limit (try_from c g A left k)
    unfolding try_from
    try-right zero k k>0 l none = let z : k ≡ suc limit = omega arith in (none-serves several (rw z at none), λ d e. not-got e)
    try-right (suc left) k k>0 l none = by (choices_at c g A k) (at_right k k>0) (try-right left (suc k) (omega arith) (omega arith))
      where
        Rest : Answer (List Choice) → Answer Decided
        Rest m = m >>= λ xs. elim (apart xs) [ true ↦ got (record { k = k; choices = xs }) | false ↦ try_from c g A left (suc k) ]

        by : (m : Answer (List Choice)) → Right (Over k) (λ xs. Each (ChoiceIs g k) (own g A) xs × WorkedOut g c A k) m → (NoneBelow g c A (suc k) → Decides limit (try_from c g A left (suc k)))
            → Decides limit (Rest m)
        by (refused r) (no_room (inl o)) below = (passed_on several (k>0, omega arith) none o, λ d e. not-got e)
        by (refused r) (no_room (inr (enough, o))) below = (own-set several (k>0, omega arith) none enough o, λ d e. not-got e)
        by (got xs) (right (all, worked)) below = test (apart xs) refl
          where
            test : (b : Bool) → apart xs ≡ b → Decides limit (elim b [ true ↦ got (record { k = k; choices = xs }) | false ↦ try_from c g A left (suc k) ])
            test true e =
                let s = (apart-means g k A xs all).0 (passed e) in (
                  serves several (k>0, omega arith) none worked s,
                  λ d q. subst (RightFor g A) (got-inj q) (right-several several k>0 all s (smallest several k>0 s (λ j j>0 l. (none j j>0 l).1))),
                )
            test false e = below (λ j j>0 h. last j j>0 h (dec_lt j k))
              where
                last : (j : ℕ) → 1 ≤ j → j < suc k → Dec (j < k) → WorkedOut g c A j × ¬ Serves g j A
                last j j>0 h (yes l) = none j j>0 l
                last j j>0 h (no l) = let same : j ≡ k = omega arith in rw same (worked, λ s. fails e ((apart-means g k A xs all).1 s))

  -- What is decided: the answer as the rules have it, and its sets.
  pub decides : (limit : ℕ) → Decides limit (decide c g A limit)
  unfolding decide
  decides limit = by (own g A) refl
    where
      -- nothing is below 1
      start : NoneBelow g c A 1
      start j j>0 h = absurd (omega arith)

      by : (is : List ℕ) → own g A ≡ is → Decides limit (decide_for c g A is limit)
      by [] e = try-right (λ o. not-nil (rw e at ((own-means g A o.0).1 o.1))) limit limit 1 (omega arith) (omega arith) start
      by (i ∷ []) e =
          let o : Of g A i = (own-means g A i).0 (rw e (here refl)) in
          let one : OneProduction g A = (i, o, λ j q. only (rw e at ((own-means g A j).1 q))) in
          (one-production one, λ d q. subst (RightFor g A) (got-inj q) (right-one o one))
      by (i ∷ j ∷ is) e =
          let up : Rising (i ∷ j ∷ is) = rw e at (own-rising A 0 g.productions) in
          let before = up.0 j (here refl) in
          try-right (λ o.
          let p : i ≡ o.0 = o.2 i ((own-means g A i).0 (rw e (here refl))) in
          let q : j ≡ o.0 = o.2 j ((own-means g A j).0 (rw e (there (here refl)))) in
          omega arith) limit limit 1 (omega arith) (omega arith) start

  -- The answer is one that the rules give.
  pub answered : (limit : ℕ) → Answered g c limit A (needed_k c g A limit)
  unfolding needed_k
  answered limit = (decides limit).0

  -- And what is decided is right.
  pub decided-right : (limit : ℕ) (d : Decided) → decide c g A limit ≡ got d → RightFor g A d
  decided-right limit = (decides limit).1

-- ---- there is one answer

module _ (g : Grammar) (c limit A : ℕ) where
  -- A k that serves is not below one by which none does.
  ordered : {j k : ℕ} → 1 ≤ j → NoneBelow g c A k → Serves g j A → k ≤ j
  ordered {j} {k} j>0 none s = by (dec_le k j)
    where
      by : Dec (k ≤ j) → k ≤ j
      by (yes h) = h
      by (no h) = absurd ((none j j>0 (omega arith)).1 s)

  -- Nor is one that was not worked out.
  ordered-out : {j k : ℕ} → 1 ≤ j → NoneBelow g c A k → ¬ WorkedOut g c A j → k ≤ j
  ordered-out {j} {k} j>0 none s = by (dec_le k j)
    where
      by : Dec (k ≤ j) → k ≤ j
      by (yes h) = h
      by (no h) = absurd (s (none j j>0 (omega arith)).0)

  -- What stops the search at k.
  data Stop (k : ℕ) : Answer ℕ → Type 0 where
    served : WorkedOut g c A k → Serves g k A → Stop k (got k)
    not-worked : ¬ WorkedOut g c A k → Stop k (refused 11)

  -- Two stops are at one k, and give one answer.
  one-stop : {j k : ℕ} {x y : Answer ℕ} → 1 ≤ j → 1 ≤ k → NoneBelow g c A j → NoneBelow g c A k → Stop j x → Stop k y → x ≡ y
  one-stop hj hk p q (served v s) (served w t) = ap got (let a = ordered hj q s in let b = ordered hk p t in omega arith)
  one-stop {j} {k} hj hk p q (served v s) (not-worked n) =
      let a = ordered hj q s in
      let b = ordered-out hk p n in
      let e : j ≡ k = omega arith in
      absurd (n (rw e at v))
  one-stop {j} {k} hj hk p q (not-worked n) (served v s) =
      let a = ordered hk p s in
      let b = ordered-out hj q n in
      let e : k ≡ j = omega arith in
      absurd (n (rw e at v))
  one-stop hj hk p q (not-worked n) (not-worked m) = refl

  -- No stop where every k up to the limit was worked out and none serves.
  no_stop : {k : ℕ} {x : Answer ℕ} → Between 1 limit k → NoneBelow g c A (suc limit) → Stop k x → ⊥
  no_stop {k} h none (served w s) = let a = ordered h.0 none s in omega arith
  no_stop {k} h none (not-worked n) = let a = ordered-out h.0 none n in omega arith

  -- How an answer came about: by one production, by a stop, or by the end.
  data Way : Answer ℕ → Type 0 where
    by_one : OneProduction g A → Way (got 0)
    by-stop : {k : ℕ} {x : Answer ℕ} → ¬ OneProduction g A → Between 1 limit k → NoneBelow g c A k → Stop k x → Way x
    by_end : ¬ OneProduction g A → NoneBelow g c A (suc limit) → Way (refused 22)

  -- The way of an answer.
  way : {x : Answer ℕ} → Answered g c limit A x → Way x
  way (one-production o) = by_one o
  way (serves n h none w s) = by-stop n h none (served w s)
  way (passed_on n h none o) = by-stop n h none (not-worked (λ w. w.0 o))
  way (own-set n h none e o) = by-stop n h none (not-worked (λ w. w.1 o))
  way (none-serves n none) = by_end n none

  -- Two ways lead to one answer.
  one_way : {x y : Answer ℕ} → Way x → Way y → x ≡ y
  one_way (by_one o) (by_one p) = refl
  one_way (by_one o) (by-stop n h none s) = absurd (n o)
  one_way (by_one o) (by_end n none) = absurd (n o)
  one_way (by-stop n h none s) (by_one o) = absurd (n o)
  one_way (by-stop n h none s) (by-stop n' h' none' s') = one-stop h.0 h'.0 none none' s s'
  one_way (by-stop n h none s) (by_end n' none') = absurd (no_stop h none' s)
  one_way (by_end n none) (by_one o) = absurd (n o)
  one_way (by_end n none) (by-stop n' h' none' s) = absurd (no_stop h' none s)
  one_way (by_end n none) (by_end n' none') = refl

  -- What the rules give is one answer.
  pub answered-one : {x y : Answer ℕ} → Answered g c limit A x → Answered g c limit A y → x ≡ y
  answered-one p q = one_way (way p) (way q)

-- ---- what the answers mean

-- Two needed k are one.
pub needs-one : (g : Grammar) (A : ℕ) {j k : ℕ} → Needs g A j → Needs g A k → j ≡ k
needs-one g A (needs-none o) (needs-none p) = refl
needs-one g A (needs-none o) (smallest n h s none) = absurd (n o)
needs-one g A (smallest n h s none) (needs-none o) = absurd (n o)
needs-one g A (smallest {k = j} n h s none) (smallest {k = k} n' h' s' none') = by (dec_lt j k) (dec_lt k j)
  where
    by : Dec (j < k) → Dec (k < j) → j ≡ k
    by (yes l) q = absurd (none' j h l s)
    by (no l) (yes m) = absurd (none k h' m s')
    by (no l) (no m) = omega arith

module _ (g : Grammar) (ok : Accepted g) (c : ℕ) (room : 1 ≤ c) (limit A : ℕ) where
  -- the answer
  abbrev answer : Answer ℕ
  answer = needed_k c g A limit

  -- A k that is answered is needed.
  pub answered-needs : (k : ℕ) → answer ≡ got k → Needs g A k
  answered-needs k e = by answer e (answered g ok c room A limit)
    where
      by : (x : Answer ℕ) → x ≡ got k → Answered g c limit A x → Needs g A k
      by x e (one-production o) = rw (← got-inj e) (needs-none o)
      by x e (serves n h none w s) = rw (← got-inj e) (smallest n h.0 s (λ j j>0 l. (none j j>0 l).1))
      by x e (passed_on n h none o) = not-got e
      by x e (own-set n h none p o) = not-got e
      by x e (none-serves n none) = not-got e

  -- A k that is needed, is within the limit, and was worked out with those before it, is answered.
  pub needs-answered : (k : ℕ) → Needs g A k → k ≤ limit → ((j : ℕ) → 1 ≤ j → j ≤ k → WorkedOut g c A j) → answer ≡ got k
  needs-answered k (needs-none o) l worked = answered-one g c limit A (answered g ok c room A limit) (one-production o)
  needs-answered k (smallest n h s none) l worked =
      answered-one g c limit A (answered g ok c room A limit)
      (serves n (h, l) (λ j j>0 i. (worked j j>0 (omega arith), none j j>0 i)) (worked k h (omega arith)) s)

  -- 0 is answered exactly where there is one production.
  pub zero-exactly : (answer ≡ got 0) ↔ OneProduction g A
  zero-exactly = (λ e. by (answered-needs 0 e), λ o. answered-one g c limit A (answered g ok c room A limit) (one-production o))
    where
      by : Needs g A 0 → OneProduction g A
      by (needs-none o) = o
      by (smallest n h s below) = absurd (omega arith)

  -- 22 is given exactly when A has more than one production, every k up to the limit was worked out, and none serves.
  pub twenty-two-exactly : (answer ≡ refused 22) ↔ (¬ OneProduction g A × NoneBelow g c A (suc limit))
  twenty-two-exactly = (λ e. by answer e (answered g ok c room A limit), λ h. answered-one g c limit A (answered g ok c room A limit) (none-serves h.0 h.1))
    where
      twenty-two-not : ◌≡◌ {A = Answer ℕ} (refused 11) (refused 22) → ⊥
      twenty-two-not e = let n : ◌≡◌ {A = ℕ} 11 22 = cc in omega arith

      by : (x : Answer ℕ) → x ≡ refused 22 → Answered g c limit A x → ¬ OneProduction g A × NoneBelow g c A (suc limit)
      by x e (one-production o) = not-got (sym e)
      by x e (serves n h none w s) = not-got (sym e)
      by x e (passed_on n h none o) = absurd (twenty-two-not e)
      by x e (own-set n h none p o) = absurd (twenty-two-not e)
      by x e (none-serves n none) = (n, none)

  -- 11 is given exactly when some k up to the limit was not worked out, and none before it serves.
  pub eleven-for-one-exactly : (answer ≡ refused 11) ↔ (¬ OneProduction g A × NotWorkedOut g c limit A)
  eleven-for-one-exactly = (λ e. by answer e (answered g ok c room A limit), λ (n, (k, h, none, o)). answered-one g c limit A (answered g ok c room A limit) (back n h none o))
    where
      back : ¬ OneProduction g A → {k : ℕ} → Between 1 limit k → NoneBelow g c A k → (SomePasses g k c ⊎ (EnoughRoom g k c × OwnPasses g c A k)) → Answered g c limit A (refused 11)
      back n h none (inl o) = passed_on n h none o
      back n h none (inr o) = own-set n h none o.0 o.1

      eleven-not : ◌≡◌ {A = Answer ℕ} (refused 22) (refused 11) → ⊥
      eleven-not e = let n : ◌≡◌ {A = ℕ} 22 11 = cc in omega arith

      by : (x : Answer ℕ) → x ≡ refused 11 → Answered g c limit A x → ¬ OneProduction g A × NotWorkedOut g c limit A
      by x e (one-production o) = not-got (sym e)
      by x e (serves n h none w s) = not-got (sym e)
      by x e (passed_on {k = k} n h none o) = (n, (k, h, none, inl o))
      by x e (own-set {k = k} n h none p o) = (n, (k, h, none, inr (p, o)))
      by x e (none-serves n none) = absurd (eleven-not e)

-- What is decided stays decided at any limit that reaches its k.
pub stays-decided : (g : Grammar) → Accepted g → (c : ℕ) → 1 ≤ c → (A limit more k : ℕ) → needed_k c g A limit ≡ got k → k ≤ more → needed_k c g A more ≡ got k
stays-decided g ok c room A limit more k e l = by (needed_k c g A limit) e (answered g ok c room A limit)
  where
    same : {x : Answer ℕ} → Answered g c more A x → needed_k c g A more ≡ x
    same a = answered-one g c more A (answered g ok c room A more) a

    by : (x : Answer ℕ) → x ≡ got k → Answered g c limit A x → needed_k c g A more ≡ got k
    by x e (one-production o) = same (one-production o) ∙ e
    by x e (serves n h none w s) = same (serves n (h.0, rw (← got-inj e) at l) none w s) ∙ e
    by x e (passed_on n h none o) = not-got e
    by x e (own-set n h none p o) = not-got e
    by x e (none-serves n none) = not-got e
