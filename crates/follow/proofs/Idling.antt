-- Equations that have nothing to add: such an equation can be skipped, and stays so until its source's set grows. The list of the equations turns
-- as a round goes on, those that are passed behind those to come, so that each keeps the number at which it comes next. Assumes nothing.
use Prim.Native.Nat.{ℕ, suc, ◌+◌, ◌-◌, ◌≤◌, ◌<◌}
use native.Mathlib.Omega.{arith}
use mathlib.Core.Path.{◌≡◌, refl, sym, ap, ◌∙◌, subst}
use mathlib.Core.Logic.{inr}
use mathlib.Core.List.Memᴰ.{head as here}
use mathlib.Core.List.Memᴰ.{tail as there}
use mathlib.Core.List.{List, [], ◌∷◌, ◌++◌, append_assoc, append-nil}
use lib.ListN.{length, get_or, set, length-append}
use lib.Seq.{get_or-set_same, get_or-set_other}
use Rattle.k_tuple.specs.Strings.{Str}
use Rattle.k_tuples.specs.Sets.{◌∈◌, ◌⊆◌, union, join_sets}
use Rattle.k_tuples.specs.States.{State, set_of}
use Rattle.k_tuples.specs.Work.{got}
use Rattle.k_tuples.proofs.Sets.{mem-union, union-grows}
use Rattle.k_tuples.proofs.States.{set_all}
use Rattle.k_tuples.proofs.Work.{got-inj}
use Rattle.first_theory.specs.Compute.{right_side}
use Rattle.follow_theory.specs.Follow.{Occurrence}
use Rattle.follow.specs.Due.{Idle, DueOrIdle, no_more, one_more}

module _ (c k : ℕ) (X : State) where
  -- ---- one equation

  -- by the suffix set at hand
  pub idle-by : (F : State) (o : Occurrence) (b : List Str) → right_side c k X o.rest ≡ got b → join_sets k b (set_of F o.source) ⊆ set_of F o.target → Idle c k X F o
  idle-by F o b e h = record { has = λ a e'. subst (λ (l : List Str). join_sets k l (set_of F o.source) ⊆ set_of F o.target) (got-inj (sym e ∙ e')) h }

  -- while the source's set is the same, and the target's set only grows
  idle-stays : {F G : State} {o : Occurrence} → set_of G o.source ≡ set_of F o.source → set_of F o.target ⊆ set_of G o.target → Idle c k X F o → Idle c k X G o
  idle-stays s t h = record { has = λ a e z m. t z (h.has a e z (subst (λ (l : List Str). z ∈ join_sets k a l) s m)) }

  -- ---- a list of equations

  -- a law of each equation, at its place j
  every :
      {F G : State} {due due' : List ℕ} {m : ℕ} (m' : ℕ) {os : List Occurrence}
      → ((o : Occurrence) → o ∈ os → (j : ℕ) → j < length os → (get_or due o.source 0 ≤ m + j → Idle c k X F o) → get_or due' o.source 0 ≤ m' + j → Idle c k X G o)
      → DueOrIdle c k X F due m os → DueOrIdle c k X G due' m' os
  every m' law no_more = no_more
  every {due' = due'} m' law (one_more {o = o} h more) =
      one_more (λ (l : get_or due' o.source 0 ≤ m'). law o (here refl) 0 (omega arith) (λ d. h (omega arith)) (omega arith))
      (every (m' + 1) (λ p i j l f d. law p (there i) (suc j) (omega arith) (λ e. f (omega arith)) (omega arith)) more)

  -- one more at the end
  last_more : {F : State} {due : List ℕ} {m : ℕ} {os : List Occurrence} {o : Occurrence}
      → DueOrIdle c k X F due m os → (get_or due o.source 0 ≤ m + length os → Idle c k X F o) → DueOrIdle c k X F due m (os ++ o ∷ [])
  last_more {due = due} {m = m} {o = o} no_more f = one_more (λ (l : get_or due o.source 0 ≤ m). f (omega arith)) no_more
  last_more (one_more h more) f = one_more h (last_more more (λ l. f (omega arith)))

  -- numbers so high that all equations are due
  pub all-due : (F : State) (due : List ℕ) (q m : ℕ) (os : List Occurrence) → m + length os ≤ q → ((o : Occurrence) → o ∈ os → q ≤ get_or due o.source 0) → DueOrIdle c k X F due m os
  all-due F due q m [] l high = no_more
  all-due F due q m (o ∷ os) l high = one_more (λ (d : get_or due o.source 0 ≤ m). absurd (omega (arith, high o (here refl)))) (all-due F due q (m + 1) os (omega arith) (λ p i. high p (there i)))

  -- the next round's numbers
  pub all-lowered : {F : State} {due due' : List ℕ} {q : ℕ} {os : List Occurrence} → ((o : Occurrence) → o ∈ os → get_or due' o.source 0 ≡ get_or due o.source 0 - q)
      → DueOrIdle c k X F due q os → DueOrIdle c k X F due' 0 os
  all-lowered less = every 0 (λ o i j l f d. f (omega (arith, less o i)))

  -- ---- a round

  -- the equations of os₀, of which os are to come, the first of them with number i; behind them come those that are passed
  pub record Turning (os₀ os : List Occurrence) (i : ℕ) (F : State) (due : List ℕ) : Type 0 where
    pub passed : List Occurrence
    pub whole : os₀ ≡ passed ++ os
    pub or-idle : DueOrIdle c k X F due i (os ++ passed)

  pub turning-start : {os₀ : List Occurrence} {F : State} {due : List ℕ} → DueOrIdle c k X F due 0 os₀ → Turning os₀ os₀ 0 F due
  turning-start {os₀} h = record { passed = []; whole = refl; or-idle = rw append-nil h }

  pub turning-end : {os₀ : List Occurrence} {i : ℕ} {F : State} {due : List ℕ} → Turning os₀ [] i F due → DueOrIdle c k X F due i os₀
  turning-end t = rw (t.whole, append-nil) t.or-idle

  module _ {os₀ : List Occurrence} {o : Occurrence} {os : List Occurrence} {i : ℕ} {F : State} {due : List ℕ} (t : Turning os₀ (o ∷ os) i F due) where
    -- the others
    rest : DueOrIdle c k X F due (i + 1) (os ++ t.passed)
    rest = by t.or-idle
      where
        by : DueOrIdle c k X F due i (o ∷ (os ++ t.passed)) → DueOrIdle c k X F due (i + 1) (os ++ t.passed)
        by (one_more h more) = more

    -- how many there are
    number : length os₀ ≡ length (os ++ t.passed) + 1
    number = omega (arith, ap length t.whole, length-append t.passed (o ∷ os), length-append os t.passed)

    -- the equation goes behind the others
    turned : {G : State} {due' : List ℕ} → DueOrIdle c k X G due' (i + 1) (os ++ t.passed) → (get_or due' o.source 0 ≤ length os₀ + i → Idle c k X G o) → Turning os₀ os (i + 1) G due'
    turned {G} {due'} h f = record {
      passed = t.passed ++ o ∷ [];
      whole = t.whole ∙ sym (append_assoc t.passed (o ∷ []) os);
      or-idle = rw (← append_assoc os t.passed (o ∷ [])) (last_more h (λ l. f (omega (arith, number))));
    }

    -- it is not due
    pub turning-skipped : get_or due o.source 0 ≤ i → Idle c k X F o
    turning-skipped = by t.or-idle
      where
        by : DueOrIdle c k X F due i (o ∷ (os ++ t.passed)) → get_or due o.source 0 ≤ i → Idle c k X F o
        by (one_more h more) = h

    -- it adds nothing
    pub turning-idle : Idle c k X F o → Turning os₀ os (i + 1) F due
    turning-idle h = turned rest (λ _. h)

    -- it adds to its target's set: the equations with that source are due until it has come once more
    module _ (b : List Str) (suffix : right_side c k X o.rest ≡ got b) (in-sets : o.target < length F) (in-due : o.target < length due) (v : ℕ) (high : length os₀ + i < v) where
      abbrev new : List Str
      new = union (set_of F o.target) (join_sets k b (set_of F o.source))

      abbrev G : State
      G = set F o.target new

      -- an equation that is not due has another source, whose set is the same
      module _ (p : Occurrence) (n : ℕ) (low : n ≤ length os₀ + i) (d : get_or (set due o.target v) p.source 0 ≤ n) where
        other : ¬ p.source ≡ o.target
        other e = omega (arith, get_or-set_same due o.target v 0 in-due, subst (λ (A : ℕ). get_or (set due o.target v) A 0 ≤ n) e d)

        same-due : get_or due p.source 0 ≤ n
        same-due = rw (get_or-set_other due o.target p.source v 0 other) at d

        same_source : set_of G p.source ≡ set_of F p.source
        same_source = get_or-set_other F o.target p.source new [] other

      -- every set keeps its members
      grows : (A : ℕ) → set_of F A ⊆ set_of G A
      grows A = set_all (λ (B : ℕ) (l : List Str). set_of F B ⊆ l) F o.target new A (union-grows (set_of F o.target) (join_sets k b (set_of F o.source))) (λ z m. m)

      -- the target's set has the join
      added : join_sets k b (set_of F o.source) ⊆ set_of G o.target
      added z m = rw (get_or-set_same F o.target new [] in-sets) ((mem-union z (set_of F o.target) (join_sets k b (set_of F o.source))).1 (inr m))

      -- the other equations, and then its own
      stay : (p : Occurrence) (n : ℕ) → n ≤ length os₀ + i → (get_or due p.source 0 ≤ n → Idle c k X F p) → get_or (set due o.target v) p.source 0 ≤ n → Idle c k X G p
      stay p n low f d = idle-stays (same_source p n low d) (grows p.target) (f (same-due p n low d))

      own : get_or (set due o.target v) o.source 0 ≤ length os₀ + i → Idle c k X G o
      own d = idle-by G o b suffix (rw (same_source o (length os₀ + i) (omega arith) d) added)

      pub turning-grown : Turning os₀ os (i + 1) G (set due o.target v)
      turning-grown = turned (every (i + 1) (λ p _ j l. stay p (i + 1 + j) (omega (arith, number))) rest) own
