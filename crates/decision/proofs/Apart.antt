-- The test of pairs, and what it decides. Assumes nothing.
use Prim.Native.Nat.{ℕ, ◌+◌, ◌*◌, ◌≤◌, ◌<◌}
use native.Mathlib.Omega.{arith}
use native.Mathlib.Decide.{dec_lt}
use mathlib.Core.Path.{◌≡◌, refl, sym, ◌∙◌, subst}
use mathlib.Core.Bool.{Bool, true, false, true≢false, false≢true}
use mathlib.Core.List.{List}
use borrow.Author.Count.{below_more}
use lib.ListN.{length, get_or, set, length-set}
use lib.Seq.{get_or-set_same, get_or-set_other}
use Rattle.k_tuples.specs.Sets.{disjoint}
use Rattle.k_tuples.specs.States.{State, set_of}
use Rattle.k_tuples.specs.Held.{Holds}
use Rattle.k_tuples.specs.Blocks.{sets_in, part_at}
use Rattle.k_tuples.proofs.Blocks.{in-sets, part_room, part-holds}
use Rattle.blocks.specs.Stores.{Sets}
use Rattle.decision.specs.declared.Links.{Links}
use Rattle.decision.specs.declared.Layout.{Layout}
use Rattle.decision.specs.Own.{left_at, next_at, first_at, Linked}
use Rattle.decision.specs.Steps.{Long, production_set, Says, ApartFrom, ApartBelow, Apart, DecidedTo, DecidedOne, Deciding}

-- ---- a set of the result, lent to a call

module _ {b m : ℕ} {ws : List ℕ} (s : Sets b m ws) (j : ℕ) (h : j < m) where
  pub set_room : j * b + b ≤ length ws
  set_room = part_room s.store.stored j (in-sets s.store h)

  pub set_holds : Holds s.k s.width (set_of (sets_in b m ws) j) (part_at b j ws)
  set_holds = part-holds s.store.stored j (in-sets s.store h)

-- ---- up to the next one

-- what holds below j, at j, and of all between j and n, holds below n
below_next : (P : ℕ → Type 0) (j n : ℕ) → ((q : ℕ) → q < j → P q) → P j → ((q : ℕ) → j < q → q < n → P q) → (q : ℕ) → q < n → P q
below_next P j n before at after q h = by (dec_lt q j) (dec_lt j q)
  where
    by : Dec (q < j) → Dec (j < q) → P q
    by (yes l) m = before q l
    by (no l) (yes m) = after q m h
    by (no l) (no m) = let e : q ≡ j = omega arith in rw e at

-- ---- one with those behind it

module _ (u : Layout) (links : Links) (R : State) where
  pub record Behind (i j : ℕ) : Type 0 where
    pub above : i + 1 ≤ j
    pub below : j ≤ u.p
    pub here : j < u.p → left_at links j ≡ left_at links i
    pub apart : ApartFrom u links R i (i + 1) j

  module _ (w : Linked links u.p) where
    pub behind-start : (i : ℕ) → i < u.p → Behind i (next_at links i)
    behind-start i h =
        let f = w.nexts i (omega arith) h in
        record { above = f.above; below = f.below; here = f.here; apart = λ j a b e. absurd (f.none j a b e) }

    pub behind_more : {i j : ℕ} {r : Bool} → Behind i j → r ≡ disjoint (production_set u R i) (production_set u R j) → j < u.p → r ≡ true → Behind i (next_at links j)
    behind_more {i} {j} b e h t =
        let f = w.nexts j (omega arith) h in
        let same = b.here h in
        record {
          above = omega (arith, b.above, f.above);
          below = f.below;
          here = λ l. f.here l ∙ same;
          apart = λ q a l. below_next (λ q. i + 1 ≤ q → left_at links q ≡ left_at links i → disjoint (production_set u R i) (production_set u R q) ≡ true) j (next_at links j)
              (λ q l a. b.apart q a l) (λ _ _. sym e ∙ t) (λ q m l _ s. absurd (f.none q (omega arith) l (s ∙ sym same))) q l a;
        }

  module _ {i j : ℕ} (w : Behind i j) where
    pub behind-meets : {r : Bool} → r ≡ disjoint (production_set u R i) (production_set u R j) → j < u.p → r ≡ false → Says false (ApartFrom u links R i (i + 1) u.p)
    behind-meets e h t = record { yes = λ n. absurd (false≢true n); no = λ _ all. true≢false (sym (all j w.above h (w.here h)) ∙ sym e ∙ t) }

    pub behind-end : u.p ≤ j → Says true (ApartFrom u links R i (i + 1) u.p)
    behind-end h = let same : j ≡ u.p = omega (arith, w.below) in record { yes = λ _. subst (ApartFrom u links R i (i + 1)) same w.apart; no = λ n. absurd (true≢false n) }

  -- ---- all of a nonterminal's

  pub record Whole (A i : ℕ) : Type 0 where
    pub below : i ≤ u.p
    pub here : i < u.p → left_at links i ≡ A
    pub apart : ApartBelow u links R A i

  module _ (w : Linked links u.p) where
    pub whole-start : (A : ℕ) → A < 128 → Whole A (first_at links A)
    whole-start A h =
        let f = w.firsts A h in
        record { below = f.below; here = f.here; apart = λ i l e. absurd (f.none i (omega arith) l e) }

    pub whole-more : {A i : ℕ} {r : Bool} → Whole A i → Says r (ApartFrom u links R i (i + 1) u.p) → i < u.p → r ≡ true → Whole A (next_at links i)
    whole-more {A} {i} b s h t =
        let f = w.nexts i (omega arith) h in
        let same = b.here h in
        record {
          below = f.below;
          here = λ l. f.here l ∙ same;
          apart = below_next (λ q. left_at links q ≡ A → ApartFrom u links R q (q + 1) u.p) i (next_at links i)
              b.apart (λ _. s.yes t) (λ q m l e. absurd (f.none q (omega arith) l (e ∙ sym same)));
        }

  module _ {A i : ℕ} (w : Whole A i) where
    pub whole_meets : {r : Bool} → Says r (ApartFrom u links R i (i + 1) u.p) → i < u.p → r ≡ false → Says false (Apart u links R A)
    whole_meets s h t = record { yes = λ n. absurd (false≢true n); no = λ _ all. s.no t (all i h (w.here h)) }

    pub whole-end : u.p ≤ i → Says true (Apart u links R A)
    whole-end h = let same : i ≡ u.p = omega (arith, w.below) in record { yes = λ _. subst (ApartBelow u links R A) same w.apart; no = λ n. absurd (true≢false n) }

  -- ---- what is decided

  module _ (k a : ℕ) (ρ κ : List ℕ) where
    pub decide-closed : (get_or ρ a 0 ≡ 22 → ⊥) → DecidedOne u links k a R ρ κ ρ κ
    decide-closed e = record { here = DecidedTo.closed e refl refl; others = λ A d. (refl, refl); long = (refl, refl) }

    module _ (e : get_or ρ a 0 ≡ 22) {r : Bool} (s : Says r (Apart u links R a)) where
      pub decide-stays : r ≡ false → DecidedOne u links k a R ρ κ ρ κ
      decide-stays f = record { here = DecidedTo.stays e (s.no f) e refl; others = λ A d. (refl, refl); long = (refl, refl) }

      pub decide-serves : r ≡ true → a < u.n → u.n ≤ 128 → Long ρ → Long κ → DecidedOne u links k a R ρ κ (set ρ a 0) (set κ a k)
      decide-serves t m few h l = record {
        here = DecidedTo.serves e (s.yes t) (get_or-set_same ρ a 0 0 (omega arith)) (get_or-set_same κ a k 0 (omega arith));
        others = λ A d. (get_or-set_other ρ a A 0 0 d, get_or-set_other κ a A k 0 d);
        long = (length-set ρ a 0, length-set κ a k);
      }

  pub record Decides (k a : ℕ) (ρ₀ κ₀ ρ κ : List ℕ) : Type 0 where
    pub below : a ≤ u.n
    pub so_far : Deciding u links k a R ρ₀ κ₀ ρ κ

  pub decides-start : (k : ℕ) (ρ κ : List ℕ) → Decides k 0 ρ κ ρ κ
  decides-start k ρ κ = record { below = omega arith; so_far = record { each = λ A h. absurd (omega arith); others = λ A h. (refl, refl); long = (refl, refl) } }

  module _ {k a : ℕ} {ρ₀ κ₀ ρ κ : List ℕ} (w : Decides k a ρ₀ κ₀ ρ κ) where
    pub decides-more : {ρ' κ' : List ℕ} → a < u.n → DecidedOne u links k a R ρ κ ρ' κ' → Decides k (a + 1) ρ₀ κ₀ ρ' κ'
    decides-more {ρ'} {κ'} h d =
        let here : (get_or ρ a 0 ≡ get_or ρ₀ a 0) × (get_or κ a 0 ≡ get_or κ₀ a 0) = w.so_far.others a (omega arith) in
        record {
          below = omega arith;
          so_far = record {
            each = below_more _ a
                (λ A l. let o : (get_or ρ' A 0 ≡ get_or ρ A 0) × (get_or κ' A 0 ≡ get_or κ A 0) = d.others A (λ (q : A ≡ a). omega arith) in rw (o.0, o.1) (w.so_far.each A l))
                (rw (here.0, here.1) at d.here);
            others = λ A l.
                let o : (get_or ρ' A 0 ≡ get_or ρ A 0) × (get_or κ' A 0 ≡ get_or κ A 0) = d.others A (λ (q : A ≡ a). omega arith) in
                let p : (get_or ρ A 0 ≡ get_or ρ₀ A 0) × (get_or κ A 0 ≡ get_or κ₀ A 0) = w.so_far.others A (omega arith) in
                (o.0 ∙ p.0, o.1 ∙ p.1);
            long = (d.long.0 ∙ w.so_far.long.0, d.long.1 ∙ w.so_far.long.1);
          };
        }

    pub decides-end : u.n ≤ a → Deciding u links k u.n R ρ₀ κ₀ ρ κ
    decides-end h = let same : a ≡ u.n = omega (arith, w.below) in subst (λ (m : ℕ). Deciding u links k m R ρ₀ κ₀ ρ κ) same w.so_far
