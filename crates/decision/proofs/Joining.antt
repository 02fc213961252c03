-- Joins in place. Assumes nothing.
use Prim.Native.Nat.{ℕ, ◌+◌, ◌*◌, ◌≤◌, ◌<◌}
use native.Mathlib.Omega.{arith}
use mathlib.Core.Path.{◌≡◌, refl, sym, ap, ap₂, ◌∙◌, subst}
use mathlib.Core.Bool.{Bool, true, false}
use mathlib.Core.List.{List, []}
use borrow.Author.Count.{below_more}
use borrow.Author.Tests.{ltb-true, ltb-false, eqb-true, eqb-false}
use lib.Dec.{ltb, eqb}
use lib.ListN.{length, get_or, set, drop, replicate, replicate-append-replicate, length-set}
use lib.Seq.{get_or-set_same, get_or-set_other}
use Rattle.std.specs.Prelude.{Result, Ok, Err}
use Rattle.refusals.specs.declared.Refusal.{Refusal}
use Rattle.refusals.specs.declared.Refusal.TheVariants.{SetTooLarge}
use Rattle.k_tuple.specs.Strings.{Str}
use Rattle.k_tuples.specs.Sets.{join_sets}
use Rattle.k_tuples.specs.States.{State, set_of}
use Rattle.k_tuples.specs.Words.{Growth, is_full}
use Rattle.k_tuples.specs.Held.{Holds}
use Rattle.k_tuples.specs.Blocks.{sets_in, IsStored, part_at}
use Rattle.k_tuples.proofs.Blocks.{in-sets, length-sets, kept_at, part_room, part-holds, stored-length}
use Rattle.k_tuples.proofs.Filling.{full-grown}
use Rattle.blocks.specs.Stores.{Turned, Filled, Both, Joined, CopiedBlock}
use Rattle.blocks.proofs.Stores.{turned-store, turned-sets, turned-beyond, filled-turned, zeros-are-stored, same-long}
use Rattle.decision.specs.declared.Links.{Links}
use Rattle.decision.specs.declared.Layout.{Layout}
use Rattle.decision.specs.Own.{left_at}
use Rattle.decision.specs.Steps.{Fit, held, room, joined_of, Ready, Taken, OneJoined, JoinedOne, JoinedTo, Joining, JoinedAll}

module _ {u : Layout} {k : ℕ} {result work : List ℕ} (ready : Ready u k result work) where
  pub block_room : (j : ℕ) → j < u.sets → j * u.b + u.b ≤ length result
  block_room j h = part_room ready.result-store.stored j (in-sets ready.result-store h)

  pub block-holds : (j : ℕ) → j < u.sets → Holds k ready.width (set_of (held u result) j) (part_at u.b j result)
  block-holds j h = part-holds ready.result-store.stored j (in-sets ready.result-store h)

  -- ---- one join

  module _ {at from : ℕ} (h : at < u.sets) (l : from < u.sets) where
    abbrev product : List Str
    product = join_sets k (set_of (held u result) at) (set_of (held u result) from)

    module _ {r : Growth} {work₁ : List ℕ} (j : Joined k u.b 1 0 r (part_at u.b at result) (part_at u.b from result) work work₁) where
      filled : Filled k ready.width u.b 1 0 0 product r work work₁
      filled = j.step ready.width (set_of (held u result) at) (set_of (held u result) from) ready.work-store (block-holds at h) (block-holds from l)

      told : (b : Bool) → is_full r ≡ b → ltb (room u) (length product) ≡ b
      told b e = sym (full-grown (room u) 0 (length product)) ∙ ap is_full (sym filled.answer) ∙ e

      module _ (e : is_full r ≡ true) where
        pub take-over : {work₂ : List ℕ} → length work₁ ≡ length work → work₂ ≡ replicate (length work₁) 0 → Taken u k at from (Err SetTooLarge) result work result work₂
        take-over {work₂} same z =
            let some = (kept_at (sets_in u.b 1 work) 0 ready.work-store.stored.kept (in-sets ready.work-store (omega arith))).room in
            let one : length work ≡ 1 * u.b + length (drop (1 * u.b) work) = rw (length-sets u.b 1 work) at (stored-length ready.work-store.stored) in
            let cleared : (w : ℕ) → IsStored k w u.b 1 work₂ =
            λ w. subst (IsStored k w u.b 1) (sym (z ∙ ap (λ (n : ℕ). replicate n 0) (same ∙ one) ∙ sym (replicate-append-replicate (1 * u.b) (length (drop (1 * u.b) work)) 0))) (zeros-are-stored k w u.b 1 (replicate (length (drop (1 * u.b) work)) 0) (omega arith)) in
            record {
              ready = record {
                width = ready.width;
                result-store = ready.result-store;
                work-store = cleared ready.width;
                least = ready.least;
                most = ready.most;
              };
              keeps = λ w s t. (s, cleared w);
              over = λ f q. (cc, ltb-true _ _ (told true e), refl);
              done = λ x q. absurd (cc);
              beyond = refl;
            }

      module _ (e : is_full r ≡ false) where
        turned : Turned k ready.width u.b 1 (set (sets_in u.b 1 work) 0 product) work work₁
        turned = filled-turned filled e

        pub take-both : Both u.b u.sets 1 result work₁
        take-both = record { k = k; width = ready.width; first = ready.result-store; second = turned-store turned }

        there : set_of (sets_in u.b 1 work₁) 0 ≡ product
        there = ap (λ (F : State). set_of F 0) (turned-sets turned) ∙ get_or-set_same (sets_in u.b 1 work) 0 product [] (in-sets ready.work-store (omega arith))

        pub take_done : {result' : List ℕ} → CopiedBlock u.b u.sets 1 0 at work₁ result result' → Taken u k at from (Ok tt) result work result' work₁
        take_done {result'} c =
            let copied : Turned k ready.width u.b u.sets (set (held u result) at product) result result' =
            rw there at (c.step k ready.width ready.result-store (turned-store turned)) in
            record {
              ready = record { width = ready.width; result-store = turned-store copied; work-store = turned-store turned; least = ready.least; most = ready.most };
              keeps = λ w s t.
                  let filled_at : Filled k w u.b 1 0 0 product r work work₁ = j.step w (set_of (held u result) at) (set_of (held u result) from) t (part-holds s.stored at (in-sets s h)) (part-holds s.stored from (in-sets s l)) in
                  let second = turned-store (filled-turned filled_at e) in
                  (turned-store (c.step k w s second), second);
              over = λ f q. absurd (cc);
              done = λ x q. (ltb-false _ _ (told false e), turned-sets copied);
              beyond = turned-beyond copied;
            }

-- ---- one production after the other

module _ (u : Layout) (links : Links) (k : ℕ) where
  -- the loop
  pub record Joins (i : ℕ) (result₀ work₀ ρ₀ result work ρ : List ℕ) : Type 0 where
    pub below : i ≤ u.p
    pub so_far : JoinedAll u links k i ρ₀ ρ result₀ work₀ result work
    pub work-long : length work ≡ length work₀

  pub joins-start : (result work ρ : List ℕ) → Ready u k result work → Joins 0 result work ρ result work ρ
  joins-start result work ρ ready = record {
    below = omega arith;
    so_far = record {
      ready = ready;
      keeps = λ w s t. (s, t);
      joined = record { each = λ A l. by (get_or ρ A 0) (eqb (get_or ρ A 0) 22) refl; waiting = λ j l m. refl; follows = λ A l. refl; others = λ A l. refl; long = refl };
      beyond = refl;
    };
    work-long = refl;
  }
    where
      by : {A : ℕ} (r : ℕ) (b : Bool) → eqb r 22 ≡ b → JoinedTo u links k 0 A (held u result) (held u result) r r
      by r true e = JoinedTo.fits (eqb-true r 22 e) (eqb-true r 22 e) (λ j l. absurd (omega arith))
      by r false e = JoinedTo.closed (eqb-false r 22 e) refl

module _ (u : Layout) (links : Links) (k : ℕ) (fit : Fit u links) where
  module _ {i : ℕ} {R R₁ : State} {ρ ρ₁ : List ℕ} (w : Joining u links k i R R₁ ρ ρ₁) (h : i < u.p) where
    -- what waits is joined as at entry
    same-joined : joined_of u links k R₁ i ≡ joined_of u links k R i
    same-joined = ap₂ (join_sets k) (w.waiting i (omega arith) h) (w.follows (left_at links i) (fit.inside i h))

    -- nothing was joined: production i's left side is not open
    join-skipped : ¬ get_or ρ₁ (left_at links i) 0 ≡ 22 → Joining u links k (i + 1) R R₁ ρ ρ₁
    join-skipped n = record {
      each = λ A l. by A (w.each A l);
      waiting = λ j l m. w.waiting j (omega arith) m;
      follows = w.follows;
      others = w.others;
      long = w.long;
    }
      where
        by : (A : ℕ) → JoinedTo u links k i A R R₁ (get_or ρ A 0) (get_or ρ₁ A 0) → JoinedTo u links k (i + 1) A R R₁ (get_or ρ A 0) (get_or ρ₁ A 0)
        by A (JoinedTo.closed o e) = JoinedTo.closed o e
        by A (JoinedTo.over j l q big o e) = JoinedTo.over j (omega arith) q big o e
        by A (JoinedTo.fits o e all) = JoinedTo.fits o e (below_more _ i all (λ q. absurd (n (ap (λ (B : ℕ). get_or ρ₁ B 0) q ∙ e))))

    -- it was too large
    join-over : get_or ρ₁ (left_at links i) 0 ≡ 22 → room u < length (joined_of u links k R₁ i) → length ρ₁ ≡ 128 → Joining u links k (i + 1) R R₁ ρ (set ρ₁ (left_at links i) 11)
    join-over e big m = record {
      each = λ A l. case A l (eqb A (left_at links i)) refl;
      waiting = λ j l m. w.waiting j (omega arith) m;
      follows = w.follows;
      others = λ A l. get_or-set_other ρ₁ (left_at links i) A 11 0 (λ (q : A ≡ (left_at links i)). let s = fit.inside i h in omega arith) ∙ w.others A l;
      long = length-set ρ₁ (left_at links i) 11 ∙ w.long;
    }
      where
        at_a : JoinedTo u links k i (left_at links i) R R₁ (get_or ρ (left_at links i) 0) (get_or ρ₁ (left_at links i) 0) → JoinedTo u links k (i + 1) (left_at links i) R R₁ (get_or ρ (left_at links i) 0) (get_or (set ρ₁ (left_at links i) 11) (left_at links i) 0)
        at_a (JoinedTo.closed o f) = absurd (o (sym f ∙ e))
        at_a (JoinedTo.over j l q b o f) = absurd (let z : ◌≡◌ {A = ℕ} 11 22 = sym f ∙ e in omega arith)
        at_a (JoinedTo.fits o f all) = JoinedTo.over i (omega arith) refl (subst (λ (J : List Str). room u < length J) same-joined big) o (get_or-set_same ρ₁ (left_at links i) 11 0 (let s = fit.inside i h in let r = fit.few in omega arith))

        other : (A : ℕ) → ¬ A ≡ (left_at links i) → JoinedTo u links k i A R R₁ (get_or ρ A 0) (get_or ρ₁ A 0) → JoinedTo u links k (i + 1) A R R₁ (get_or ρ A 0) (get_or (set ρ₁ (left_at links i) 11) A 0)
        other A d (JoinedTo.closed o f) = JoinedTo.closed o (get_or-set_other ρ₁ (left_at links i) A 11 0 d ∙ f)
        other A d (JoinedTo.over j l q b o f) = JoinedTo.over j (omega arith) q b o (get_or-set_other ρ₁ (left_at links i) A 11 0 d ∙ f)
        other A d (JoinedTo.fits o f all) = JoinedTo.fits o (get_or-set_other ρ₁ (left_at links i) A 11 0 d ∙ f) (below_more _ i all (λ q. absurd (d (sym q))))

        case : (A : ℕ) → A < u.n → (b : Bool) → eqb A (left_at links i) ≡ b → JoinedTo u links k (i + 1) A R R₁ (get_or ρ A 0) (get_or (set ρ₁ (left_at links i) 11) A 0)
        case A l true t = let same : (left_at links i) ≡ A = sym (eqb-true A (left_at links i) t) in subst (λ (B : ℕ). JoinedTo u links k (i + 1) B R R₁ (get_or ρ B 0) (get_or (set ρ₁ (left_at links i) 11) B 0)) same (at_a (w.each (left_at links i) (rw same l)))
        case A l false t = other A (eqb-false A (left_at links i) t) (w.each A l)

    -- it stands in place
    join_kept : length (joined_of u links k R₁ i) ≤ room u → length R₁ ≡ u.sets → Joining u links k (i + 1) R (set R₁ (u.n + i) (joined_of u links k R₁ i)) ρ ρ₁
    join_kept small many = record {
      each = λ A l. by A (w.each A l);
      waiting = λ j l m. get_or-set_other R₁ (u.n + i) (u.n + j) (joined_of u links k R₁ i) [] (λ (q : u.n + j ≡ u.n + i). omega arith) ∙ w.waiting j (omega arith) m;
      follows = λ A l. get_or-set_other R₁ (u.n + i) (u.n + u.p + A) (joined_of u links k R₁ i) [] (λ (q : u.n + u.p + A ≡ u.n + i). omega arith) ∙ w.follows A l;
      others = w.others;
      long = w.long;
    }
      where
        by : (A : ℕ) → JoinedTo u links k i A R R₁ (get_or ρ A 0) (get_or ρ₁ A 0) → JoinedTo u links k (i + 1) A R (set R₁ (u.n + i) (joined_of u links k R₁ i)) (get_or ρ A 0) (get_or ρ₁ A 0)
        by A (JoinedTo.closed o e) = JoinedTo.closed o e
        by A (JoinedTo.over j l q big o e) = JoinedTo.over j (omega arith) q big o e
        by A (JoinedTo.fits o e all) = JoinedTo.fits o e (below_more _ i
            (λ j l q. ((all j l q).0, get_or-set_other R₁ (u.n + i) (u.n + j) (joined_of u links k R₁ i) [] (λ (d : u.n + j ≡ u.n + i). omega arith) ∙ (all j l q).1))
            (λ q. (subst (λ (J : List Str). length J ≤ room u) same-joined small, get_or-set_same R₁ (u.n + i) (joined_of u links k R₁ i) [] (let t = fit.whole in omega arith) ∙ same-joined)))

  module _ {i : ℕ} {result₀ work₀ ρ₀ result work ρ : List ℕ} (w : Joins u links k i result₀ work₀ ρ₀ result work ρ) where
    pub joins-more : {result' work' ρ' : List ℕ} → i < u.p → length ρ₀ ≡ 128 → JoinedOne u links k i ρ ρ' result work result' work' → length work' ≡ length work → Joins u links k (i + 1) result₀ work₀ ρ₀ result' work' ρ'
    joins-more {result'} {work'} {ρ'} h m one l = record {
      below = omega arith;
      so_far = record { ready = one.ready; keeps = λ v s t. let p = w.so_far.keeps v s t in one.keeps v p.0 p.1; joined = by one.case; beyond = one.beyond ∙ w.so_far.beyond };
      work-long = l ∙ w.work-long;
    }
      where
        joined : Joining u links k i (held u result₀) (held u result) ρ₀ ρ
        joined = w.so_far.joined

        by : OneJoined u links k i (held u result) (held u result') ρ ρ' → Joining u links k (i + 1) (held u result₀) (held u result') ρ₀ ρ'
        by (OneJoined.skipped n e f) = rw (e, f) (join-skipped joined h n)
        by (OneJoined.over o big e f) = rw (e, f) (join-over joined h o big (joined.long ∙ m))
        by (OneJoined.kept o small e f) = rw (e, f) (join_kept joined h small (length-sets u.b u.sets result))

    pub joins-end : u.p ≤ i → JoinedAll u links k u.p ρ₀ ρ result₀ work₀ result work
    joins-end h = let same : i ≡ u.p = omega (arith, w.below) in subst (λ (m : ℕ). JoinedAll u links k m ρ₀ ρ result₀ work₀ result work) same w.so_far

    pub joins-length : Ready u k result₀ work₀ → length result ≡ length result₀
    joins-length ready = same-long ready.result-store w.so_far.ready.result-store w.so_far.beyond

    pub joins_long : length ρ₀ ≡ 128 → length ρ ≡ 128
    joins_long m = w.so_far.joined.long ∙ m

-- ---- one production, by its ways out

module _ {u : Layout} {links : Links} {k i : ℕ} {a : ℕ} (here : a ≡ left_at links i) {ρ result : List ℕ} where
  pub one-skipped : {work : List ℕ} → Ready u k result work → (get_or ρ a 0 ≡ 22 → ⊥) → JoinedOne u links k i ρ ρ result work result work
  one-skipped ready n = record { ready = ready; keeps = λ w s t. (s, t); case = OneJoined.skipped (λ e. n (rw here e)) refl refl; beyond = refl }

  module _ (o : get_or ρ a 0 ≡ 22) {r : Result (Unit {0}) Refusal} {work result' work' : List ℕ} (t : Taken u k (u.n + i) (u.n + u.p + a) r result work result' work') where
    pub one-over : (e : Refusal) → r ≡ Err e → JoinedOne u links k i ρ (set ρ a 11) result work result' work'
    one-over e q = record {
      ready = t.ready;
      keeps = t.keeps;
      case = OneJoined.over (rw here at o) (rw here at (t.over e q).1) (t.over e q).2 (rw here);
      beyond = t.beyond;
    }

    pub one_kept : (x : Unit {0}) → r ≡ Ok x → JoinedOne u links k i ρ ρ result work result' work'
    one_kept x q = record {
      ready = t.ready;
      keeps = t.keeps;
      case = OneJoined.kept (rw here at o) (rw here at (t.done x q).0) (rw here at (t.done x q).1) refl;
      beyond = t.beyond;
    }
