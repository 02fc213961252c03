-- Sets that only grow: a round adds nothing exactly where its sets are those before it, and then the rounds end. Assumes nothing.
use Prim.Native.Nat.{ℕ, suc, ◌≤◌, ◌<◌}
use native.Mathlib.Omega.{arith}
use mathlib.Core.Path.{◌≡◌, refl, ◌∙◌, ap}
use mathlib.Core.Bool.{Bool, true, false, not, cond}
use mathlib.Core.List.{List}
use lib.Dec.{ltb}
use lib.ListN.{length, set}
use borrow.Author.Tests.{ltb-true, ltb-false}
use lib.Seq.{set-get_or}
use Rattle.k_tuple.specs.Strings.{Str}
use Rattle.k_tuples.specs.Sets.{Sorted, union}
use Rattle.k_tuples.specs.States.{State, set_of, size, same_sets}
use Rattle.k_tuples.specs.Work.{Answer, got, refused, ◌>>=◌, Settling, settle}
use Rattle.k_tuples.specs.Words.{grown}
use Rattle.k_tuples.specs.declared.set.Grown.TheVariants.{Added, Same}
use Rattle.std.specs.Prelude.{Ok, Err}
use Rattle.refusals.specs.declared.Refusal.TheVariants.{SetTooLarge}
use Rattle.k_tuples.proofs.Sets.{union-sorted, union-grows}
use Rattle.k_tuples.proofs.Sorted.{part-whole}
use Rattle.k_tuples.proofs.States.{size-set, same_sets-sound, same_sets-refl}
use Rattle.k_tuples.proofs.Tests.{holds, unpassed}

-- G has come from F by unions, and `added` tells whether one of them added
pub record Grows (F G : State) (added : Bool) : Type 0 where
  pub idle : added ≡ false → G ≡ F
  pub more : added ≡ true → size F < size G

pub grows_start : (F : State) → Grows F F false
grows_start F = record { idle = λ e. refl; more = λ (e : false ≡ true). let z : ◌≡◌ {A = ℕ} 0 1 = cc in absurd (omega arith) }

-- a union that is no longer
pub union-whole : (a j : List Str) → Sorted a → length (union a j) ≤ length a → a ≡ union a j
union-whole a j s l = part-whole a (union a j) s (union-sorted a j s) (union-grows a j) l

-- its store changes nothing
pub union-unchanged : (G : State) (t : ℕ) (j : List Str) → Sorted (set_of G t) → length (union (set_of G t) j) ≤ length (set_of G t) → set G t (union (set_of G t) j) ≡ G
union-unchanged G t j s l = rw (← union-whole (set_of G t) j s l) (set-get_or G t _)

-- one union more
module _ {F G : State} {added : Bool} (h : Grows F G added) (t : ℕ) (j : List Str) where
  pub grows_same : Sorted (set_of G t) → length (union (set_of G t) j) ≤ length (set_of G t) → Grows F (set G t (union (set_of G t) j)) added
  grows_same s l = rw (union-unchanged G t j s l) h

  pub grows-added : t < length G → length (set_of G t) < length (union (set_of G t) j) → Grows F (set G t (union (set_of G t) j)) true
  grows-added i l = record {
    idle = λ (e : true ≡ false). let z : ◌≡◌ {A = ℕ} 0 1 = cc in absurd (omega arith);
    more = λ e. omega (arith, before added refl, size-set G t (union (set_of G t) j) i);
  }
    where
      before : (b : Bool) → added ≡ b → size F ≤ size G
      before true e = omega (arith, h.more e)
      before false e = omega (arith, ap size (h.idle e))

pub grows-told : {F G : State} {added : Bool} → Grows F G added → same_sets G F ≡ not added
grows-told {F} {G} {added} h = by added refl
  where
    by : (b : Bool) → added ≡ b → same_sets G F ≡ not b
    by true e = unpassed (same_sets G F) (λ t. omega (arith, h.more e, ap size (same_sets-sound G F t)))
    by false e = rw (h.idle e) (holds (same_sets F F) (same_sets-refl F))

-- ---- the rounds

module _ (round : State → Answer State) (late left done : ℕ) (F : State) where
  -- after a round that gave Y
  abbrev after : State → Bool → Answer Settling
  after Y b = elim b [ true ↦ got (record { sets = Y; rounds = suc done }) | false ↦ settle round late left (suc done) Y ]

  pub settle-over : (r : ℕ) → round F ≡ refused r → settle round late (suc left) done F ≡ refused r
  unfolding settle
  settle-over r e = rw e

  module _ (G : State) (e : round F ≡ got G) where
    pub settle-end : same_sets G F ≡ true → settle round late (suc left) done F ≡ got (record { sets = G; rounds = suc done })
    unfolding settle
    settle-end s = ap (λ (m : Answer State). m >>= λ Y. after Y (same_sets Y F)) e ∙ ap (after G) s

    pub settle-next : same_sets G F ≡ false → settle round late (suc left) done F ≡ settle round late left (suc done) G
    unfolding settle
    settle-next s = ap (λ (m : Answer State). m >>= λ Y. after Y (same_sets Y F)) e ∙ ap (after G) s

-- ---- what an operation tells that puts members into a set

module _ (room old new : ℕ) where
  pub told_same : Ok Same ≡ grown room old new → (new ≤ room) × (new ≤ old)
  unfolding grown
  told_same e = by (ltb room new) (ltb old new) refl refl e
    where
      by : (a b : Bool) → ltb room new ≡ a → ltb old new ≡ b → Ok Same ≡ cond a (Err SetTooLarge) (Ok (cond b Added Same)) → (new ≤ room) × (new ≤ old)
      by true b p q e = cc
      by false true p q e = cc
      by false false p q e = (ltb-false _ _ p, ltb-false _ _ q)

  pub told-added : Ok Added ≡ grown room old new → (new ≤ room) × (old < new)
  unfolding grown
  told-added e = by (ltb room new) (ltb old new) refl refl e
    where
      by : (a b : Bool) → ltb room new ≡ a → ltb old new ≡ b → Ok Added ≡ cond a (Err SetTooLarge) (Ok (cond b Added Same)) → (new ≤ room) × (old < new)
      by true b p q e = cc
      by false true p q e = (ltb-false _ _ p, ltb-true _ _ q)
      by false false p q e = cc
