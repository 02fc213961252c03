-- FOLLOW with suffix sets that were made once is FOLLOW as the theory has it, which makes them anew for each equation: in one equation, in a
-- round, and where a suffix finds no room. Assumes nothing.
use Prim.Native.Nat.{ℕ, ◌≤◌, ◌<◌}
use native.Mathlib.Omega.{arith}
use mathlib.Core.Path.{◌≡◌, refl, ap}
use mathlib.Core.Bool.{Bool, true, false, cond}
use mathlib.Core.Logic.{inr}
use mathlib.Core.List.{List, [], ◌∷◌}
use lib.Dec.{leb}
use lib.ListN.{length, set}
use borrow.Author.Tests.{leb-false, lt-leb}
use Rattle.cfg.specs.Grammar.{Sym, Grammar}
use Rattle.k_tuple.specs.Strings.{Str, eps}
use Rattle.k_tuples.specs.Sets.{Sorted, union, join_sets}
use Rattle.k_tuples.specs.States.{State, set_of}
use Rattle.k_tuples.specs.Work.{Answer, got, refused, ◌>>=◌, within, settle}
use Rattle.k_tuples.proofs.Sets.{mem-union, union-sorted, join_sets-sorted}
use Rattle.k_tuples.proofs.Sorted.{part_length}
use Rattle.k_tuples.proofs.Work.{Right, right, right-then, right-more, refused-right, within-right}
use Rattle.first_theory.specs.Compute.{part_set, join_parts, right_side}
use Rattle.first_theory.specs.First.{Part, parts}
use Rattle.follow_theory.specs.Equations.{start}
use Rattle.follow_theory.specs.Follow.{Occurrence, occurrences_of, join_for, take_one, take_all, follow}

-- Work that is refused by 11 only.
abbrev pub Only11 : {A : Type 0} → Answer A → Type 0
Only11 {A} = Right (Unit {0}) (λ (a : A). Unit {0})

room-only : (c : ℕ) (a : List Str) → Only11 (within c a)
room-only c a = right-more (λ b is. tt) (within-right (λ b. Unit {0}) c a tt (λ l. tt))

-- Where the set with a join fits, the join alone does.
join-fits : (c : ℕ) {A : Type 0} (t j : List Str) (f : List Str → Answer A) → length j ≤ length (union t j)
    → (within c j >>= λ b. within c (union t b) >>= f) ≡ (within c (union t j) >>= f)
unfolding within
join-fits c {A} t j f h = by (leb (length j) c) refl
  where
    by : (b : Bool) → leb (length j) c ≡ b → (cond b (got j) (refused 11) >>= λ b. within c (union t b) >>= f) ≡ (within c (union t j) >>= f)
    by true e = refl
    by false e =
        let over : c < length (union t j) = omega (arith, leb-false (length j) c e) in
        rw (lt-leb (length (union t j)) c over)

module _ (c k : ℕ) (X : State) where
  parts-only : (a : List Str) (ps : List Part) → Only11 (join_parts c k X a ps)
  unfolding join_parts
  parts-only a [] = right tt
  parts-only a (p ∷ ps) = right-then (room-only c (join_sets k a (part_set k X p))) (λ b is. parts-only b ps)

  side-only : (γ : List Sym) → Only11 (right_side c k X γ)
  unfolding right_side
  side-only γ = parts-only (eps ∷ []) (parts γ)

  join-only : (o : Occurrence) (F : State) → Only11 (join_for c k X o F)
  unfolding join_for
  join-only o F = right-then (side-only o.rest) (λ a is. room-only c (join_sets k a (set_of F o.source)))

  take-only : (o : Occurrence) (F : State) → Only11 (take_one c k X o F)
  unfolding take_one
  take-only o F =
      right-then (join-only o F) (λ b is. right-then (room-only c (union (set_of F o.target) b)) (λ u is. right tt))

  -- ---- one equation

  module _ (o : Occurrence) (a : List Str) (suffix : right_side c k X o.rest ≡ got a) (F : State) where
    -- The set of its position.
    pub join-ready : join_for c k X o F ≡ within c (join_sets k a (set_of F o.source))
    unfolding join_for
    join-ready = rw suffix

    -- The target's set with the join.
    pub take-ready : Sorted (set_of F o.target)
        → take_one c k X o F ≡ (within c (union (set_of F o.target) (join_sets k a (set_of F o.source))) >>= λ u. got (set F o.target u))
    unfolding take_one
    take-ready s =
        let t = set_of F o.target in
        let j = join_sets k a (set_of F o.source) in
        rw join-ready (join-fits c t j (λ u. got (set F o.target u))
        (part_length j (union t j) (join_sets-sorted k a (set_of F o.source)) (union-sorted t j s) (λ z m. (mem-union z t j).1 (inr m))))

  -- ---- a suffix that finds no room

  -- A round is refused from any sets.
  abbrev pub Refuses : List Occurrence → Type 0
  Refuses os = (F : State) → take_all c k X os F ≡ refused 11

  pub suffix-refuses : (o : Occurrence) (os : List Occurrence) → right_side c k X o.rest ≡ refused 11 → Refuses (o ∷ os)
  unfolding take_all take_one join_for
  suffix-refuses o os e F = rw e

  pub later-refuses : (o : Occurrence) (os : List Occurrence) → Refuses os → Refuses (o ∷ os)
  unfolding take_all
  later-refuses o os h F = by (take_one c k X o F) (take-only o F)
    where
      by : (m : Answer State) → Only11 m → (m >>= λ G. take_all c k X os G) ≡ refused 11
      by (got G) r = h G
      by (refused e) r = ap refused (refused-right r e refl).0

  -- So FOLLOW is refused too.
  pub follow-refuses : (g : Grammar) → Refuses (occurrences_of g.productions) → follow c k g X ≡ refused 11
  unfolding follow settle
  follow-refuses g h = rw (h (start g.n g.start))
