-- The three passes over the occurrences, of which some are still to come: the suffix sets are made, a round takes the equations, and the
-- positions get their sets. Z are the sets of the positions, i of which the pass has gone by. Assumes nothing.
use Prim.Native.Nat.{ℕ, ◌+◌, ◌≤◌, ◌<◌}
use native.Mathlib.Nat.{add-zero}
use native.Mathlib.Numerals.{add-one}
use native.Mathlib.Omega.{arith}
use mathlib.Core.Path.{◌≡◌, refl, sym, ap, ◌∙◌}
use mathlib.Core.Bool.{Bool, true, false}
use mathlib.Core.List.{List, [], ◌∷◌, ◌++◌, append_assoc, append-nil}
use lib.ListN.{length, take, drop, set}
use lib.Seq.{get_or-drop, drop-drop, drop-set-lt, take-suc-set, take_all as take_whole}
use borrow.Author.Tests.{le-leb, lt-leb}
use Rattle.k_tuple.specs.Strings.{Str}
use Rattle.k_tuples.specs.Sets.{Sorted, union, join_sets}
use Rattle.k_tuples.specs.States.{State, set_of, each_none, each_more}
use Rattle.k_tuples.specs.Work.{Answer, got, refused, ◌>>=◌, within}
use Rattle.k_tuples.proofs.Sets.{union-idle, union-added}
use Rattle.first_theory.specs.Compute.{right_side}
use Rattle.follow_theory.specs.Follow.{Occurrence, take_all, position_sets}
use Rattle.follow.specs.Suffixes.{Suffixes}
use Rattle.follow.specs.Due.{Idle}
use Rattle.follow.proofs.Suffixes.{Refuses, join-ready, take-ready, suffix-refuses, later-refuses}
use Rattle.follow.proofs.Growing.{Grows, grows_start, union-unchanged, grows_same, grows-added}
use Rattle.follow.proofs.Idling.{idle-by}

pub within-over : (c : ℕ) (a : List Str) → c < length a → within c a ≡ refused 11
unfolding within
within-over c a h = rw (lt-leb (length a) c h)

pub within-fits : (c : ℕ) (a : List Str) → length a ≤ c → within c a ≡ got a
unfolding within
within-fits c a h = rw (le-leb (length a) c h)

-- one answer after another
then-then : {A B C : Type 0} (m : Answer A) (f : A → Answer B) (g : B → Answer C) → ((m >>= f) >>= g) ≡ (m >>= λ a. f a >>= g)
then-then (refused r) f g = refl
then-then (got a) f g = refl

-- the first i sets of Z with one more
done_more : (i : ℕ) (Z : State) (v : List Str) → i < length Z → take (i + 1) (set Z i v) ≡ take i Z ++ v ∷ []
done_more i Z v h = rw add-one (take-suc-set Z i v h)

module _ (c k : ℕ) (X : State) (os₀ : List Occurrence) where
  -- the suffix set of the occurrence at hand, and those after it
  split : (o : Occurrence) (os : List Occurrence) (S : State) → Suffixes c k X (o ∷ os) S → (right_side c k X o.rest ≡ got (set_of S 0)) × Suffixes c k X os (drop 1 S)
  split o os S (each_more r more) = (r, more)

  module _ (o : Occurrence) (os : List Occurrence) (i : ℕ) (Z : State) (s : Suffixes c k X (o ∷ os) (drop i Z)) where
    suffix-here : right_side c k X o.rest ≡ got (set_of Z i)
    suffix-here = (split o os (drop i Z) s).0 ∙ ap got (get_or-drop i Z 0 [] ∙ ap (λ (j : ℕ). set_of Z j) (add-zero i))

    suffixes-next : Suffixes c k X os (drop (i + 1) Z)
    suffixes-next = rw (← drop-drop 1 i Z) (split o os (drop i Z) s).1

  -- ---- the suffix sets

  -- the first i suffixes are made; those of os are to come
  pub record Making (os : List Occurrence) (i : ℕ) (Z : State) : Type 0 where
    pub holds : (T : State) → Suffixes c k X os T → Suffixes c k X os₀ (take i Z ++ T)
    pub refuses : Refuses c k X os → Refuses c k X os₀

  pub making-start : (Z : State) → Making os₀ 0 Z
  making-start Z = record { holds = λ T h. h; refuses = λ h. h }

  pub making-end : (i : ℕ) (Z : State) → length Z ≤ i → Making [] i Z → Suffixes c k X os₀ Z
  making-end i Z h m = rw (append-nil, take_whole i Z h) at (m.holds [] each_none)

  module _ (o : Occurrence) (os : List Occurrence) (i : ℕ) (Z : State) (m : Making (o ∷ os) i Z) where
    pub making-over : right_side c k X o.rest ≡ refused 11 → Refuses c k X os₀
    making-over e = m.refuses (suffix-refuses c k X o os e)

    pub making-more : i < length Z → (a : List Str) → right_side c k X o.rest ≡ got a → Making os (i + 1) (set Z i a)
    making-more h a e = record {
      holds = λ T s. rw (done_more i Z a h, append_assoc) (m.holds (a ∷ T) (each_more e s));
      refuses = λ r. m.refuses (later-refuses c k X o os r);
    }

  -- ---- a round

  -- the round has come from F₀ to F, and takes the equations of os next
  pub record Taking (F₀ : State) (os : List Occurrence) (i : ℕ) (Z F : State) (added : Bool) : Type 0 where
    pub suffixes : Suffixes c k X os (drop i Z)
    pub to-come : take_all c k X os F ≡ take_all c k X os₀ F₀
    pub grows : Grows F₀ F added

  pub taking-start : (F Z : State) → Suffixes c k X os₀ Z → Taking F os₀ 0 Z F false
  taking-start F Z s = record { suffixes = s; to-come = refl; grows = grows_start F }

  pub taking-end : {F₀ : State} {i : ℕ} {Z F : State} {added : Bool} → Taking F₀ [] i Z F added → take_all c k X os₀ F₀ ≡ got F
  unfolding take_all
  taking-end t = sym t.to-come

  module _ {F₀ : State} {o : Occurrence} {os : List Occurrence} {i : ℕ} {Z F : State} {added : Bool} (t : Taking F₀ (o ∷ os) i Z F added) (sorted : Sorted (set_of F o.target)) where
    -- the target's set with the join
    abbrev joined : List Str
    joined = union (set_of F o.target) (join_sets k (set_of Z i) (set_of F o.source))

    next : take_all c k X os₀ F₀ ≡ (within c joined >>= λ u. got (set F o.target u) >>= λ G. take_all c k X os G)
    unfolding take_all
    next =
        sym t.to-come
        ∙ ap (λ (m : Answer State). m >>= take_all c k X os) (take-ready c k X o (set_of Z i) (suffix-here o os i Z t.suffixes) F sorted)
        ∙ then-then (within c joined) (λ u. got (set F o.target u)) (take_all c k X os)

    -- the suffix set of the equation
    pub taking-suffix : right_side c k X o.rest ≡ got (set_of Z i)
    taking-suffix = suffix-here o os i Z t.suffixes

    -- where it adds nothing, it is idle
    pub taking-idle : length joined ≤ length (set_of F o.target) → Idle c k X F o
    taking-idle l = idle-by c k X F o (set_of Z i) taking-suffix (union-added (set_of F o.target) (join_sets k (set_of Z i) (set_of F o.source)) sorted l)

    pub taking-over : c < length joined → take_all c k X os₀ F₀ ≡ refused 11
    taking-over h = next ∙ rw (within-over c joined h)

    module _ (h : length joined ≤ c) where
      came : take_all c k X os (set F o.target joined) ≡ take_all c k X os₀ F₀
      came = sym (next ∙ rw (within-fits c joined h))

      pub taking-same : length joined ≤ length (set_of F o.target) → Taking F₀ os (i + 1) Z (set F o.target joined) added
      taking-same l = record { suffixes = suffixes-next o os i Z t.suffixes; to-come = came; grows = grows_same t.grows o.target _ sorted l }

      pub taking-added : o.target < length F → length (set_of F o.target) < length joined → Taking F₀ os (i + 1) Z (set F o.target joined) true
      taking-added h l = record { suffixes = suffixes-next o os i Z t.suffixes; to-come = came; grows = grows-added t.grows o.target _ h l }

    -- an idle equation is passed over
    pub taking-skip : length (set_of F o.target) ≤ c → Idle c k X F o → Taking F₀ os (i + 1) Z F added
    taking-skip h idle =
        let j = join_sets k (set_of Z i) (set_of F o.source) in
        let same : length joined ≡ length (set_of F o.target) = ap length (union-idle (set_of F o.target) j sorted (idle.has (set_of Z i) taking-suffix)) in
        rw (union-unchanged F o.target j sorted (omega arith)) at (taking-same (omega arith) (omega arith))

  -- ---- the positions

  -- the first i positions have their sets, the others their suffixes
  pub record Placing (F : State) (os : List Occurrence) (i : ℕ) (Z : State) : Type 0 where
    pub suffixes : Suffixes c k X os (drop i Z)
    pub to-come : position_sets c k X os₀ F ≡ (position_sets c k X os F >>= λ more. got (take i Z ++ more))

  same_answer : {A : Type 0} (m : Answer A) → m ≡ (m >>= λ a. got a)
  same_answer (refused r) = refl
  same_answer (got a) = refl

  pub placing-start : (F Z : State) → Suffixes c k X os₀ Z → Placing F os₀ 0 Z
  placing-start F Z s = record { suffixes = s; to-come = same_answer (position_sets c k X os₀ F) }

  pub placing-end : (F : State) (i : ℕ) (Z : State) → length Z ≤ i → Placing F [] i Z → position_sets c k X os₀ F ≡ got Z
  unfolding position_sets
  placing-end F i Z h p = p.to-come ∙ ap got (append-nil (take i Z) ∙ take_whole i Z h)

  module _ {F : State} {o : Occurrence} {os : List Occurrence} {i : ℕ} {Z : State} (p : Placing F (o ∷ os) i Z) where
    -- the set of the position
    abbrev placed : List Str
    placed = join_sets k (set_of Z i) (set_of F o.source)

    place-next : position_sets c k X os₀ F ≡ (within c placed >>= λ a. position_sets c k X os F >>= λ more. got (take i Z ++ a ∷ more))
    unfolding position_sets
    place-next =
        p.to-come
        ∙ ap (λ (m : Answer (List Str)). m >>= first >>= put) (join-ready c k X o (set_of Z i) (suffix-here o os i Z p.suffixes) F)
        ∙ by (within c placed)
      where
        first : List Str → Answer State
        first a = position_sets c k X os F >>= λ more. got (a ∷ more)

        put : State → Answer State
        put more = got (take i Z ++ more)

        by : (m : Answer (List Str)) → (m >>= first >>= put) ≡ (m >>= λ a. position_sets c k X os F >>= λ more. got (take i Z ++ a ∷ more))
        by (refused r) = refl
        by (got a) = then-then (position_sets c k X os F) (λ more. got (a ∷ more)) put

    pub placing-over : within c placed ≡ refused 11 → position_sets c k X os₀ F ≡ refused 11
    placing-over e = place-next ∙ rw e

    pub placing-more : i < length Z → (a : List Str) → within c placed ≡ got a → Placing F os (i + 1) (set Z i a)
    placing-more h a e = record {
      suffixes = rw (drop-set-lt (i + 1) Z i a (omega arith)) (suffixes-next o os i Z p.suffixes);
      to-come = place-next ∙ rw (e, done_more i Z a h) (simp append_assoc);
    }
