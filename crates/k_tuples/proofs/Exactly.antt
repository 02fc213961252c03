-- The column "given exactly when" of the rules for the public functions on sets: for each function its refusals, in the order of the tests, and the numbers
-- that it answers where none applies; no other refusal is ever given. Assumes nothing.
use mathlib.Core.Path.{◌≡◌, refl, ap}
use mathlib.Core.Bool.{Bool, ◌||◌, false≢true}
use mathlib.Core.List.{List, []}
use mathlib.Core.Logic.{◌⊎◌}
use Prim.Native.Nat.{ℕ, ◌<◌}
use lib.Dec.{ltb}
use lib.ListN.{length}
use Rattle.k_tuple.specs.Paper.{flag, Tests, zeros, outcome, Column, values, ◌for◌else◌, Exactly}
use Rattle.k_tuple.proofs.Column.{Means, ltb-means, eqb-means, not-means, or-means, Says, answered, test, exactly}
use Rattle.k_tuples.specs.Sets.{disjoint, complete_set}
use Rattle.k_tuples.specs.Words.{room_of}
use Rattle.k_tuples.specs.Held.{DecodedSet, bad, good, set_in}
use Rattle.k_tuples.specs.Answers.{is_bad, width_in, members_in, suits, outside, no_words, two_sets, union_set, union_answer, common_set, intersect_answer, disjoint_answer, complete_answer}

-- ---- what the tests mean

abbrev pub Outside : ℕ → Type 0
Outside k = (k ≡ 0) ⊎ (10 < k)

outside-means : (k : ℕ) → Means (outside k) (Outside k)
outside-means k = or-means _ _ (eqb-means k 0) (ltb-means 10 k)

abbrev pub NoWords : List ℕ → Type 0
NoWords ws = length ws ≡ 0

pub none-means : (a b : List ℕ) → Means (no_words a || no_words b) (NoWords a ⊎ NoWords b)
none-means a b = or-means _ _ (eqb-means _ 0) (eqb-means _ 0)

bad-means : (d : DecodedSet) → Means (is_bad d) (d ≡ bad)
bad-means bad = (λ e. refl, λ e. refl)
bad-means (good w a) = (λ e. absurd (false≢true e), λ e. ap is_bad e)

-- of one width; 0 is the width of a set without members, which suits any
abbrev pub Suit : ℕ → ℕ → Type 0
Suit w v = (w ≡ v) ⊎ ((w ≡ 0) ⊎ (v ≡ 0))

suit-means : (w v : ℕ) → Means (suits w v) (Suit w v)
suit-means w v = or-means _ _ (eqb-means w v) (or-means _ _ (eqb-means w 0) (eqb-means v 0))

-- ---- the tests of two sets

-- two sets at k, where None says that a lent buffer has no words; then the rows c
abbrev pub two_rows : ℕ → Type 0 → List ℕ → List ℕ → Column → Column
two_rows k None a b c =
    1 for Outside k else
    10 for None else
    13 for (set_in k a ≡ bad) ⊎ (set_in k b ≡ bad) else
    15 for ¬ Suit (width_in (set_in k a)) (width_in (set_in k b)) else
    c

pub two-tests : (k : ℕ) (a b : List ℕ) {None : Type 0} {c : Column} (none : Bool) → Means none None → (t : Tests) → Says (zeros t) (outcome t) c → Says (zeros t) (outcome (two_sets k none a b t)) (two_rows k None a b c)
unfolding two_sets
two-tests k a b none m t s =
    test _ (outside-means k) (test _ m (test _ (or-means _ _ (bad-means (set_in k a)) (bad-means (set_in k b))) (test _ (not-means _ (suit-means _ _)) s)))

-- ---- the functions

module _ (k n : ℕ) (a b : List ℕ) where
  pub union-exactly : Exactly (union_answer k n a b) (
      two_rows k ((NoWords a ⊎ NoWords b) ⊎ (n ≡ 0)) a b (
      11 for room_of n < length (union_set k a b) else
      values (flag (ltb (length (members_in (set_in k a))) (length (union_set k a b))))))
  unfolding union_answer
  union-exactly = exactly refl (two-tests k a b _ (or-means _ _ (none-means a b) (eqb-means n 0)) _ (test _ (ltb-means _ _) (answered refl)))

  pub intersect-exactly : Exactly (intersect_answer k n a b) (
      two_rows k ((NoWords a ⊎ NoWords b) ⊎ (n ≡ 0)) a b (
      11 for room_of n < length (common_set k a b) else
      values []))
  unfolding intersect_answer
  intersect-exactly = exactly refl (two-tests k a b _ (or-means _ _ (none-means a b) (eqb-means n 0)) _ (test _ (ltb-means _ _) (answered refl)))

pub disjoint-exactly : (k : ℕ) (a b : List ℕ) → Exactly (disjoint_answer k a b) (
    two_rows k (NoWords a ⊎ NoWords b) a b (
    values (flag (disjoint (members_in (set_in k a)) (members_in (set_in k b))))))
unfolding disjoint_answer
disjoint-exactly k a b = exactly refl (two-tests k a b _ (none-means a b) _ (answered refl))

pub complete-exactly : (k : ℕ) (a : List ℕ) → Exactly (complete_answer k a) (
    1 for Outside k else
    10 for NoWords a else
    13 for set_in k a ≡ bad else
    values (flag (complete_set k (members_in (set_in k a)))))
unfolding complete_answer
complete-exactly k a = exactly refl (test _ (outside-means k) (test _ (eqb-means _ 0) (test _ (bad-means (set_in k a)) (answered refl))))
