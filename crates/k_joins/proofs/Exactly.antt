-- The column "given exactly when" of the rules for the join of two sets: its refusals, in the order of the tests; no other refusal is ever given. Assumes nothing.
use mathlib.Core.Path.{◌≡◌, refl}
use mathlib.Core.List.{List, []}
use mathlib.Core.Logic.{◌⊎◌}
use Prim.Native.Nat.{ℕ, ◌<◌}
use lib.ListN.{length}
use Rattle.k_tuple.specs.Paper.{values, ◌for◌else◌, Exactly}
use Rattle.k_tuple.proofs.Column.{ltb-means, eqb-means, or-means, answered, test, exactly}
use Rattle.k_tuples.specs.Words.{room_of}
use Rattle.k_tuples.proofs.Exactly.{NoWords, none-means, two_rows, two-tests}
use Rattle.k_joins.specs.Answers.{join_set, join_answer}

pub join-exactly : (k n : ℕ) (a b : List ℕ) → Exactly (join_answer k n a b) (
    two_rows k ((NoWords a ⊎ NoWords b) ⊎ (n ≡ 0)) a b (
    11 for room_of n < length (join_set k a b) else
    values []))
unfolding join_answer
join-exactly k n a b = exactly refl (two-tests k a b _ (or-means _ _ (none-means a b) (eqb-means n 0)) _ (test _ (ltb-means _ _) (answered refl)))
