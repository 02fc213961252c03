-- What the join of two sets in lent words answers and writes: the first refusal that applies of 1, 10, 13, 15 and 11, or the result. Assumes nothing.
use Rattle.std.specs.Prelude.{◌||◌, List, [], ℕ, eqb, length}
use Rattle.k_tuple.specs.Strings.{Str}
use Rattle.k_tuple.specs.Paper.{Paper, outcome}
use Rattle.k_tuples.specs.Sets.{join_sets}
use Rattle.k_tuples.specs.Held.{set_in}
use Rattle.k_tuples.specs.Answers.{members_in, common_width, no_words, two_sets, new_set, written}

abbrev pub join_set : ℕ → List ℕ → List ℕ → List Str
join_set k a b = join_sets k (members_in (set_in k a)) (members_in (set_in k b))

unfoldable pub join_answer : (k n : ℕ) (a b : List ℕ) → Paper
join_answer k n a b = outcome (
    two_sets k (no_words a || no_words b || eqb n 0) a b
    (new_set n (join_set k a b) []))

unfoldable pub join_words : (k : ℕ) (a b out : List ℕ) → List ℕ
join_words k a b out = written (join_answer k (length out) a b) k (common_width (set_in k a) (set_in k b)) (join_set k a b) out
