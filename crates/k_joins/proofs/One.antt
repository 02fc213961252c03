-- Any two answers, and any two contents of the output, that meet the contract of the join of two sets are equal. Assumes nothing.
use mathlib.Core.List.{List}
use Prim.Native.Nat.{ℕ}
use lib.ListN.{length}
use Rattle.k_tuple.proofs.One.{One}
use Rattle.k_tuples.specs.Answers.{set_on_paper}
use Rattle.k_tuples.proofs.One.{set_known, OneWords, words-known}
use Rattle.k_joins.specs.Answers.{join_answer, join_words}

pub join_one : (k : ℕ) (a b out : List ℕ) → One set_on_paper (join_answer k (length out) a b) × OneWords (join_words k a b out)
join_one k a b out = (set_known _, words-known _)
