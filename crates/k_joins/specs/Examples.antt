-- The traps of the rules that concern joins of sets, at width 4: one table, which holds by computation. Assumes nothing.
use Rattle.std.specs.Prelude.{◌≡◌, refl, [], ◌∷◌}
use Rattle.k_tuple.specs.Wide.{value}
use Rattle.k_tuple.specs.Strings.{fields, width_field, count_field, slots_field, pack, well_formed, decode}
use Rattle.k_tuple.specs.Order.{cmp_slots, cmp}
use Rattle.k_tuple.specs.Paper.{refused}
use Rattle.k_tuples.specs.Sets.{in_order, insert, union, unfinished, join_sets}
use Rattle.k_tuples.specs.Words as Words
use Rattle.k_tuples.specs.Words.{flat, count_word, number_in, count_in, encode, members, all_zero, room_of}
use Rattle.k_tuples.specs.Held.{set_words, holds_counted, holds_set, set_in}
use Rattle.k_tuples.specs.Answers.{two_sets}
use Rattle.k_tuples.specs.Examples.{seven, one, two}
use Rattle.k_joins.specs.Answers.{join_answer, join_words}

pub record Examples : Type 0 where
  -- [5] is complete at 1 and not at 2
  pub raised : join_words 2 (seven 2 (one 5 ∷ [])) (seven 2 (one 6 ∷ [])) (seven 2 []) ≡ seven 2 (two 5 6 ∷ [])
  -- a join with the set without members keeps the complete ones
  pub kept : join_words 2 (seven 2 (one 0 ∷ one 5 ∷ two 6 5 ∷ [])) (seven 2 []) (seven 2 []) ≡ seven 2 (one 0 ∷ two 6 5 ∷ [])
  -- refusals, in their order
  pub at-0 : join_answer 0 0 [] [] ≡ refused 1 []
  pub no_words : join_answer 1 0 (9 ∷ []) (9 ∷ []) ≡ refused 10 []

pub examples : Examples
unfolding value fields width_field count_field slots_field pack well_formed decode cmp_slots cmp in_order insert union unfinished join_sets flat count_word number_in count_in encode members Words.decode room_of set_words holds_counted holds_set set_in two_sets join_answer join_words
examples = record {
  raised = refl;
  kept = refl;
  at-0 = refl;
  no_words = refl;
}
