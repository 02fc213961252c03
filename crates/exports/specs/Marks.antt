-- What the call of K8 for C leaves: the first bad row, and the first missing string with its nonterminal, in four lent words, and the call's own words. Assumes
-- nothing.
use Rattle.std.specs.Prelude.{ℕ, ◌≡◌, cond, List, [], ◌∷◌, length}
use Rattle.engine.specs.Call.{result_needed, scratch_needed}
use Rattle.decision_theory.specs.Needed.{needed_ks}
use Rattle.decision_theory.specs.Marking.{mark}
use Rattle.decision.specs.Call.{words_after}
use Rattle.marking.specs.Rows.{rows_in}
use Rattle.marking.specs.Call.{Record, width_in, record_of}
use Rattle.exports.specs.Told.{few, unless_few, fronted}

-- What the call answers with what was lent.
abbrev pub mark_of : (limit c : ℕ) (table rows result scratch : List ℕ) → Record
mark_of limit c table rows result scratch = record_of (width_in table) (mark limit c table (length result) (length scratch) (rows_in (width_in table) rows))

-- Its numbers behind the refusal.
abbrev pub mark_words : Record → List ℕ
mark_words m = m.row ∷ m.nonterminal ∷ m.lo ∷ m.hi ∷ []

-- The call's promise is kept in its words, and its numbers are told in four words. Where those are not lent, the number is the refusal of a call with no words
-- to work in, and everything stays as it came.
pub record MarkCalled (limit c : ℕ) (table rows result scratch answer : List ℕ) (r : ℕ) (result' scratch' answer' : List ℕ) : Type 0 where
  pub number : r ≡ cond (few 4 answer) (mark_of limit c table rows [] []).refusal (mark_of limit c table rows result scratch).refusal
  pub answer-words : answer' ≡ unless_few 4 answer answer (fronted (mark_words (mark_of limit c table rows result scratch)) answer)
  pub result_words : result' ≡ unless_few 4 answer result (words_after (result_needed c table) result (needed_ks limit c table (length result) (length scratch)))
  pub scratch-words : scratch' ≡ unless_few 4 answer scratch (words_after (scratch_needed c table) scratch (needed_ks limit c table (length result) (length scratch)))
