-- What the call of K6 for C leaves: how many bytes are written, in one lent word, and the call's own bytes and words. Assumes nothing.
use Rattle.std.specs.Prelude.{ℕ, ◌≡◌, cond, List, [], ◌∷◌, length}
use Rattle.k_tuples.specs.Work.{Answer}
use Rattle.engine.specs.Call.{result_needed, scratch_needed}
use Rattle.decision_theory.specs.Needed.{needed_ks}
use Rattle.decision_theory.specs.Automaton.{automata}
use Rattle.decision.specs.Call.{words_after}
use Rattle.automaton.specs.Call.{record_of, bytes_after}
use Rattle.exports.specs.Told.{few, unless_few, fronted}

-- What the call answers with what was lent.
abbrev pub made_of : (limit c : ℕ) (table out result scratch : List ℕ) → Answer (List ℕ)
made_of limit c table out result scratch = automata limit c table (length result) (length scratch) (length out)

-- The call's promise is kept in its bytes and words, and the bytes are counted in one word. Where that is not lent, the number is the refusal of a call with
-- nothing lent, and everything stays as it came.
pub record AutomataCalled (limit c : ℕ) (table out result scratch answer : List ℕ) (r : ℕ) (out' result' scratch' answer' : List ℕ) : Type 0 where
  pub number : r ≡ cond (few 1 answer) (record_of (made_of limit c table [] [] [])).refusal (record_of (made_of limit c table out result scratch)).refusal
  pub answer-words : answer' ≡ unless_few 1 answer answer (fronted ((record_of (made_of limit c table out result scratch)).bytes ∷ []) answer)
  pub out-bytes : out' ≡ unless_few 1 answer out (bytes_after out (made_of limit c table out result scratch))
  pub result_words : result' ≡ unless_few 1 answer result (words_after (result_needed c table) result (needed_ks limit c table (length result) (length scratch)))
  pub scratch-words : scratch' ≡ unless_few 1 answer scratch (words_after (scratch_needed c table) scratch (needed_ks limit c table (length result) (length scratch)))
