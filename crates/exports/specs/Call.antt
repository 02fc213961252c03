-- What the call for C leaves: the engine's record in sixteen lent words, and the engine's words. Assumes nothing.
use Rattle.std.specs.Prelude.{ℕ, ◌≡◌, List, [], ◌∷◌, length, get_or}
use Rattle.cfg.specs.Write.{Bytes}
use Rattle.k_tuples.specs.Work.{Answer}
use Rattle.analysis.specs.Analysis.{Analysis, analyse}
use Rattle.engine.specs.Call.{Record, answer_of, result_needed, scratch_needed, result_after, scratch_after}
use Rattle.exports.specs.Told.{Wrote, unless_few}

-- The record's numbers in order: refusal, n, p, q, width, ten rounds, rounds of FOLLOW.
abbrev pub record_words : Record → List ℕ
record_words a =
    a.refusal ∷ a.n ∷ a.p ∷ a.q ∷ a.width ∷
    get_or a.rounds 0 0 ∷ get_or a.rounds 1 0 ∷ get_or a.rounds 2 0 ∷ get_or a.rounds 3 0 ∷ get_or a.rounds 4 0 ∷
    get_or a.rounds 5 0 ∷ get_or a.rounds 6 0 ∷ get_or a.rounds 7 0 ∷ get_or a.rounds 8 0 ∷ get_or a.rounds 9 0 ∷
    a.follow ∷ []

-- What the engine works out with words enough for the record, and what it then answers.
abbrev pub worked : (k c : ℕ) (table result scratch : List ℕ) → Answer Analysis
worked k c table result scratch = analyse k c table (length result) (length scratch)

abbrev pub answer_for : (k c : ℕ) (table result scratch : List ℕ) → Record
answer_for k c table result scratch = answer_of (worked k c table result scratch)

-- The record is told in the words of answer, and the engine's promise is kept in those of result and scratch; the table is bytes, so that all that is
-- demanded of the engine's call holds of this one.
pub record Called (k c : ℕ) (table result scratch answer : List ℕ) (r : ℕ) (result' scratch' answer' : List ℕ) : Type 0 where
  pub wrote : Wrote 16 (answer_for k c table result scratch).refusal (record_words (answer_for k c table result scratch)) answer r answer'
  pub bytes : Bytes table
  pub result_words : result' ≡ unless_few 16 answer result (result_after k c (result_needed c table) result (worked k c table result scratch))
  pub scratch-words : scratch' ≡ unless_few 16 answer scratch (scratch_after (scratch_needed c table) scratch (worked k c table result scratch))
