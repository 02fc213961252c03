-- What the call of K3 for C leaves: its record in 258 lent words, and the call's own words. Assumes nothing.
use Rattle.std.specs.Prelude.{ℕ, ◌≡◌, cond, List, [], ◌∷◌, ◌++◌, length, take, drop}
use Rattle.decision_theory.specs.Needed.{needed_ks}
use Rattle.engine.specs.Call.{result_needed, scratch_needed}
use Rattle.decision.specs.Call.{Record, record_of, words_after}
use Rattle.exports.specs.Told.{few, unless_few, fronted}

-- The record's numbers in order: refusal, n, 128 refusals, 128 ks.
abbrev pub needed_words : Record → List ℕ
needed_words a = (a.refusal ∷ a.n ∷ []) ++ (a.refusals ++ a.ks)

-- Words that have others at a place, the rest as it came.
pub record PutAt (at : ℕ) (words answer answer' : List ℕ) : Type 0 where
  pub words-put : answer' ≡ take at answer ++ fronted words (drop at answer)

-- Words that begin with the record's numbers, the rest as it came.
pub record PutRecord (a : Record) (answer answer' : List ℕ) : Type 0 where
  pub record-put : answer' ≡ fronted (needed_words a) answer

-- What the call answers with buffers of so many words.
abbrev pub record_for : (limit c : ℕ) (table : List ℕ) (result scratch : ℕ) → Record
record_for limit c table result scratch = record_of (needed_ks limit c table result scratch)

-- The record is told in 258 words, and the call's promise is kept in those of result and scratch. Where there are fewer for the record, the number is the
-- refusal of a call with buffers of no words, and everything stays as it came.
pub record NeededCalled (limit c : ℕ) (table result scratch answer : List ℕ) (r : ℕ) (result' scratch' answer' : List ℕ) : Type 0 where
  pub number : r ≡ cond (few 258 answer) (record_for limit c table 0 0).refusal (record_for limit c table (length result) (length scratch)).refusal
  pub answer-words : answer' ≡ unless_few 258 answer answer (fronted (needed_words (record_for limit c table (length result) (length scratch))) answer)
  pub result_words : result' ≡ unless_few 258 answer result (words_after (result_needed c table) result (needed_ks limit c table (length result) (length scratch)))
  pub scratch-words : scratch' ≡ unless_few 258 answer scratch (words_after (scratch_needed c table) scratch (needed_ks limit c table (length result) (length scratch)))
