-- The call: its answer as a record of numbers, the bytes that it writes, and what then stands in the two lent buffers, for every input. Assumes nothing.
use Rattle.std.specs.Prelude.{ℕ, ◌≡◌, List, ◌++◌, length, drop, Result, Ok, Err}
use Rattle.k_tuples.specs.Work.{Answer, got, refused}
use Rattle.refusals.specs.declared.Refusal.{Refusal}
use Rattle.refusals.specs.Numbers.{number}
use Rattle.engine.specs.Call.{result_needed, scratch_needed}
use Rattle.decision_theory.specs.Needed.{needed_ks}
use Rattle.decision_theory.specs.Automaton.{automata}
use Rattle.decision.specs.Call.{words_after}

-- What the call tells, in numbers: a refusal, 0 where there is none, and how many bytes were written.
pub record Automata : Type 0 where
  pub refusal : ℕ
  pub bytes : ℕ

-- What is returned, as that record.
abbrev pub recorded : Result ℕ Refusal → Automata
recorded (Ok n) = record { refusal = 0; bytes = n }
recorded (Err e) = record { refusal = number e; bytes = 0 }

-- The record of an answer on paper: a refusal and 0 bytes, or 0 and how many bytes were written.
unfoldable pub record_of : Answer (List ℕ) → Automata
record_of (refused r) = record { refusal = r; bytes = 0 }
record_of (got bs) = record { refusal = 0; bytes = length bs }

-- The lent bytes: a refusal leaves them as they came; else the bytes written, and those behind them as they came.
unfoldable pub bytes_after : List ℕ → Answer (List ℕ) → List ℕ
bytes_after out (refused r) = out
bytes_after out (got bs) = bs ++ drop (length bs) out

-- What the call promises, for every input: its answer and every lent byte are those of the definition, and every lent word is as after `needed_k`: a refusal of
-- the whole call by 1 to 10, which is needed_k's, leaves the buffers as they came; else what the engine needs is wiped.
pub record Promised (limit c : ℕ) (table out result scratch : List ℕ) (r : Automata) (out' result' scratch' : List ℕ) : Type 0 where
  pub answer : r ≡ record_of (automata limit c table (length result) (length scratch) (length out))
  pub out-bytes : out' ≡ bytes_after out (automata limit c table (length result) (length scratch) (length out))
  pub result_words : result' ≡ words_after (result_needed c table) result (needed_ks limit c table (length result) (length scratch))
  pub scratch-words : scratch' ≡ words_after (scratch_needed c table) scratch (needed_ks limit c table (length result) (length scratch))
