-- The call: its answer as a record of numbers, and what then stands in the two lent buffers, for every input. Assumes nothing.
use Rattle.std.specs.Prelude.{ℕ, ◌+◌, ◌≡◌, ◌≤◌, List, length, Result, Ok, Err}
use Rattle.refusals.specs.Numbers.{number}
use Rattle.refusals.specs.declared.Refusal.{Refusal}
use Rattle.refusals.specs.declared.Refusal.TheVariants as R
use Rattle.k_tuple.specs.Strings.{width_of}
use Rattle.k_tuple.specs.Packed.{packed}
use Rattle.k_tuples.specs.Work.{Answer, got, refused}
use Rattle.engine.specs.Call.{result_needed, scratch_needed}
use Rattle.decision_theory.specs.Needed.{needed_ks}
use Rattle.decision_theory.specs.Marking.{Mark as Marking, accepted, bad-row, missing, mark}
use Rattle.decision.specs.Call.{words_after}
use Rattle.decision.specs.Steps.{grammar_of}
use Rattle.marking.specs.declared.answer.MarkError.{MarkError}
use Rattle.marking.specs.declared.answer.MarkError.TheVariants.{Refused, BadRow, Missing}
use Rattle.marking.specs.Rows.{rows_in}

-- The record: the refusal, 0 where the table is accepted; for 24 the number of the first bad row; for 25 the nonterminal of the first missing string, and the
-- string's two words.
pub record Record : Type 0 where
  pub refusal : ℕ
  pub row : ℕ
  pub nonterminal : ℕ
  pub lo : ℕ
  pub hi : ℕ

-- The refusal of an error.
abbrev pub refusal_of : MarkError → Refusal
refusal_of (Refused r) = r
refusal_of (BadRow i) = R.BadRow
refusal_of (Missing A z) = R.StringMissing

-- What the call returns, as the record; every number that does not apply is 0.
abbrev pub recorded : Result (Unit {0}) MarkError → Record
recorded (Ok x) = record { refusal = 0; row = 0; nonterminal = 0; lo = 0; hi = 0 }
recorded (Err (Refused e)) = record { refusal = number e; row = 0; nonterminal = 0; lo = 0; hi = 0 }
recorded (Err (BadRow i)) = record { refusal = 24; row = i; nonterminal = 0; lo = 0; hi = 0 }
recorded (Err (Missing A z)) = record { refusal = 25; row = 0; nonterminal = A; lo = z.lo; hi = z.hi }

-- A refusal that is passed on is one of `needed_k`: it is neither 24 nor 25, which tell of a row and of a string.
abbrev pub PassedOn : Result (Unit {0}) MarkError → Type 0
PassedOn (Ok x) = Unit
PassedOn (Err (Refused e)) = number e ≤ 22
PassedOn (Err (BadRow i)) = Unit
PassedOn (Err (Missing A z)) = Unit

-- The width of a table's strings.
abbrev pub width_in : List ℕ → ℕ
width_in table = width_of ((grammar_of table).t + 5)

-- The record, strings being of width w; every number that does not apply is 0.
unfoldable pub record_of : ℕ → Answer Marking → Record
record_of w (refused r) = record { refusal = r; row = 0; nonterminal = 0; lo = 0; hi = 0 }
record_of w (got accepted) = record { refusal = 0; row = 0; nonterminal = 0; lo = 0; hi = 0 }
record_of w (got (bad-row i)) = record { refusal = 24; row = i; nonterminal = 0; lo = 0; hi = 0 }
record_of w (got (missing A z)) = record { refusal = 25; row = 0; nonterminal = A; lo = (packed w z).lo; hi = (packed w z).hi }

-- What the call promises, for every input: its answer is that of the definition for the rows, and every lent word is as after `needed_k`: a refusal of the
-- whole call by 1 to 10, which is needed_k's, leaves the buffers as they came; else what the engine needs is wiped.
pub record Promised (limit c : ℕ) (table rows result scratch : List ℕ) (r : Record) (result' scratch' : List ℕ) : Type 0 where
  pub answer : r ≡ record_of (width_in table) (mark limit c table (length result) (length scratch) (rows_in (width_in table) rows))
  pub result_words : result' ≡ words_after (result_needed c table) result (needed_ks limit c table (length result) (length scratch))
  pub scratch-words : scratch' ≡ words_after (scratch_needed c table) scratch (needed_ks limit c table (length result) (length scratch))
