-- What the functions for C leave that read a register's rules: a refusal by its number, the table in lent bytes, and numbers in lent words. Assumes nothing.
use Rattle.std.specs.Prelude.{ℕ, ◌-◌, ◌≡◌, cond, List, [], ◌∷◌, length}
use Rattle.abnf_tables.specs.Run.{Run, on, refused}
use Rattle.abnf.specs.Abnf.{table_of, answer_of, bytes_after}
use Rattle.abnf_names.specs.declared.TextPart.{TextPart}
use Rattle.exports.specs.Told.{few, unless_few, fronted}

-- The number of a refusal, 0 where a table is written.
abbrev pub answer_number : Run ℕ → ℕ
answer_number (on n) = 0
answer_number (refused number place) = number

-- How many bytes are written, and the place of a refusal.
abbrev pub answer_words : Run ℕ → List ℕ
answer_words (on n) = n ∷ 0 ∷ []
answer_words (refused number place) = 0 ∷ place ∷ []

abbrev pub refusal_of : Run (List ℕ) → ℕ
refusal_of r = answer_number (answer_of r)

-- A text is read into lent bytes, and the answer told in two words. Where there are fewer, the number is that of the text with no bytes lent, and
-- everything stays as it came.
pub record ReadFor (text table answer : List ℕ) (r : ℕ) (table' answer' : List ℕ) : Type 0 where
  pub number : r ≡ refusal_of (table_of text (cond (few 2 answer) 0 (length table)))
  pub bytes : table' ≡ unless_few 2 answer table (bytes_after (table_of text (length table)) table)
  pub words : answer' ≡ unless_few 2 answer answer (fronted (answer_words (answer_of (table_of text (length table)))) answer)

-- Where a part begins, and its length.
abbrev pub part_words : TextPart → List ℕ
part_words p = p.start ∷ (p.end - p.start) ∷ []
