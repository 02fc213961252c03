-- Rules as a table: its bytes, or a refusal with its place; and what `read_abnf` answers and leaves in the lent bytes. Assumes nothing.
use Rattle.std.specs.Prelude.{ℕ, List, ◌++◌, ◌≡◌, length, drop, leb, Result, Ok, Err}
use Rattle.refusals.specs.Numbers.{number}
use Rattle.cfg.specs.Reading.{pick}
use Rattle.cfg.specs.Write.{write_table}
use Rattle.cfg.specs.Grammar.{Grammar}
use Rattle.abnf_tables.specs.Run.{Run, on, refused, ◌then◌}
use Rattle.abnf_rules.specs.Machine.{start, scanned}
use Rattle.abnf.specs.Numbering.{missing, grammar_of}
use Rattle.abnf_tables.specs.declared.refused.Refused.{Refused}

-- the grammar that a text's rules are: 18 and 20 in text order, then 19
unfoldable pub read_rules : List ℕ → Run Grammar
read_rules text =
    scanned text 0 text start then λ t.
    missing t.lefts 0 t.names (on t) then λ t.
    on (grammar_of text t)

-- its table, where that has at most `room` bytes; else 10
unfoldable pub table_of : List ℕ → ℕ → Run (List ℕ)
table_of text room =
    read_rules text then λ g.
    pick (leb (length (write_table g)) room) (on (write_table g)) (refused 10 0)

-- how many bytes are written, or the refusal
abbrev pub answer_of : Run (List ℕ) → Run ℕ
answer_of (on bytes) = on (length bytes)
answer_of (refused number place) = refused number place

-- the same, as `read_abnf` returns it
abbrev pub answer_says : Result ℕ Refused → Run ℕ
answer_says (Ok n) = on n
answer_says (Err e) = refused (number e.refusal) e.place

-- the lent bytes then: the table in front, all others as they came
abbrev pub bytes_after : Run (List ℕ) → List ℕ → List ℕ
bytes_after (on bytes) lent = bytes ++ drop (length bytes) lent
bytes_after (refused number place) lent = lent

-- what `read_abnf` promises of a text and lent bytes: its answer, and the bytes after it
pub record ReadsAbnf (text lent : List ℕ) (r : Result ℕ Refused) (after : List ℕ) : Type 0 where
  pub answer : answer_says r ≡ answer_of (table_of text (length lent))
  pub bytes : after ≡ bytes_after (table_of text (length lent)) lent
