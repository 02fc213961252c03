-- The part of a text that a number of its grammar stands for. Assumes nothing.
use Rattle.std.specs.Prelude.{ℕ, ◌+◌, ◌-◌, ◌≤◌, List, [], ◌∷◌, Bool, true, false, ◌&&◌, length, get_or, ltb, leb, eqb}
use Rattle.cfg.specs.Reading.{pick}
use Rattle.abnf_tables.specs.Run.{Run, on, refused}
use Rattle.abnf_tables.specs.Words.{word_at, rank}
use Rattle.abnf_tables.specs.Tables.{Tables}
use Rattle.abnf_rules.specs.Machine.{start, scanned}
use Rattle.abnf_names.specs.declared.TextPart.{TextPart}

abbrev pub part : ℕ → ℕ → TextPart
part a b = record { start = a; end = b }

-- no bytes
abbrev pub no_part : TextPart
no_part = part 0 0

-- the bytes of a word, from the place where it begins
unfoldable pub word_part : Bool → List ℕ → ℕ → TextPart
word_part quoted text from =
    let end = from + length (word_at quoted text from) in
    pick (leb end (length text)) (part from end) no_part

-- the first of some names, in which `number` of all names come before
unfoldable pub name_numbered : List ℕ → List ℕ → ℕ → List ℕ → TextPart
name_numbered text names number [] = no_part
name_numbered text names number (f ∷ fs) = pick (eqb (rank text f names) number) (word_part false text f) (name_numbered text names number fs)

-- where a byte of the rules stands: 0 outside literals and comments, 1 in a literal, 2 in a comment
unfoldable pub state_after : ℕ → ℕ → ℕ
state_after state b =
    pick (eqb state 0)
    (pick (eqb b 34) 1 (pick (eqb b 59) 2 0))
    (pick (eqb state 1) (pick (eqb b 34) 0 1) (pick (eqb b 13) 0 2))

-- a group begins
abbrev pub opens : ℕ → ℕ → Bool
opens state b = eqb state 0 && eqb b 91

-- "[" number g, from a place on, that stands outside literals and comments
unfoldable pub group_part : ℕ → ℕ → ℕ → List ℕ → TextPart
group_part state g at [] = no_part
group_part state g at (b ∷ bs) =
    let rest = group_part (state_after state b) (pick (opens state b) (g - 1) g) (at + 1) bs in
    pick (opens state b && eqb g 0) (part at (at + 1)) rest

-- the part that a number stands for, in tables that were noted: a name, or "[" of a group; a literal without its quotes
unfoldable pub nonterminal_in : List ℕ → ℕ → Tables → TextPart
nonterminal_in text i t =
    pick (ltb i (length t.names))
    (name_numbered text t.names i t.names)
    (pick (ltb i (length t.names + t.groups)) (group_part 0 (i - length t.names) 0 text) no_part)

unfoldable pub terminal_in : List ℕ → ℕ → Tables → TextPart
terminal_in text x t = pick (leb 5 x && ltb (x - 5) (length t.literals)) (word_part true text (get_or t.literals (x - 5) 0)) no_part

-- no bytes where a text is refused
abbrev pub part_of : Run Tables → (Tables → TextPart) → TextPart
part_of (on t) f = f t
part_of (refused number place) f = no_part

unfoldable pub nonterminal_part : List ℕ → ℕ → TextPart
nonterminal_part text i = part_of (scanned text 0 text start) (nonterminal_in text i)

unfoldable pub terminal_part : List ℕ → ℕ → TextPart
terminal_part text x = part_of (scanned text 0 text start) (terminal_in text x)

-- a part that may be cut out of a text
pub record Inside (text : List ℕ) (p : TextPart) : Type 0 where
  pub order : p.start ≤ p.end
  pub inside : p.end ≤ length text
