-- What is noted of a text's meaning, rule by rule and part by part: the names and the literals as words without case, each at its first
-- appearance, the left sides in order of appearance, and the items of each right side. No places, no limits. Assumes nothing.
use Prim.Native.Nat.{ℕ, ◌+◌, ◌*◌}
use mathlib.Core.List.{List, [], ◌∷◌, ◌++◌, map}
use lib.ListN.{length}
use Rattle.abnf_tables.specs.Bytes.{lower}
use Rattle.abnf_tables.specs.Tables.{item}
use Rattle.abnf_grammar.specs.Meaning.{index, with}
use Rattle.abnf_grammar.specs.Subset.{Part, named, quoted, optional, Row, last, next, Choice, only, either, Definition}

pub record Notes : Type 0 where
  pub names : List (List ℕ)
  pub literals : List (List ℕ)
  -- as in the tables: k for the rule of name k, 128 + g for the group g
  pub lefts : List ℕ
  -- as in the tables: 65536 times the left side's place, and a code
  pub items : List ℕ
  pub groups : ℕ

abbrev pub notes : List (List ℕ) → List (List ℕ) → List ℕ → List ℕ → ℕ → Notes
notes ns ls fs is g = record { names = ns; literals = ls; lefts = fs; items = is; groups = g }

abbrev pub nothing : Notes
nothing = notes [] [] [] [] 0

-- an item of the left side l
abbrev pub note_item : ℕ → ℕ → Notes → Notes
note_item l code n = notes n.names n.literals n.lefts (n.items ++ (item l code ∷ [])) n.groups

abbrev pub note_name : List ℕ → Notes → Notes
note_name w n = notes (with w n.names) n.literals n.lefts n.items n.groups

abbrev pub note_literal : List ℕ → Notes → Notes
note_literal w n = notes n.names (with w n.literals) n.lefts n.items n.groups

-- a left side begins
abbrev pub note_left : ℕ → Notes → Notes
note_left x n = notes n.names n.literals (n.lefts ++ (x ∷ [])) n.items n.groups

-- one group more begins
abbrev pub note_group : Notes → Notes
note_group n = notes n.names n.literals (n.lefts ++ ((128 + n.groups) ∷ [])) n.items (n.groups + 1)

unfoldable mutual
  -- a part of an alternative of the left side l: a name, a literal, or a group, whose own alternatives come next
  pub note_part : Part → ℕ → Notes → Notes
  note_part (named w) l n = note_item l (2 * index (map lower w) n.names) (note_name (map lower w) n)
  note_part (quoted w) l n = note_item l (2 * (index (map lower w) n.literals + 5) + 1) (note_literal (map lower w) n)
  note_part (optional c) l n = note_choice c (length n.lefts) (note_group (note_item l (2 * (128 + n.groups)) n))

  pub note_row : Row → ℕ → Notes → Notes
  note_row (last p) l n = note_part p l n
  note_row (next p r) l n = note_row r l (note_part p l n)

  -- each alternative begins with a mark
  pub note_choice : Choice → ℕ → Notes → Notes
  note_choice (only r) l n = note_row r l (note_item l 1 n)
  note_choice (either r c) l n = note_choice c l (note_row r l (note_item l 1 n))

-- a rule: its name, its left side, its alternatives
unfoldable pub note_rule : Definition → Notes → Notes
note_rule d n = note_choice d.choice (length n.lefts) (note_left (index (map lower d.name) n.names) (note_name (map lower d.name) n))

unfoldable pub note_rules : List Definition → Notes → Notes
note_rules [] n = n
note_rules (d ∷ ds) n = note_rules ds (note_rule d n)
