-- What the program's parts and states are in the paper's. Assumes nothing.
use Rattle.std.specs.Prelude.{ℕ, ◌+◌, ◌<◌, ◌≡◌, List, take, Option, Some, None}
use Rattle.abnf_tables.specs.Tables.{Tables}
use Rattle.abnf_tables.specs.declared.tables.Counts.{Counts}
use Rattle.abnf_names.specs.Parts.{no_part, nonterminal_in, terminal_in}
use Rattle.abnf_names.specs.declared.TextPart.{TextPart}
use Rattle.abnf_names.specs.declared.Within.{Within}
use Rattle.abnf_names.specs.declared.Within.TheVariants.{Rule, Literal, Comment}

-- no part is no bytes
abbrev pub part_says : Option TextPart → TextPart
part_says (Some p) = p
part_says None = no_part

-- the part of a nonterminal's number, by so many names of a list and so many groups, whatever else is noted
pub record NonterminalIn (text : List ℕ) (c : Counts) (i : ℕ) (r : Option TextPart) (ns : List ℕ) : Type 0 where
  pub says : (t : Tables) → t.names ≡ take c.names ns → t.groups ≡ c.groups → part_says r ≡ nonterminal_in text i t

-- the part of a terminal's number, by so many literals of a list
pub record TerminalIn (text : List ℕ) (c : Counts) (x : ℕ) (r : Option TextPart) (ls : List ℕ) : Type 0 where
  pub says : (t : Tables) → t.literals ≡ take c.literals ls → part_says r ≡ terminal_in text x t

-- a part that is given is not that of no bytes at the text's beginning, which stands for none
abbrev pub Given : Option TextPart → Type 0
Given (Some p) = 0 < p.start + p.end
Given None = Unit {0}

-- what a byte stands in, as `state_after` numbers it
abbrev pub state_number : Within → ℕ
state_number Rule = 0
state_number Literal = 1
state_number Comment = 2
