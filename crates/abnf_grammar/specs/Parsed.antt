-- What the promises say of a text: that no limit is passed, and the grammar that its parse means. Assumes nothing.
use Rattle.std.specs.Prelude.{ℕ, List, ◌≡◌}
use Rattle.cfg.specs.Grammar.{Grammar}
use Rattle.abnf_tables.specs.Run.{refused}
use Rattle.abnf.specs.Abnf.{read_rules}
use Rattle.abnf_grammar.specs.Subset.{Definition, Rulelist, defines, Different}
use Rattle.abnf_grammar.specs.Meaning.{AllDefined, meant}

-- no limit is passed
abbrev pub Within : List ℕ → Type 0
Within text = (p : ℕ) → ¬ (read_rules text ≡ refused 20 p)

-- the text is a rulelist, each name that appears is defined, none twice, and this grammar is what it means
pub record Parsed (text : List ℕ) (g : Grammar) : Type 0 where
  pub definitions : List Definition
  pub rulelist : Rulelist definitions text
  pub once : Different (defines definitions)
  pub defined : AllDefined definitions
  pub grammar : g ≡ meant definitions
