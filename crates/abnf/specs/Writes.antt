-- What the program's numbers and bytes say. It only connects the program; nobody needs to believe it. Assumes nothing.
use Rattle.std.specs.Prelude.{ℕ, ◌+◌, ◌≤◌, ◌<◌, List, [], ◌++◌, ◌≡◌, length, take, drop, get_or, leb, Option, Some, None, IfSome, Result, Ok, Err}
use Rattle.refusals.specs.Numbers.{number}
use Rattle.cfg.specs.Reading.{pick}
use Rattle.cfg.specs.Write.{all_numbers, write_table}
use Rattle.cfg.specs.Grammar.{Production}
use Rattle.abnf_tables.specs.Run.{Run, on, refused}
use Rattle.abnf_tables.specs.Tables.{Tables, tables}
use Rattle.abnf.specs.Numbering.{missing, productions_from, grammar_of}
use Rattle.abnf_rules.specs.Machine.{scanned, start}
use Rattle.abnf_tables.specs.Says.{tables_of, Sane}
use Rattle.abnf_tables.specs.declared.refused.Refused.{Refused}
use Rattle.abnf.specs.declared.grammar.Put.{Put}
use Rattle.abnf_tables.specs.declared.tables.Counts.{Counts}
use Rattle.abnf_tables.specs.declared.tables.Notes.{Notes}

-- the table that stands in the first bytes of the lent ones
abbrev pub table_says : Result ℕ Refused → List ℕ → Run (List ℕ)
table_says (Ok n) out = on (take n out)
table_says (Err e) out = refused (number e.refusal) e.place

-- the bytes behind the table, and on a refusal all, are as they came
abbrev pub Kept : Result ℕ Refused → List ℕ → List ℕ → Type 0
Kept (Ok n) before after = (n ≤ length before) × (drop n after ≡ drop n before)
Kept (Err e) before after = after ≡ before

-- a name is refused by 19 at its place, where there is one
abbrev pub unless_missed : Option ℕ → List ℕ → Run Tables → Run Tables
unless_missed (Some k) names good = refused 19 (get_or names k 0)
unless_missed None names good = good

-- r is the first number below n that is not among some, if there is one
pub record FirstMissing (lefts : List ℕ) (n : ℕ) (r : Option ℕ) : Type 0 where
  pub inside : IfSome r (λ k. k < n)
  pub says : (names : List ℕ) (good : Run Tables) → length names ≡ n → missing lefts 0 names good ≡ unless_missed r names good

abbrev pub AllBelow : ℕ → List ℕ → Type 0
AllBelow m xs = (i : ℕ) → get_or xs i 0 < m

-- numbers are put behind those in use
pub record Puts (r used : ℕ) (before after more : List ℕ) : Type 0 where
  pub end : r ≡ used + length more
  pub says : take r after ≡ take used before ++ more

pub record PutsAll (r : Put) (used : ℕ) (before after : List ℕ) (more : List Production) : Type 0 where
  pub count : r.count ≡ length more
  pub few : used + r.count ≤ r.used
  pub puts : Puts r.used used before after (all_numbers more)

-- bytes stand in place of others
pub record Pastes (r from : ℕ) (before after more : List ℕ) : Type 0 where
  pub end : r ≡ from + length more
  pub says : after ≡ take from before ++ (more ++ drop r before)

-- a table is written where it fits
pub record WritesTable (r : Result ℕ Refused) (before after : List ℕ) (bytes : List ℕ) : Type 0 where
  pub says : table_says r after ≡ pick (leb (length bytes) (length before)) (on bytes) (refused 10 0)
  pub kept : Kept r before after

-- the bytes of the table of some tables
abbrev pub tables_for : Counts → List ℕ → List ℕ → List ℕ → Tables
tables_for c names lefts items = tables names [] lefts items c.groups c.productions c.symbols c.left c.size

unfoldable pub table_bytes : List ℕ → Counts → List ℕ → List ℕ → List ℕ → List ℕ
table_bytes text c names lefts items = write_table (record {
  n = c.names + c.groups;
  t = c.literals;
  start = (grammar_of text (tables_for c names lefts items)).start;
  productions = productions_from text names items 0 lefts;
})

pub record Numbered (text : List ℕ) (c : Counts) (names lefts items : List ℕ) : Type 0 where
  pub few : length names ≤ 128
  pub sides : length lefts ≤ 128
  pub below : AllBelow 32768 lefts
  pub limits : c.names + c.groups ≤ 128
  pub terminals : c.literals ≤ 4089
  pub numbers : length (all_numbers (productions_from text names items 0 lefts)) ≤ 9600
  pub small : AllBelow 32768 (all_numbers (productions_from text names items 0 lefts))

-- a text is read, and what was noted
pub record Scanned (text : List ℕ) (n : Notes) : Type 0 where
  pub says : scanned text 0 text start ≡ on (tables_of n)
  pub sane : Sane 0 n.counts
