-- A grammar written as a table, and the limits of a table, in the rules' order. Assumes nothing.
use Rattle.std.specs.Prelude.{ℕ, ◌+◌, ◌*◌, ◌/◌, ◌%◌, ◌≤◌, ◌<◌, ◌≡◌, refl, length, get_or, ltb}
use mathlib.Core.List.{List, [], ◌∷◌, ◌++◌, map, Memᴰ}
use Rattle.cfg.specs.Grammar.{Sym, nonterminal, terminal, Production, Grammar, AllInRange}
use Rattle.cfg.specs.Reading.{pick}

-- one byte below 128; else its low seven bits with the top bit set, then the others
unfoldable pub write_number : ℕ → List ℕ
write_number v = pick (ltb v 128) (v ∷ []) ((v % 128 + 128) ∷ (v / 128) ∷ [])

-- numbers, one after another
abbrev pub write_numbers : List ℕ → List ℕ
write_numbers [] = []
write_numbers (v ∷ vs) = write_number v ++ write_numbers vs

-- among the symbols nonterminal i is 2i, terminal x is 2x + 1
abbrev pub code_of : Sym → ℕ
code_of (nonterminal i) = 2 * i
code_of (terminal x) = 2 * x + 1

-- per production its left side, its length and its symbols
abbrev pub production_numbers : Production → List ℕ
production_numbers q = q.left ∷ length q.right ∷ map code_of q.right

abbrev pub all_numbers : List Production → List ℕ
all_numbers [] = []
all_numbers (q ∷ qs) = production_numbers q ++ all_numbers qs

-- n, t, start, p, then the productions
abbrev pub table_numbers : Grammar → List ℕ
table_numbers g = g.n ∷ g.t ∷ g.start ∷ length g.productions ∷ all_numbers g.productions

unfoldable pub write_table : Grammar → List ℕ
write_table g = write_numbers (table_numbers g)

-- every number of a list is a byte
abbrev pub Bytes : List ℕ → Type 0
Bytes b = (i : ℕ) → get_or b i 0 < 256

-- the limits of one production
pub record ProductionLimits (g : Grammar) (q : Production) : Type 0 where
  pub left : q.left < g.n
  pub size : length q.right ≤ 64
  pub right : AllInRange g q.right

-- the symbols in all
abbrev pub symbol_count : List Production → ℕ
symbol_count [] = 0
symbol_count (q ∷ qs) = length q.right + symbol_count qs

-- the limits of a table
pub record Limits (g : Grammar) : Type 0 where
  pub some : 1 ≤ g.n
  pub nonterminals : g.n ≤ 128
  pub terminals : g.t ≤ 4089
  pub start : g.start < g.n
  pub productions : length g.productions ≤ 512
  pub each : (q : Production) → Memᴰ q g.productions → ProductionLimits g q
  pub symbols : symbol_count g.productions ≤ 4096

-- S → 5 V; V → 6; V → nothing
listing-written : write_table (record {
  n = 2;
  t = 2;
  start = 0;
  productions =
      record { left = 0; right = terminal 5 ∷ nonterminal 1 ∷ [] }
      ∷ record { left = 1; right = terminal 6 ∷ [] }
      ∷ record { left = 1; right = [] }
      ∷ [];
})
    ≡ 2 ∷ 2 ∷ 0 ∷ 3 ∷ 0 ∷ 2 ∷ 0x0B ∷ 2 ∷ 1 ∷ 1 ∷ 0x0D ∷ 1 ∷ 0 ∷ []
unfolding write_table write_number
listing-written = refl

two-groups-written : write_number 259 ≡ 0x83 ∷ 2 ∷ []
unfolding write_number
two-groups-written = refl
