-- The grammar that a text's definitions mean, sentence by sentence: names in byte order, then the options in order of appearance; literals in order
-- of first appearance; each alternative a production, in text order, the productions of an option behind those of its rule, its empty one last.
-- Assumes nothing.
use Rattle.std.specs.Prelude.{ℕ, suc, ◌+◌, List, [], ◌∷◌, ◌++◌, map, Bool, true, false, length, ltb, eqb}
use Rattle.cfg.specs.Reading.{pick}
use Rattle.cfg.specs.Grammar.{Sym, nonterminal, terminal, Production, Grammar}
use Rattle.abnf_tables.specs.Bytes.{lower}
use Rattle.abnf_tables.specs.Words.{compare}
use Rattle.abnf_grammar.specs.Subset.{Part, named, quoted, optional, Row, last, next, Choice, only, either, Definition, defines, NoneOf}

-- the number of a word among some, or how many they are
unfoldable pub index : List ℕ → List (List ℕ) → ℕ
index w [] = 0
index w (v ∷ vs) = pick (eqb (compare v w) 1) 0 (suc (index w vs))

-- the words with w, which is put behind them where it is new
unfoldable pub with : List ℕ → List (List ℕ) → List (List ℕ)
with w ws = pick (ltb (index w ws) (length ws)) ws (ws ++ (w ∷ []))

-- ---- the words, without case, each at its first appearance behind the words so far: the literals, or the names

unfoldable mutual
  pub words_part : Part → Bool → List (List ℕ) → List (List ℕ)
  words_part (named w) q ws = pick q ws (with (map lower w) ws)
  words_part (quoted w) q ws = pick q (with (map lower w) ws) ws
  words_part (optional c) q ws = words_choice c q ws

  pub words_row : Row → Bool → List (List ℕ) → List (List ℕ)
  words_row (last p) q ws = words_part p q ws
  words_row (next p r) q ws = words_row r q (words_part p q ws)

  pub words_choice : Choice → Bool → List (List ℕ) → List (List ℕ)
  words_choice (only r) q ws = words_row r q ws
  words_choice (either r c) q ws = words_choice c q (words_row r q ws)

unfoldable pub words_rule : Definition → Bool → List (List ℕ) → List (List ℕ)
words_rule d q ws = words_choice d.choice q (pick q ws (with (map lower d.name) ws))

unfoldable pub words : List Definition → Bool → List (List ℕ) → List (List ℕ)
words [] q ws = ws
words (d ∷ ds) q ws = words ds q (words_rule d q ws)

-- ---- how many options

unfoldable mutual
  pub options_part : Part → ℕ
  options_part (named w) = 0
  options_part (quoted w) = 0
  options_part (optional c) = suc (options_choice c)

  pub options_row : Row → ℕ
  options_row (last p) = options_part p
  options_row (next p r) = options_part p + options_row r

  pub options_choice : Choice → ℕ
  options_choice (only r) = options_row r
  options_choice (either r c) = options_row r + options_choice c

unfoldable pub options : List Definition → ℕ
options [] = 0
options (d ∷ ds) = options_choice d.choice + options ds

-- how many words come before one in byte order
unfoldable pub before : List ℕ → List (List ℕ) → ℕ
before w [] = 0
before w (v ∷ vs) = pick (eqb (compare v w) 0) (suc (before w vs)) (before w vs)

-- ---- the productions, where these are all names and literals, and g options stand before

module _ (names literals : List (List ℕ)) where
  unfoldable pub symbol : Part → ℕ → Sym
  symbol (named w) g = nonterminal (before (map lower w) names)
  symbol (quoted w) g = terminal (index (map lower w) literals + 5)
  symbol (optional c) g = nonterminal (length names + g)

  unfoldable pub right_side : Row → ℕ → List Sym
  right_side (last p) g = symbol p g ∷ []
  right_side (next p r) g = symbol p g ∷ right_side r (g + options_part p)

  abbrev pub production : ℕ → List Sym → Production
  production a γ = record { left = a; right = γ }

  -- one for each alternative
  unfoldable pub alternatives : Choice → ℕ → ℕ → List Production
  alternatives (only r) a g = production a (right_side r g) ∷ []
  alternatives (either r c) a g = production a (right_side r g) ∷ alternatives c a (g + options_row r)

  -- those of the options
  unfoldable mutual
    pub inside_part : Part → ℕ → List Production
    inside_part (named w) g = []
    inside_part (quoted w) g = []
    inside_part (optional c) g = (alternatives c (length names + g) (g + 1) ++ (production (length names + g) [] ∷ [])) ++ inside_choice c (g + 1)

    pub inside_row : Row → ℕ → List Production
    inside_row (last p) g = inside_part p g
    inside_row (next p r) g = inside_part p g ++ inside_row r (g + options_part p)

    pub inside_choice : Choice → ℕ → List Production
    inside_choice (only r) g = inside_row r g
    inside_choice (either r c) g = inside_row r g ++ inside_choice c (g + options_row r)

  unfoldable pub productions : List Definition → ℕ → List Production
  productions [] g = []
  productions (d ∷ ds) g =
      alternatives d.choice (before (map lower d.name) names) g ++ (inside_choice d.choice g ++ productions ds (g + options_choice d.choice))

  -- the start is the first rule
  unfoldable pub start_of : List Definition → ℕ
  start_of [] = 0
  start_of (d ∷ ds) = before (map lower d.name) names

unfoldable pub meant : List Definition → Grammar
meant ds = record {
  n = length (words ds false []) + options ds;
  t = length (words ds true []);
  start = start_of (words ds false []) (words ds true []) ds;
  productions = productions (words ds false []) (words ds true []) ds 0;
}

-- each of the words is one of the others
abbrev pub EachOf : List (List ℕ) → List (List ℕ) → Type 0
EachOf [] vs = Unit {0}
EachOf (w ∷ ws) vs = ¬ NoneOf w vs × EachOf ws vs

-- every name that appears has a rule
abbrev pub AllDefined : List Definition → Type 0
AllDefined ds = EachOf (words ds false []) (defines ds)
