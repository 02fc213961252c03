-- When a table is refused by 3 to 7, said of its bytes. Assumes nothing.
use Rattle.std.specs.Prelude.{ℕ, ◌≤◌, ◌<◌, List, [], ◌∷◌, ◌++◌, map, ◌≡◌, ◌⊎◌, length, get_or}
use Rattle.cfg.specs.Grammar.{Sym, Production, Grammar}
use Rattle.cfg.specs.Write.{write_number, write_numbers, table_numbers, write_table, Limits}

-- the bytes end before a number does
abbrev pub Unfinished : List ℕ → Type 0
Unfinished [] = Unit {0}
Unfinished (low ∷ []) = 128 ≤ low
Unfinished (low ∷ high ∷ c) = ⊥

-- a number over two groups, or not shortest
abbrev pub Malformed : List ℕ → Type 0
Malformed [] = ⊥
Malformed (low ∷ []) = ⊥
Malformed (low ∷ high ∷ c) = (128 ≤ low) × ((128 ≤ high) ⊎ (high ≡ 0))

-- what each number of a table is refused by when it is outside its limits: a count by 5; the start, a left side or a symbol by 6
abbrev pub production_kinds : Production → List ℕ
production_kinds q = 6 ∷ 5 ∷ map (λ (s : Sym). 6) q.right

abbrev pub all_kinds : List Production → List ℕ
all_kinds [] = []
all_kinds (q ∷ qs) = production_kinds q ++ all_kinds qs

abbrev pub table_kinds : Grammar → List ℕ
table_kinds g = 5 ∷ 5 ∷ 6 ∷ 5 ∷ all_kinds g.productions

-- some numbers begin the table of a grammar within the limits
pub record Begins (vs : List ℕ) : Type 0 where
  pub g : Grammar
  pub limits : Limits g
  pub rest : List ℕ
  pub all : table_numbers g ≡ vs ++ rest

-- .. and want another, which is refused by `kind` when it is outside its limits
pub record Wants (vs : List ℕ) (kind : ℕ) : Type 0 where
  pub g : Grammar
  pub limits : Limits g
  pub v : ℕ
  pub rest : List ℕ
  pub all : table_numbers g ≡ vs ++ (v ∷ rest)
  pub same : get_or (table_kinds g) (length vs) 0 ≡ kind

-- good numbers, and then bytes of which P holds where another number is wanted
pub record NextNumber (P : List ℕ → Type 0) (b : List ℕ) : Type 0 where
  pub vs : List ℕ
  pub kind : ℕ
  pub wants : Wants vs kind
  pub c : List ℕ
  pub bytes : b ≡ write_numbers vs ++ c
  pub next : P c

-- good numbers, and then a number with which they begin no table of a grammar within the limits
pub record Outside (b : List ℕ) (kind : ℕ) : Type 0 where
  pub vs : List ℕ
  pub wants : Wants vs kind
  pub v : ℕ
  pub groups : v < 16384
  pub c : List ℕ
  pub bytes : b ≡ write_numbers vs ++ (write_number v ++ c)
  pub outside : ¬ Begins (vs ++ (v ∷ []))

-- a whole table, and bytes left over
pub record LeftOver (b : List ℕ) : Type 0 where
  pub g : Grammar
  pub limits : Limits g
  pub x : ℕ
  pub c : List ℕ
  pub bytes : b ≡ write_table g ++ (x ∷ c)

-- the rows 3 to 7 of the rules' table of refusals
pub data TableRefused (b : List ℕ) : ℕ → Type 0 where
  ends-early : NextNumber Unfinished b → TableRefused b 3
  wrong-number : NextNumber Malformed b → TableRefused b 4
  wrong-count : Outside b 5 → TableRefused b 5
  out_of_range : Outside b 6 → TableRefused b 6
  left_over : LeftOver b → TableRefused b 7
