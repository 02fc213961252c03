-- Grammars as the table writes them. Assumes nothing.
use Rattle.std.specs.Prelude.{ℕ, zero, suc, ◌+◌, ◌/◌, ◌%◌, List, [], ◌∷◌, map, get_or, take, drop, eqb}
use Rattle.cfg.specs.Grammar.{Sym, nonterminal, terminal, Production}
use Rattle.cfg.specs.Reading.{pick}

-- a symbol as the table writes it: nonterminal i is 2i, terminal x is 2x + 1
abbrev pub symbol_of : ℕ → Sym
symbol_of c = pick (eqb (c % 2) 0) (nonterminal (c / 2)) (terminal (c / 2))

-- productions as words: for each its left side, its length and its symbols, one word each
abbrev pub production_at : List ℕ → Production
production_at ws = record { left = get_or ws 0 0; right = map symbol_of (take (get_or ws 1 0) (drop 2 ws)) }

abbrev pub productions_of : ℕ → List ℕ → List Production
productions_of zero ws = []
productions_of (suc p) ws = production_at ws ∷ productions_of p (drop (2 + get_or ws 1 0) ws)

-- how many of some symbols are nonterminals, and q, the nonterminals in all right sides
abbrev pub nonterminals : List Sym → ℕ
nonterminals [] = 0
nonterminals (nonterminal i ∷ ss) = suc (nonterminals ss)
nonterminals (terminal x ∷ ss) = nonterminals ss

abbrev pub occurrences : List Production → ℕ
occurrences [] = 0
occurrences (p ∷ ps) = nonterminals p.right + occurrences ps
