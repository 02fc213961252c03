-- Words that hold productions. Assumes nothing.
use Rattle.std.specs.Prelude.{ℕ, zero, suc, ◌+◌, ◌≤◌, ◌<◌, List, [], ◌∷◌, map, ◌≡◌, length, get_or, take, drop}
use Rattle.cfg.specs.declared.table.Span.{Span}
use Rattle.cfg.specs.Grammar.{Sym, nonterminal, terminal}
use Rattle.cfg.specs.Written.{symbol_of}

-- every nonterminal of some symbols is below n
abbrev pub Below : ℕ → List Sym → Type 0
Below n [] = Unit {0}
Below n (nonterminal i ∷ ss) = (i < n) × Below n ss
Below n (terminal x ∷ ss) = Below n ss

-- `p` productions in some words: each has its left side below n, and its symbols' words are there
pub record SoundHead (n : ℕ) (ws : List ℕ) : Type 0 where
  pub whole : 2 + get_or ws 1 0 ≤ length ws
  pub left : get_or ws 0 0 < n
  pub right : Below n (map symbol_of (take (get_or ws 1 0) (drop 2 ws)))

abbrev pub Sound : ℕ → ℕ → List ℕ → Type 0
Sound n zero ws = Unit {0}
Sound n (suc p) ws = SoundHead n ws × Sound n p (drop (2 + get_or ws 1 0) ws)

-- the production whose words begin at a place
pub record SpanAt (ws : List ℕ) (at : ℕ) (span : Span) : Type 0 where
  pub left : span.left ≡ get_or ws at 0
  pub from : span.from ≡ at + 2
  pub to : span.to ≡ at + 2 + get_or ws (at + 1) 0
  pub inside : span.to ≤ length ws
