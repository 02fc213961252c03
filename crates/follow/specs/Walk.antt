-- The walk over the nonterminals in right sides: what is still to come of them at a place of the words. Assumes nothing.
use Rattle.std.specs.Prelude.{ℕ, ◌-◌, ◌≤◌, List, ◌∷◌, ◌++◌, map, ◌≡◌, length, take, drop}
use Rattle.cfg.specs.Grammar.{Sym}
use Rattle.cfg.specs.Written.{symbol_of, productions_of}
use Rattle.cfg.specs.Words.{Sound}
use Rattle.follow_theory.specs.Follow.{Occurrence, occurrences_in, occurrences_of}
use Rattle.follow.specs.declared.walk.Walk.{Walk}

-- the symbols that are left of the right side in hand
abbrev pub symbols_left : List ℕ → Walk → List Sym
symbols_left ws w = map symbol_of (take (w.end - w.at) (drop w.at ws))

-- the occurrences that are still to come
unfoldable pub to_come : List ℕ → Walk → List Occurrence
to_come ws w = occurrences_in w.source (symbols_left ws w) ++ occurrences_of (productions_of w.behind (drop w.end ws))

-- the place lies in the words, which hold productions from there on
pub record Goes (ws : List ℕ) (w : Walk) : Type 0 where
  pub before : w.at ≤ w.end
  pub inside : w.end ≤ length ws
  pub sound : Sound 128 w.behind (drop w.end ws)

-- from w the walk has come to r, by one occurrence
pub record Met (ws : List ℕ) (w r : Walk) : Type 0 where
  pub passed : to_come ws w ≡ record { target = r.target; source = r.source; rest = symbols_left ws r } ∷ to_come ws r
  pub goes : Goes ws r

-- before the first of p productions
abbrev pub start_of : ℕ → Walk
start_of p = record { at = 0; end = 0; source = 0; target = 0; behind = p }
