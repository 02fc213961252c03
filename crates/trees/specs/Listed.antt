-- Strings with their productions in words, three words each. Assumes nothing.
use Rattle.std.specs.Prelude.{ℕ, zero, suc, ◌+◌, ◌*◌, ◌≤◌, ◌<◌, ◌≡◌, Bool, true, false, List, [], ◌∷◌, ◌++◌, length, get_or, take, Option, Some, None, Result, Ok, Err}
use Rattle.cfg.specs.Grammar.{Word}
use Rattle.k_tuple.specs.Strings.{slots, good}
use Rattle.k_tuple.specs.Packed.{reads, terminals_in}
use Rattle.k_tuple.specs.declared.Terminals.{Terminals}
use Rattle.k_tuples.specs.Words.{member_at}
use Rattle.decision_theory.specs.Automaton.{Entry}
use Rattle.refusals.specs.declared.Refusal.{Refusal}
use Rattle.refusals.specs.declared.Refusal.TheVariants.{TooManyStates}

-- A well-formed string of width w other than ε. The empty one is among them.
pub record Plain (w : ℕ) (t : Terminals) : Type 0 where
  pub word : Word
  pub is : reads t ≡ good w (slots word)

-- n of them, of one width, whose productions fit two groups of seven bits with one added.
pub record Listed (ws : List ℕ) (n : ℕ) : Type 0 where
  pub width : ℕ
  pub room : 3 * n ≤ length ws
  pub plain : (j : ℕ) → j < n → Plain width (member_at ws (3 * j))
  pub small : (j : ℕ) → j < n → get_or ws (3 * j + 2) 0 < 16383

-- String j, its production, and both.
unfoldable pub word_at : List ℕ → ℕ → Word
word_at ws j = terminals_in (reads (member_at ws (3 * j)))

unfoldable pub production_at : List ℕ → ℕ → ℕ
production_at ws j = get_or ws (3 * j + 2) 0

abbrev pub entry_at : List ℕ → ℕ → Entry
entry_at ws j = record { word = word_at ws j; production = production_at ws j }

-- The first n.
unfoldable pub entries : List ℕ → ℕ → List Entry
entries ws zero = []
entries ws (suc n) = entries ws n ++ entry_at ws n ∷ []

-- One more than a terminal; 0 for none.
abbrev pub code_of : Option ℕ → ℕ
code_of None = 0
code_of (Some t) = suc t

-- One more than the terminal at a place; 0 past the last.
unfoldable pub code_at : Word → ℕ → ℕ
code_at [] e = 0
code_at (t ∷ w) zero = suc t
code_at (t ∷ w) (suc e) = code_at w e

-- Whether the first d terminals are the same.
pub record Agrees (d : ℕ) (w v : Word) (r : Bool) : Type 0 where
  pub yes : r ≡ true → take d w ≡ take d v
  pub no : r ≡ false → ¬ (take d w ≡ take d v)

-- A string that can be put behind them.
pub record Addable (ws : List ℕ) (n : ℕ) (t : Terminals) (production : ℕ) : Type 0 where
  pub listed : Listed ws n
  pub plain : Plain listed.width t
  pub small : production < 16383
  pub room : 6144 ≤ length ws

-- They are listed again, of the same width.
abbrev pub SameWidth : List ℕ → ℕ → ℕ → Type 0
SameWidth ws n w = (l : Listed ws n) × (l.width ≡ w)

-- What adding does.
pub data Appended (n : ℕ) (t : Terminals) (production : ℕ) (before after : List ℕ) (r : Result ℕ Refusal) : Type 0 where
  no_room : r ≡ Err TooManyStates → 2048 ≤ n → after ≡ before → Appended n t production before after r
  appended :
      r ≡ Ok (n + 1) → n < 2048 → ((l : Listed before n) → Plain l.width t → SameWidth after (n + 1) l.width) → length after ≡ length before
      → entries after (n + 1) ≡ entries before n ++ record { word = terminals_in (reads t); production = production } ∷ []
      → Appended n t production before after r
