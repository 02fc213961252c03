-- What is told and written of one nonterminal's tree. Assumes nothing.
use Rattle.std.specs.Prelude.{ℕ, suc, ◌+◌, ◌≤◌, ◌<◌, ◌≡◌, List, [], ◌∷◌, ◌++◌, length, take, drop}
use Rattle.cfg.specs.Grammar.{Word}
use Rattle.cfg.specs.Write.{write_numbers}
use Rattle.k_tuples.specs.Sets.{◌∈◌}
use Rattle.decision_theory.specs.Automaton.{Entry, State, nodes, states_from, automaton_numbers}
use Rattle.std.specs.Prelude.{Result, Ok, Err}
use Rattle.refusals.specs.declared.Refusal.{Refusal}
use Rattle.refusals.specs.declared.Refusal.TheVariants.{TooManyStates, LentTooFew}
use Rattle.trees.specs.Listed.{Listed, entries}
use Rattle.trees.specs.Queue.{Within}

-- The automaton of strings that have at most `depth` terminals: that of decision_theory.
abbrev pub tree_of : List Entry → ℕ → List State
tree_of R depth = states_from 1 (nodes (suc depth) (R ∷ []))

-- Its bytes.
abbrev pub bytes_of : List State → List ℕ
bytes_of S = write_numbers (automaton_numbers S)

-- A string has one production, and none begins another.
pub record Apart (R : List Entry) : Type 0 where
  pub one : (w : Word) (i j : ℕ) → record { word = w; production = i } ∈ R → record { word = w; production = j } ∈ R → i ≡ j
  pub free : (u x : Word) (i j : ℕ) → record { word = u; production = i } ∈ R → record { word = u ++ x; production = j } ∈ R → x ≡ []

-- The strings of one nonterminal.
pub record Strings (ws : List ℕ) (n : ℕ) : Type 0 where
  pub listed : Listed ws n
  pub few : n ≤ 2048
  pub apart : Apart (entries ws n)

-- The number of bytes is told, or that there are more than 2,048 states.
pub data SizeTold (S : List State) (r : Result ℕ Refusal) : Type 0 where
  over : r ≡ Err TooManyStates → 2048 < length S → SizeTold S r
  sized : length S ≤ 2048 → r ≡ Ok (length (bytes_of S)) → SizeTold S r

-- The bytes are written from a place on, and the place behind them is told; or the bytes are as they came.
pub data Wrote (S : List State) (at : ℕ) (before after : List ℕ) (r : Result ℕ Refusal) : Type 0 where
  too_many : r ≡ Err TooManyStates → 2048 < length S → after ≡ before → Wrote S at before after r
  no_room : length S ≤ 2048 → r ≡ Err LentTooFew → length before < at + length (bytes_of S) → after ≡ before → Wrote S at before after r
  wrote :
      length S ≤ 2048 → r ≡ Ok (at + length (bytes_of S)) → at + length (bytes_of S) ≤ length before
      → after ≡ take at before ++ bytes_of S ++ drop (at + length (bytes_of S)) before
      → Wrote S at before after r

-- The same for strings in words: for any depth that they keep to.
pub record Measured (ws : List ℕ) (n : ℕ) (r : Result ℕ Refusal) : Type 0 where
  pub is : (depth : ℕ) → Within depth (entries ws n) → SizeTold (tree_of (entries ws n) depth) r

pub record Written (ws : List ℕ) (n at : ℕ) (before after : List ℕ) (r : Result ℕ Refusal) : Type 0 where
  pub is : (depth : ℕ) → Within depth (entries ws n) → Wrote (tree_of (entries ws n) depth) at before after r
