-- The numbers of a tree as they are written. Assumes nothing.
use Rattle.std.specs.Prelude.{ℕ, zero, suc, ◌+◌, ◌-◌, ◌/◌, ◌%◌, ◌≤◌, ◌<◌, ◌≡◌, cond, List, [], ◌∷◌, ◌++◌, eqb, length, get_or}
use Rattle.std.proofs.lemmas.List.Edits.{sets}
use Rattle.trees.specs.Listed.{word_at, production_at}
use Rattle.trees.specs.Queue.{State, Deep}

-- The production of a state's string with one added where the string ends there; else 0.
unfoldable pub accept_of : List ℕ → ℕ → ℕ → ℕ
accept_of ws n v = cond (eqb n 0) 0 (cond (eqb (length (word_at ws (v / 16))) (v % 16)) (production_at ws (v / 16) + 1) 0)

-- The last terminal of a state's prefix.
unfoldable pub letter_of : List ℕ → ℕ → ℕ
letter_of ws v = get_or (word_at ws (v / 16)) (v % 16 - 1) 0

-- Transitions to q states from c on.
unfoldable pub edges_in : List ℕ → List ℕ → ℕ → ℕ → List ℕ
edges_in ws queue c zero = []
edges_in ws queue c (suc q) = letter_of ws (get_or queue c 0) ∷ c ∷ edges_in ws queue (suc c) q

-- q states from s on; the first transition leads to state `next`.
unfoldable pub states_in : List ℕ → ℕ → List ℕ → List ℕ → ℕ → ℕ → ℕ → List ℕ
states_in ws n queue kids next s zero = []
states_in ws n queue kids next s (suc q) =
    accept_of ws n (get_or queue s 0) ∷ get_or kids s 0 ∷ edges_in ws queue next (get_or kids s 0) ++ states_in ws n queue kids (next + get_or kids s 0) (suc s) q

-- How many states q states from s on go on to.
unfoldable pub kids_from : List ℕ → ℕ → ℕ → ℕ
kids_from kids s zero = 0
kids_from kids s (suc q) = get_or kids s 0 + kids_from kids (suc s) q

-- States to which transitions lead.
pub record Edges (ws : List ℕ) (n : ℕ) (queue : List ℕ) (from to : ℕ) : Type 0 where
  pub low : from ≤ to
  pub few : to ≤ 2048
  pub room : to ≤ length queue
  pub deep : (q : ℕ) → from ≤ q → q < to → Deep ws n (get_or queue q 0)

-- States that can be written: all but the first are gone on to once.
pub record States (ws : List ℕ) (n m : ℕ) (queue kids : List ℕ) : Type 0 where
  pub few : m ≤ 2048
  pub queue-room : m ≤ length queue
  pub kids-room : m ≤ length kids
  pub state : (q : ℕ) → q < m → State ws n (get_or queue q 0)
  pub deep : (q : ℕ) → 0 < q → q < m → Deep ws n (get_or queue q 0)
  pub sum : 1 + kids_from kids 0 m ≡ m

-- r is the number of some bytes, of which there are not more than `limit`.
pub record Measures (xs : List ℕ) (limit r : ℕ) : Type 0 where
  pub is : r ≡ length xs
  pub most : r ≤ limit

-- The bytes xs stand at a place, and r is the place behind them.
pub record Puts (before after : List ℕ) (at r : ℕ) (xs : List ℕ) : Type 0 where
  pub place : r ≡ at + length xs
  pub written : after ≡ sets before at xs
