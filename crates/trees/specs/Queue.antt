-- The states of the prefix tree as a queue of prefixes. Assumes nothing.
use Rattle.std.specs.Prelude.{ℕ, suc, ◌+◌, ◌/◌, ◌%◌, ◌≤◌, ◌<◌, ◌≡◌, List, [], ◌∷◌, ◌++◌, map, length, get_or, take}
use Rattle.cfg.specs.Grammar.{Word}
use Rattle.k_tuples.specs.Sets.{◌∈◌}
use Rattle.decision_theory.specs.Automaton.{Entry, letters, along, longer, prefixes}
use Rattle.std.specs.Prelude.{Result, Ok, Err}
use Rattle.refusals.specs.declared.Refusal.{Refusal}
use Rattle.refusals.specs.declared.Refusal.TheVariants.{TooManyStates}
use Rattle.trees.specs.Listed.{Listed, word_at, entries}
use Rattle.trees.specs.Order.{InOrder}

-- The prefix of a state: so many terminals of its string.
unfoldable pub prefix_of : List ℕ → ℕ → Word
prefix_of ws v = take (v % 16) (word_at ws (v / 16))

-- The prefixes of some states.
abbrev pub prefixes_in : List ℕ → List ℕ → List Word
prefixes_in ws vs = map (prefix_of ws) vs

-- A state of a tree over n strings. Where there is none, the root is.
pub record State (ws : List ℕ) (n v : ℕ) : Type 0 where
  pub inside : 0 < n → v / 16 < n
  pub long : v % 16 ≤ length (word_at ws (v / 16))

-- A state other than the root.
pub record Deep (ws : List ℕ) (n v : ℕ) : Type 0 where
  pub inside : v / 16 < n
  pub some : 0 < v % 16
  pub long : v % 16 ≤ length (word_at ws (v / 16))

-- w is x, then t, then some more.
abbrev pub Starts : Word → ℕ → Word → Type 0
Starts x t w = (u : Word) × (w ≡ x ++ t ∷ u)

-- w goes on behind x by t, for which r is t with one added; else r is 0.
pub record GoesOnBy (x w : Word) (r : ℕ) : Type 0 where
  pub on : (t : ℕ) → r ≡ suc t → Starts x t w
  pub only : (t : ℕ) → Starts x t w → r ≡ suc t

-- The least terminal from f on by which one of the first j strings goes on behind x.
pub data Looked (ws : List ℕ) (x : Word) (f j l q : ℕ) : Type 0 where
  nothing : l ≡ 0 → ((p t : ℕ) → p < j → Starts x t (word_at ws p) → t < f) → Looked ws x f j l q
  found :
      (t : ℕ) → l ≡ suc t → q < j → Starts x t (word_at ws q) → f ≤ t
      → ((p u : ℕ) → p < j → Starts x u (word_at ws p) → f ≤ u → t ≤ u)
      → Looked ws x f j l q

-- The terminals by which a prefix goes on.
abbrev pub letters_at : List ℕ → ℕ → Word → List ℕ
letters_at ws n x = letters (along x (entries ws n))

-- Prefixes longer by one.
abbrev pub longer_by : Word → List ℕ → List Word
longer_by x ts = map (λ (t : ℕ). x ++ t ∷ []) ts

-- What the queue is when the states behind state v were put at its end.
pub data Grows (ws : List ℕ) (n v m : ℕ) (before after : List ℕ) (r : Result ℕ Refusal) : Type 0 where
  over : r ≡ Err TooManyStates → 2048 < m + length (letters_at ws n (prefix_of ws v)) → length after ≡ length before → Grows ws n v m before after r
  grows :
      (end : ℕ) → r ≡ Ok end → end ≤ 2048 → length after ≡ length before
      → end ≡ m + length (letters_at ws n (prefix_of ws v))
      → take m after ≡ take m before
      → prefixes_in ws (take end after) ≡ prefixes_in ws (take m before) ++ longer_by (prefix_of ws v) (letters_at ws n (prefix_of ws v))
      → ((q : ℕ) → m ≤ q → q < end → Deep ws n (get_or after q 0))
      → Grows ws n v m before after r

-- The string at a place of the order begins with a state's prefix.
abbrev pub BeginsAt : List ℕ → List ℕ → ℕ → ℕ → Type 0
BeginsAt ws order v c = take (v % 16) (word_at ws (get_or order c 0)) ≡ prefix_of ws v

-- That place is the first. Where there are no strings, no place is meant.
pub record Placed (ws : List ℕ) (n : ℕ) (order : List ℕ) (v p : ℕ) : Type 0 where
  pub inside : 0 < n → p < n
  pub begins : 0 < n → BeginsAt ws order v p
  pub first : (c : ℕ) → c < p → ¬ BeginsAt ws order v c

-- Strings in dictionary order, of which none begins another.
pub record Ordered (ws : List ℕ) (n : ℕ) (order : List ℕ) : Type 0 where
  pub listed : Listed ws n
  pub few : n ≤ 2048
  pub in_order : InOrder ws n order
  pub free : (p q t : ℕ) → p < n → q < n → ¬ Starts (word_at ws p) t (word_at ws q)

-- A state to go on from, and where to.
pub record Grow (ws : List ℕ) (n : ℕ) (order : List ℕ) (v from m : ℕ) (queue places : List ℕ) : Type 0 where
  pub ordered : Ordered ws n order
  pub state : State ws n v
  pub placed : Placed ws n order v from
  pub most : m ≤ 2048
  pub queue-room : 2048 ≤ length queue
  pub places-room : 2048 ≤ length places

-- The queue has grown, and each new state has its place.
pub record Spread (ws : List ℕ) (n : ℕ) (order : List ℕ) (v m : ℕ) (queue queue' places places' : List ℕ) (r : Result ℕ Refusal) : Type 0 where
  pub grows : Grows ws n v m queue queue' r
  pub size : length places' ≡ length places
  pub front : take m places' ≡ take m places
  pub placed : (end : ℕ) → r ≡ Ok end → (q : ℕ) → m ≤ q → q < end → Placed ws n order (get_or queue' q 0) (get_or places' q 0)

-- Strings to build from, and where to.
pub record Build (ws : List ℕ) (n : ℕ) (order queue kids places : List ℕ) : Type 0 where
  pub ordered : Ordered ws n order
  pub queue-room : 2048 ≤ length queue
  pub kids-room : 2048 ≤ length kids
  pub places-room : 2048 ≤ length places

-- No string has more than so many terminals.
abbrev pub Within : ℕ → List Entry → Type 0
Within depth R = (e : Entry) → e ∈ R → length e.word ≤ depth

-- The states are all prefixes, breadth first, each with the number of those that it goes on to.
pub record Tree (ws : List ℕ) (n m : ℕ) (queue kids : List ℕ) : Type 0 where
  pub some : 1 ≤ m
  pub few : m ≤ 2048
  pub root : get_or queue 0 0 ≡ 0
  pub deep : (q : ℕ) → 0 < q → q < m → Deep ws n (get_or queue q 0)
  pub whole : prefixes_in ws (take m queue) ≡ [] ∷ longer (entries ws n) (prefixes_in ws (take m queue))
  pub all : (depth : ℕ) → Within depth (entries ws n) → prefixes_in ws (take m queue) ≡ prefixes (entries ws n) (suc depth) ([] ∷ [])
  pub counts : (q : ℕ) → q < m → get_or kids q 0 ≡ length (letters_at ws n (prefix_of ws (get_or queue q 0)))

-- Their number is told, or that there are more than 2,048.
pub data Built (ws : List ℕ) (n : ℕ) (queue kids queue' kids' : List ℕ) (r : Result ℕ Refusal) : Type 0 where
  too_many :
      r ≡ Err TooManyStates → length queue' ≡ length queue → length kids' ≡ length kids
      → ((depth : ℕ) → Within depth (entries ws n) → 2048 < length (prefixes (entries ws n) (suc depth) ([] ∷ [])))
      → Built ws n queue kids queue' kids' r
  built :
      (m : ℕ) → r ≡ Ok m → length queue' ≡ length queue → length kids' ≡ length kids → Tree ws n m queue' kids'
      → Built ws n queue kids queue' kids' r
