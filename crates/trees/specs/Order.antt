-- The strings in dictionary order, first terminal first, by their numbers. Assumes nothing.
use Rattle.std.specs.Prelude.{ℕ, ◌≤◌, ◌<◌, ◌≡◌, Bool, true, false, cond, ◌↔◌, List, [], ◌∷◌, eqb, ltb, length, get_or}
use Rattle.cfg.specs.Grammar.{Word}
use Rattle.k_tuples.specs.Sets.{◌∈◌}
use Rattle.trees.specs.Listed.{word_at}

-- v comes before w or is the same: by the first terminal that differs, and what begins another before it.
unfoldable pub not_after : Word → Word → Bool
not_after [] w = true
not_after (a ∷ v) [] = false
not_after (a ∷ v) (b ∷ w) = cond (eqb a b) (not_after v w) (ltb a b)

-- Numbers of strings, of which there are n.
abbrev pub Inside : ℕ → List ℕ → Type 0
Inside n xs = (j : ℕ) → j ∈ xs → j < n

-- Whether the first of the left list comes next.
unfoldable pub left_next : List ℕ → List ℕ → List ℕ → Bool
left_next ws [] ys = false
left_next ws (x ∷ xs) [] = true
left_next ws (x ∷ xs) (y ∷ ys) = not_after (word_at ws x) (word_at ws y)

-- x with a list: those that come before it, x, and the rest with what is left.
unfoldable pub merged_with : List ℕ → ℕ → (List ℕ → List ℕ) → List ℕ → List ℕ
merged_with ws x rest [] = x ∷ rest []
merged_with ws x rest (y ∷ ys) = cond (not_after (word_at ws x) (word_at ws y)) (x ∷ rest (y ∷ ys)) (y ∷ merged_with ws x rest ys)

-- Two lists in order as one.
unfoldable pub merged : List ℕ → List ℕ → List ℕ → List ℕ
merged ws [] ys = ys
merged ws (x ∷ xs) ys = merged_with ws x (merged ws xs) ys

-- In dictionary order.
abbrev pub Sorted : List ℕ → List ℕ → Type 0
Sorted ws [] = Unit {0}
Sorted ws (x ∷ xs) = ((y : ℕ) → y ∈ xs → not_after (word_at ws x) (word_at ws y) ≡ true) × Sorted ws xs

-- The same numbers, in dictionary order.
pub record Arranged (ws xs ys : List ℕ) : Type 0 where
  pub same : (j : ℕ) → j ∈ ys ↔ j ∈ xs
  pub sorted : Sorted ws ys

-- Numbers 0 to n - 1.
pub record Numbers (n : ℕ) (xs : List ℕ) : Type 0 where
  pub size : length xs ≡ n
  pub all : (j : ℕ) → j ∈ xs ↔ (j < n)

-- The first n places hold all numbers of strings, in dictionary order.
pub record InOrder (ws : List ℕ) (n : ℕ) (order : List ℕ) : Type 0 where
  pub room : n ≤ length order
  pub inside : (c : ℕ) → c < n → get_or order c 0 < n
  pub whole : (j : ℕ) → j < n → (c : ℕ) × (c < n) × (get_or order c 0 ≡ j)
  pub rising : (c d : ℕ) → c < d → d < n → not_after (word_at ws (get_or order c 0)) (word_at ws (get_or order d 0)) ≡ true
