-- The vocabulary of src/merge.rt: where two members stand to each other, and words that members are written into. No public promise names any of it. Assumes nothing.
use Rattle.std.specs.Prelude.{◌≡◌, List, [], ◌∷◌, ◌++◌, ℕ, ◌+◌, ◌*◌, ◌≤◌, ◌<◌, length, take, drop}
use Rattle.k_tuple.specs.declared.Terminals.{Terminals}
use Rattle.k_tuple.specs.Packed.{number_of}
use Rattle.std.specs.declared.cmp.Ordering.{Ordering}
use Rattle.std.specs.Ordering.{nat_cmp}
use Rattle.k_tuples.specs.Members.{rank}
use Rattle.k_tuples.specs.Words.{flat, member_at, decode}

-- on which side of y the member x stands, by their numbers
unfoldable pub side_of : Terminals → Terminals → Ordering
side_of x y = nat_cmp (number_of x) (number_of y)

-- words with the members ms written from place n on
unfoldable pub written : ℕ → List Terminals → List ℕ → List ℕ
written n ms ws = take (2 * n + 1) ws ++ (flat ms ++ drop (2 * (n + length ms) + 1) ws)

-- p members of the set a come before the first of b, which has some
pub record Begins (a b : List ℕ) (p : ℕ) : Type 0 where
  pub some : 0 < length (decode b)
  pub place : p ≡ rank (member_at b 1) (decode a)

-- the members of the set a, but for the count, have become `all`: some first ones stayed, and the rest was written after them
pub record Merged (a : List ℕ) (all : List Terminals) (ws : List ℕ) : Type 0 where
  pub kept : ℕ
  pub rest : List Terminals
  pub within : kept ≤ length (decode a)
  pub whole : take kept (decode a) ++ rest ≡ all
  pub is : ws ≡ written kept rest a

-- r members of ys come before the first of xs
abbrev pub Passed : List Terminals → List Terminals → ℕ → Type 0
Passed [] ys r = r ≡ 0
Passed (x ∷ xs) ys r = r ≡ rank x ys
