-- One set in words, to which others are added: what a call needs of it, and what it has become. Assumes nothing.
use Rattle.std.specs.Prelude.{List, ℕ, ◌≤◌, length}
use Rattle.k_tuple.specs.Strings.{Str}
use Rattle.k_tuples.specs.Sets.{union, joins}
use Rattle.k_tuples.specs.Words.{Growth}
use Rattle.k_tuples.specs.Held.{Holds, Became}

-- a set at k, and another beside it
pub record Two (k : ℕ) (ws xs : List ℕ) : Type 0 where
  pub width : ℕ
  pub a : List Str
  pub x : List Str
  pub held : Holds k width a ws
  pub one : Holds k width x xs

-- and two to join at k
pub record Three (k : ℕ) (ws xs ys : List ℕ) : Type 0 where
  pub width : ℕ
  pub a : List Str
  pub x : List Str
  pub y : List Str
  pub some : 1 ≤ k
  pub short : k ≤ 10
  pub held : Holds k width a ws
  pub first : Holds k width x xs
  pub second : Holds k width y ys

-- it has become the union
pub record OneUnited (k : ℕ) (r : Growth) (xs ws ws' : List ℕ) : Type 0 where
  pub step : (w : ℕ) (a x : List Str) → Holds k w a ws → Holds k w x xs → Became k w a (union a x) (length ws) ws' r

-- the union with the join
pub record OneJoinAdded (k : ℕ) (r : Growth) (xs ys ws ws' : List ℕ) : Type 0 where
  pub step : (w : ℕ) (a x y : List Str) → Holds k w a ws → Holds k w x xs → Holds k w y ys → Became k w a (union a (joins k x y)) (length ws) ws' r
