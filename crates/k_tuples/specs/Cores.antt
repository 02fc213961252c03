-- The vocabulary of the inner functions of src/set.rt and src/test.rt: where a member goes, which words are used, what a loop tells, and words whose
-- number of unfinished members may be any. No public promise names any of it. Assumes nothing.
use Rattle.std.specs.Prelude.{◌≡◌, Bool, true, false, cond, List, ◌∷◌, ◌++◌, map, ℕ, ◌+◌, ◌-◌, ◌*◌, ◌≤◌, ◌<◌, length, take, drop, replicate}
use Rattle.std.proofs.Math.Seq.{slice}
use Rattle.k_tuple.specs.declared.Terminals.{Terminals}
use Rattle.k_tuple.specs.Strings.{Str, count_field}
use Rattle.k_tuple.specs.Packed.{packed, number_of, less_of, reads, complete_in}
use Rattle.k_tuples.specs.Members.{rank, open_of}
use Rattle.k_tuples.specs.Words.{member_at, number_in, count_in, encode, decode, Growth, is_full}
use Rattle.k_tuples.specs.Sets.{Sorted}
use Rattle.k_tuples.specs.Held.{AllFit, first_width, strings, holds_counted}

-- the words that a set uses: the count and the members
pub record Used (ws : List ℕ) (n : ℕ) : Type 0 where
  pub is : n ≡ 2 * count_in ws + 1
  pub within : n ≤ length ws

-- x belongs at place p of a set, and does not stand there
pub record Absent (x : Terminals) (ws : List ℕ) (p : ℕ) : Type 0 where
  pub place : p ≡ rank x (decode ws)
  pub differs : p < length (decode ws) → less_of x (member_at ws (2 * p + 1)) ≡ true

-- words with the member x put in at index a, the words from a to e moved up by two, and the two after them lost
unfoldable pub with_gap : ℕ → ℕ → Terminals → List ℕ → List ℕ
with_gap a e x ws = take a ws ++ x.lo ∷ x.hi ∷ slice a e ws ++ drop (e + 2) ws

-- what the test for long strings tells
pub record Long (k : ℕ) (x : Terminals) (r : Bool) : Type 0 where
  pub slots : r ≡ true → k ≤ count_field (number_of x)
  pub some : r ≡ true → 1 < count_field (number_of x)

-- from member i of a set up to j: at each k at which the first of them is unfinished, all are
pub record Class (ws : List ℕ) (i j : ℕ) : Type 0 where
  pub some : i < j
  pub within : j ≤ length (decode ws)
  pub like : (k : ℕ) → complete_in k (reads (member_at ws (2 * i + 1))) ≡ false → open_of k (drop i (decode ws)) ≡ (j - i) + open_of k (drop j (decode ws))

-- zeros instead of words that did not take the set
abbrev pub or_zeros : Growth → List ℕ → List ℕ
or_zeros g ws = cond (is_full g) (replicate (length ws) 0) ws

-- words with the number that is true at k, unless the set had no room
abbrev pub finished : ℕ → Growth → List ℕ → List ℕ
finished k g ws = cond (is_full g) ws (encode (open_of k (decode ws)) (length ws) (decode ws))

-- words that hold the set a at k, of width w, with any number
pub record HoldsAny (k w : ℕ) (a : List Str) (ws : List ℕ) : Type 0 where
  pub words : ws ≡ encode (number_in ws) (length ws) (map (packed w) a)
  pub room : 2 * length a + 1 ≤ length ws
  pub counted : length a < 4294967296
  pub sorted : Sorted a
  pub fit : AllFit k w a

-- words that hold some set, with any number
pub record HoldsSome (ws : List ℕ) : Type 0 where
  pub k : ℕ
  pub width : ℕ
  pub set : List Str
  pub held : HoldsAny k width set ws

-- what the test of words without the number tells
pub record Counted (k : ℕ) (ws : List ℕ) (r : Bool) : Type 0 where
  pub answer : r ≡ holds_counted k ws
  pub holds : r ≡ true → HoldsAny k (first_width (decode ws)) (strings (decode ws)) ws
