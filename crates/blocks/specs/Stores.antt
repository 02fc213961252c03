-- Words that are cut into blocks, a set in each: what a call needs of them, and what they hold after it. Where a call's answer and words are the
-- same whatever the width is, and k where no number of unfinished members is made, its promise holds for all of them, and a caller says which. Assumes nothing.
use Rattle.std.specs.Prelude.{◌≡◌, Bool, true, false, List, [], ◌∷◌, ◌++◌, ◌≢◌, ℕ, ◌*◌, ◌≤◌, ◌<◌, length, get_or, take, drop, set, replicate}
use Rattle.k_tuple.specs.Strings.{Str, well_formed}
use Rattle.k_tuple.specs.Packed.{packed}
use Rattle.k_tuple.specs.declared.Terminals.{Terminals}
use Rattle.k_tuples.specs.Sets.{union, join_sets, all_complete, same_set}
use Rattle.k_tuples.specs.States.{State, set_of, same_sets}
use Rattle.k_tuples.specs.Words.{Growth, room_of, grown}
use Rattle.k_tuples.specs.Held.{set_words, Fits, Holds}
use Rattle.k_tuples.specs.Blocks.{Stored, sets_in, IsStored, Stepped}

-- ---- what a call needs

-- words of m sets
pub record Sets (b m : ℕ) (ws : List ℕ) : Type 0 where
  pub k : ℕ
  pub width : ℕ
  pub store : IsStored k width b m ws

-- words of m sets, and others of l
pub record Both (b m l : ℕ) (ws vs : List ℕ) : Type 0 where
  pub k : ℕ
  pub width : ℕ
  pub first : IsStored k width b m ws
  pub second : IsStored k width b l vs

-- words of m sets, and a set beside them
pub record WithOne (b m : ℕ) (ws xs : List ℕ) : Type 0 where
  pub k : ℕ
  pub width : ℕ
  pub x : List Str
  pub store : IsStored k width b m ws
  pub one : Holds k width x xs

-- the same two at k
pub record BothAt (k b m l : ℕ) (ws vs : List ℕ) : Type 0 where
  pub width : ℕ
  pub first : IsStored k width b m ws
  pub second : IsStored k width b l vs

pub record WithOneAt (k b m : ℕ) (ws xs : List ℕ) : Type 0 where
  pub width : ℕ
  pub x : List Str
  pub store : IsStored k width b m ws
  pub one : Holds k width x xs

-- words of m sets, and two sets beside them to join at k
pub record WithTwo (k b m : ℕ) (ws xs ys : List ℕ) : Type 0 where
  pub width : ℕ
  pub x : List Str
  pub y : List Str
  pub some : 1 ≤ k
  pub short : k ≤ 10
  pub store : IsStored k width b m ws
  pub first : Holds k width x xs
  pub second : Holds k width y ys

-- words of m sets at k, and a string to put into one of them
pub record WithString (k b m : ℕ) (t : Terminals) (ws : List ℕ) : Type 0 where
  pub width : ℕ
  pub z : Str
  pub store : IsStored k width b m ws
  pub is : t ≡ packed width z
  pub fits : Fits k width z

-- words of m sets at no more than k
pub record Raisable (k b m : ℕ) (ws : List ℕ) : Type 0 where
  pub j : ℕ
  pub width : ℕ
  pub low : j ≤ k
  pub store : IsStored j width b m ws

-- ---- what the words hold after it

-- the words have come to hold these m sets; what lies past them is as it was
pub record Turned (k w b m : ℕ) (F : State) (ws ws' : List ℕ) : Type 0 where
  pub count : length F ≡ m
  pub held : Stored k w b F (drop (m * b) ws) ws'

-- set i of m, which had `old` members, has become `new`, if there is room for it, and r tells
pub record Filled (k w b m i old : ℕ) (new : List Str) (r : Growth) (ws ws' : List ℕ) : Type 0 where
  pub answer : r ≡ grown (room_of b) old (length new)
  pub step : Stepped k w b m i new ws ws'

-- set i is the join of two sets
pub record Joined (k b m i : ℕ) (r : Growth) (xs ys ws ws' : List ℕ) : Type 0 where
  pub step : (w : ℕ) (x y : List Str) → IsStored k w b m ws → Holds k w x xs → Holds k w y ys → Filled k w b m i 0 (join_sets k x y) r ws ws'

-- the join of two sets has been added to set i
pub record JoinAdded (k b m i : ℕ) (r : Growth) (xs ys ws ws' : List ℕ) : Type 0 where
  pub step : (w : ℕ) (x y : List Str) → IsStored k w b m ws → Holds k w x xs → Holds k w y ys → let old = set_of (sets_in b m ws) i in
      Filled k w b m i (length old) (union old (join_sets k x y)) r ws ws'

-- a set has been added to set i
pub record United (k b m i : ℕ) (r : Growth) (xs ws ws' : List ℕ) : Type 0 where
  pub step : (w : ℕ) (x : List Str) → IsStored k w b m ws → Holds k w x xs → let old = set_of (sets_in b m ws) i in
      Filled k w b m i (length old) (union old x) r ws ws'

-- set `from` of other words, of l sets, has been added to set `to`
pub record UnitedBlock (k b m l from to : ℕ) (r : Growth) (vs ws ws' : List ℕ) : Type 0 where
  pub step : (w : ℕ) → IsStored k w b m ws → IsStored k w b l vs → let old = set_of (sets_in b m ws) to in
      Filled k w b m to (length old) (union old (set_of (sets_in b l vs) from)) r ws ws'

-- set i is a copy of a set
pub record Copied (b m i : ℕ) (xs ws ws' : List ℕ) : Type 0 where
  pub step : (k w : ℕ) (x : List Str) → IsStored k w b m ws → Holds k w x xs → Turned k w b m (set (sets_in b m ws) i x) ws ws'

-- set `to` is a copy of set `from` of other words, of l sets
pub record CopiedBlock (b m l from to : ℕ) (vs ws ws' : List ℕ) : Type 0 where
  pub step : (k w : ℕ) → IsStored k w b m ws → IsStored k w b l vs → Turned k w b m (set (sets_in b m ws) to (set_of (sets_in b l vs) from)) ws ws'

-- set i is empty
pub record Emptied (b m i : ℕ) (ws ws' : List ℕ) : Type 0 where
  pub step : (k w : ℕ) → IsStored k w b m ws → Turned k w b m (set (sets_in b m ws) i []) ws ws'

-- three words are the set of one string at k, whatever its width is
pub record Only (k : ℕ) (t : Terminals) (ws : List ℕ) : Type 0 where
  pub words : (w : ℕ) (z : Str) → t ≡ packed w z → well_formed w z ≡ true → ws ≡ set_words k 3 w (z ∷ [])

-- set i is the set of one string
pub record PutSingle (k b m i : ℕ) (t : Terminals) (ws ws' : List ℕ) : Type 0 where
  pub step : (w : ℕ) (z : Str) → IsStored k w b m ws → t ≡ packed w z → Fits k w z → Turned k w b m (set (sets_in b m ws) i (z ∷ [])) ws ws'

-- the sets are those that were, at a greater k
pub record Raised (k b m : ℕ) (ws ws' : List ℕ) : Type 0 where
  pub step : (j w : ℕ) → j ≤ k → IsStored j w b m ws → Turned k w b m (sets_in b m ws) ws ws'

-- the first n sets are empty
pub record EmptiedFirst (b m n : ℕ) (ws ws' : List ℕ) : Type 0 where
  pub step : (k w : ℕ) → IsStored k w b m ws → Turned k w b m (replicate n [] ++ drop n (sets_in b m ws)) ws ws'

-- set i has become that of other words, of l sets, and r tells whether it was that before
pub record TakenBlock (b m l i : ℕ) (r : Bool) (vs ws ws' : List ℕ) : Type 0 where
  pub step : (k w : ℕ) → IsStored k w b m ws → IsStored k w b l vs → Turned k w b m (set (sets_in b m ws) i (set_of (sets_in b l vs) i)) ws ws'
  pub told : (k w : ℕ) → IsStored k w b m ws → IsStored k w b l vs → r ≡ same_set (set_of (sets_in b l vs) i) (set_of (sets_in b m ws) i)

-- the first n sets have become those of other words, of l sets; each mark tells whether a set was that before, and r whether all were
pub record TakenFirst (b m l n : ℕ) (r : Bool) (vs ws ws' : List ℕ) (marks : List Bool) : Type 0 where
  pub step : (k w : ℕ) → IsStored k w b m ws → IsStored k w b l vs → Turned k w b m (take n (sets_in b l vs) ++ drop n (sets_in b m ws)) ws ws'
  pub told : (k w : ℕ) → IsStored k w b m ws → IsStored k w b l vs → r ≡ same_sets (take n (sets_in b l vs)) (take n (sets_in b m ws))
  pub marked : (k w : ℕ) → IsStored k w b m ws → IsStored k w b l vs → (i : ℕ) → i < n → get_or marks i false ≡ same_set (set_of (sets_in b l vs) i) (set_of (sets_in b m ws) i)

-- whether every member of set i is complete at k
pub record AskedComplete (k b m i : ℕ) (r : Bool) (ws : List ℕ) : Type 0 where
  pub step : (w : ℕ) → IsStored k w b m ws → r ≡ all_complete k (set_of (sets_in b m ws) i)

-- ---- the first sets

-- the first n sets have become these, set `free` anything; the other sets are as they were, and so is what lies past them
pub record Front (k w b m n free : ℕ) (F : State) (ws ws' : List ℕ) : Type 0 where
  pub store : IsStored k w b m ws'
  pub front : take n (sets_in b m ws') ≡ F
  pub others : (i : ℕ) → n ≤ i → i ≢ free → set_of (sets_in b m ws') i ≡ set_of (sets_in b m ws) i
  pub beyond : drop (m * b) ws' ≡ drop (m * b) ws
