-- The vocabulary of src/runs.rt: what is kept, cut and written on the way to a join, in packed strings. No public promise names any of it. Assumes nothing.
use Rattle.std.specs.Prelude.{◌≡◌, Bool, true, false, cond, ◌||◌, List, [], ◌∷◌, ◌++◌, map, ℕ, ◌+◌, ◌-◌, ◌*◌, ◌≤◌, ◌<◌, length, take, drop, replicate, Result, Ok, Err}
use Rattle.k_tuple.specs.declared.Terminals.{Terminals}
use Rattle.k_tuple.specs.Strings.{Str, eps, length_of, well_formed, count_field}
use Rattle.k_tuple.specs.Packed.{Alike, packed, number_of, reads, joined, cut_in, eps_in, complete_in}
use Rattle.k_tuples.specs.Sets.{◌∈◌, Sorted}
use Rattle.k_tuples.specs.Members.{add_all, has_of}
use Rattle.k_tuples.specs.Words.{count_in, member_at, encode, decode, IsSet, Growth, Grew}
use Rattle.k_tuples.specs.Held.{first_width}
use Rattle.refusals.specs.declared.Refusal.{Refusal}
use Rattle.k_joins.specs.declared.runs.Lent.{Lent}

-- the members from i to e
abbrev pub between : ℕ → ℕ → List ℕ → List Terminals
between i e ws = drop i (take e (decode ws))

-- y cut to r slots, unless it is ε
abbrev pub cut_of : ℕ → Terminals → List Terminals
cut_of r y = cond (eps_in (reads y)) [] (cut_in r (reads y) ∷ [])

abbrev pub cuts_of : ℕ → List Terminals → List Terminals
cuts_of r [] = []
cuts_of r (y ∷ ys) = cut_of r y ++ cuts_of r ys

-- x if it is complete
abbrev pub keep_of : ℕ → Terminals → List Terminals
keep_of k x = cond (complete_in k (reads x)) (x ∷ []) []

abbrev pub keeps_of : ℕ → List Terminals → List Terminals
keeps_of k [] = []
keeps_of k (x ∷ xs) = keep_of k x ++ keeps_of k xs

-- each of a list joined with y
abbrev pub follows_of : ℕ → Terminals → List Terminals → List Terminals
follows_of k y xs = map (λ x. joined k (reads x) (reads y)) xs

-- each of a list joined with each of another, by the second first
unfoldable pub run_of : ℕ → List Terminals → List Terminals → List Terminals
run_of k xs [] = []
run_of k xs (y ∷ ys) = follows_of k y xs ++ run_of k xs ys

-- the same, ε of the second list left out
abbrev pub meet_of : ℕ → List Terminals → Terminals → List Terminals
meet_of k xs y = cond (eps_in (reads y)) [] (follows_of k y xs)

abbrev pub meets_of : ℕ → List Terminals → List Terminals → List Terminals
meets_of k xs [] = []
meets_of k xs (y ∷ ys) = meet_of k xs y ++ meets_of k xs ys

-- the same, ε and what is complete in the first list left out too
abbrev pub left_of : ℕ → List Terminals → Terminals → List Terminals
left_of k ys x = cond (complete_in k (reads x) || eps_in (reads x)) [] (meets_of k (x ∷ []) ys)

abbrev pub lefts_of : ℕ → List Terminals → List Terminals → List Terminals
lefts_of k [] ys = []
lefts_of k (x ∷ xs) ys = left_of k ys x ++ lefts_of k xs ys

-- whether a set has ε
abbrev pub has_eps : List Terminals → Bool
has_eps ts = has_of (packed (first_width ts) eps) ts

-- what a join begins with: what stays as it is, which is everything where the second set has ε, otherwise what is complete; and the second set, where the first has ε
abbrev pub stay_of : ℕ → List Terminals → List Terminals → List Terminals
stay_of k xs ys = cond (has_eps ys) xs (keeps_of k xs)

abbrev pub second_of : List Terminals → List Terminals → List Terminals
second_of xs ys = cond (has_eps xs) ys []

-- ---- what the functions ask and tell

-- words whose members are the strings a of width w, in order
pub record OfStrings (w : ℕ) (a : List Str) (ws : List ℕ) : Type 0 where
  pub is : decode ws ≡ map (packed w) a
  pub well : (z : Str) → z ∈ a → well_formed w z ≡ true
  pub sorted : Sorted a

-- two sets to join at k, of one width, the second of strings of 1 to k slots
pub record Joining (k : ℕ) (xs ys : List ℕ) : Type 0 where
  pub width : ℕ
  pub a : List Str
  pub b : List Str
  pub some : 1 ≤ k
  pub short : k ≤ 10
  pub first : OfStrings width a xs
  pub second : OfStrings width b ys
  pub first_more : 0 < length a
  pub second_more : 0 < length b
  pub sized : (z : Str) → z ∈ b → (0 < length_of z) × (length_of z ≤ k)

-- x has l slots, is not complete and not ε
pub record InClass (k l : ℕ) (x : Terminals) : Type 0 where
  pub slots : count_field (number_of x) ≡ l
  pub unended : complete_in k (reads x) ≡ false
  pub plain : eps_in (reads x) ≡ false

-- what a test for the class tells
pub record ClassTold (k l : ℕ) (x : Terminals) (r : Bool) : Type 0 where
  pub inside : r ≡ true → InClass k l x

-- the members i to e are in one class, and a run of 127 has room for them
pub record ClassEnd (k l : ℕ) (xs : List ℕ) (i e : ℕ) : Type 0 where
  pub more : i < e
  pub within : e ≤ length (decode xs)
  pub few : e ≤ i + 127
  pub each : (t : ℕ) → i ≤ t → t < e → InClass k l (member_at xs (2 * t + 1))

-- the whole of y can follow x, which has l slots
pub record Follows (k l : ℕ) (x y : Terminals) : Type 0 where
  pub alike : Alike x y
  pub class : InClass k l x
  pub plain : eps_in (reads y) ≡ false
  pub some : 1 ≤ count_field (number_of y)
  pub room : l + count_field (number_of y) ≤ k
  pub short : k ≤ 10

-- y can follow each of the members i to e in the words
abbrev pub AllFollow : ℕ → ℕ → List ℕ → ℕ → ℕ → Terminals → Type 0
AllFollow k l xs i e y = (t : ℕ) → i ≤ t → t < e → Follows k l (member_at xs (2 * t + 1)) y

-- every member in ys can
abbrev pub AllPairs : ℕ → ℕ → List ℕ → ℕ → ℕ → List ℕ → Type 0
AllPairs k l xs i e ys = (j : ℕ) → j < count_in ys → AllFollow k l xs i e (member_at ys (2 * j + 1))

-- words that are those of their members, with the number 0
pub record Coded (ws : List ℕ) : Type 0 where
  pub is : ws ≡ encode 0 (length ws) (decode ws)

-- a local array that holds no members, and both that are lent
abbrev pub Blank : List ℕ → Type 0
Blank ws = ws ≡ replicate 255 0

pub record AllBlank (l : Lent) : Type 0 where
  pub cut : Blank l.cut
  pub run : Blank l.run

-- the rows of the members j to f of ds have been written
pub record RunPart (k : ℕ) (xs : List ℕ) (i e : ℕ) (ds : List ℕ) (j f : ℕ) (ws : List ℕ) : Type 0 where
  pub more : j < f
  pub within : f ≤ length (decode ds)
  pub fits : 2 * length (run_of k (between i e xs) (between j f ds)) + 1 ≤ 255
  pub is : ws ≡ encode 0 255 (run_of k (between i e xs) (between j f ds))

-- y was added, cut to r slots, unless it is ε
pub record CutAdded (r : ℕ) (y : Terminals) (ws ws' : List ℕ) : Type 0 where
  pub told : Growth
  pub grew : Grew ws ws' (add_all (cut_of r y) (decode ws)) told

-- the answer of a step after which a join goes on at `at`: where there was no room, that
abbrev pub on_at : ℕ → Growth → Result ℕ Refusal
on_at at (Ok t) = Ok at
on_at at (Err e) = Err e

-- x was added, if it is complete and there was room
pub record KeptStep (k : ℕ) (x : Terminals) (s : Result ℕ Refusal) (ws ws' : List ℕ) : Type 0 where
  pub told : Growth
  pub at : ℕ
  pub is : s ≡ on_at at told
  pub grew : Grew ws ws' (add_all (keep_of k x) (decode ws)) told

-- what a part of a set, of at most 127 members, gives has been gathered
pub record Gathered (new : List Terminals) (ws : List ℕ) : Type 0 where
  pub is_set : IsSet ws
  pub as_long : length ws ≡ 255
  pub members : decode ws ≡ add_all new []

-- the part from j on ends at e
pub record ChunkEnd (n j e : ℕ) : Type 0 where
  pub more : j < e
  pub within : e ≤ n
  pub few : e ≤ j + 127

-- a join has gone on from member i
pub record PartStep (k : ℕ) (xs ys : List ℕ) (i : ℕ) (s : Result ℕ Refusal) (ws ws' : List ℕ) : Type 0 where
  pub told : Growth
  pub at : ℕ
  pub is : s ≡ on_at at told
  pub more : i < at
  pub within : at ≤ length (decode xs)
  pub grew : Grew ws ws' (add_all (lefts_of k (between i at xs) (decode ys)) (decode ws)) told

-- the least and the greatest number of slots
pub record SizesTold (k : ℕ) (ys : List ℕ) (r : Bool) : Type 0 where
  pub least : r ≡ true → 1 ≤ count_field (number_of (member_at ys 1))
  pub most : r ≡ true → count_field (number_of (member_at ys (2 * (length (decode ys) - 1) + 1))) ≤ k
