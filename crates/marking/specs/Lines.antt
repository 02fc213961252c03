-- What the functions below the call ask and promise of a table's rows at one level: the rows in words, the productions' strings as numbers, the marks.
-- Not for the reader of the call. Assumes nothing.
use Rattle.std.specs.Prelude.{ℕ, ◌+◌, ◌*◌, ◌^◌, ◌≤◌, ◌<◌, ◌≡◌, Bool, true, false, cond, ◌⊎◌, ◌↔◌, List, map, ltb, length, get_or, Option, Some, None}
use Rattle.k_tuple.specs.Wide.{value}
use Rattle.k_tuple.specs.Packed.{number_of}
use Rattle.k_tuples.specs.Sets.{◌∈◌}
use Rattle.k_tuples.specs.Words.{decode}
use Rattle.k_tuples.specs.Blocks.{part_at}
use Rattle.blocks.specs.Stores.{Sets}
use Rattle.decision.specs.declared.Links.{Links}
use Rattle.decision.specs.declared.Layout.{Layout}
use Rattle.decision.specs.Own.{left_at}
use Rattle.decision.specs.Steps.{Long, Fit}
use Rattle.marking.specs.Bits.{is_marked, MarkedAt}
use Rattle.k_tuple.specs.declared.Terminals.{Terminals}
use Rattle.marking.specs.declared.lack.Missed.{Missed}

-- ---- a set's strings as numbers

-- the numbers that words of a set hold
unfoldable pub numbers_in : List ℕ → List ℕ
numbers_in ws = map number_of (decode ws)

-- those of production i
abbrev pub numbers_at : Layout → List ℕ → ℕ → List ℕ
numbers_at u result i = numbers_in (part_at u.b (u.n + i) result)

-- a number's place in a list
pub data Placed (a : List ℕ) (v : ℕ) (r : Option ℕ) : Type 0 where
  found : (j : ℕ) → r ≡ Some j → j < length a → get_or a j 0 ≡ v → Placed a v r
  absent : ¬ (v ∈ a) → r ≡ None → Placed a v r

-- the sets stand in the result, at most 1,024 members each, and the productions are linked
pub record Stand (u : Layout) (links : Links) (κ result : List ℕ) : Type 0 where
  pub sets : Sets u.b u.sets result
  pub fit : Fit u links
  pub long : Long κ
  pub room : u.b ≤ 2049

-- the mark of member j of production i
abbrev pub mark_of : ℕ → ℕ → ℕ
mark_of i j = 1024 * i + j

-- ---- one row

-- A row in words: its nonterminal, its string as one number, its production.
pub record Line : Type 0 where
  pub nonterminal : ℕ
  pub number : ℕ
  pub production : ℕ

abbrev pub line_at : List ℕ → ℕ → Line
line_at ws t = record { nonterminal = get_or ws (4 * t) 0; number = value (get_or ws (4 * t + 1) 0) (get_or ws (4 * t + 2) 0); production = get_or ws (4 * t + 3) 0 }

-- the k of a nonterminal, 0 where there is no such nonterminal
unfoldable pub level_of : (n : ℕ) → List ℕ → ℕ → ℕ
level_of n κ A = cond (ltb A n) (get_or κ A 0) 0

-- a number was looked up among the strings vs of production i, and marked where it is there and was not marked before
pub data MarkTaken (vs : List ℕ) (i v : ℕ) (marks marks' : List ℕ) (r : Bool) : Type 0 where
  absent : ¬ (v ∈ vs) → r ≡ false → MarkTaken vs i v marks marks' r
  again : (j : ℕ) → j < length vs → get_or vs j 0 ≡ v → is_marked marks (mark_of i j) ≡ true → r ≡ false → MarkTaken vs i v marks marks' r
  taken : (j : ℕ) → j < length vs → get_or vs j 0 ≡ v → is_marked marks (mark_of i j) ≡ false → MarkedAt marks (mark_of i j) marks' → r ≡ true → MarkTaken vs i v marks marks' r

-- a row was taken at level k: passed over where it is of another
pub data LineTaken (u : Layout) (links : Links) (κ result : List ℕ) (k : ℕ) (l : Line) (marks marks' : List ℕ) (r : Bool) : Type 0 where
  passed_over : ¬ level_of u.n κ l.nonterminal ≡ k → marks' ≡ marks → r ≡ true → LineTaken u links κ result k l marks marks' r
  foreign :
      level_of u.n κ l.nonterminal ≡ k → ¬ ((l.production < u.p) × (left_at links l.production ≡ l.nonterminal)) → r ≡ false
      → LineTaken u links κ result k l marks marks' r
  tried :
      level_of u.n κ l.nonterminal ≡ k → l.production < u.p → left_at links l.production ≡ l.nonterminal
      → MarkTaken (numbers_at u result l.production) l.production l.number marks marks' r → LineTaken u links κ result k l marks marks' r

-- ---- all rows

-- the row gives a string of its nonterminal's its production
pub record Right (u : Layout) (links : Links) (result : List ℕ) (l : Line) : Type 0 where
  pub inside : l.production < u.p
  pub own : left_at links l.production ≡ l.nonterminal
  pub has : l.number ∈ numbers_at u result l.production

-- it is among the first t rows
pub record Among (ws : List ℕ) (t : ℕ) (l : Line) : Type 0 where
  pub s : ℕ
  pub before : s < t
  pub is : line_at ws s ≡ l

-- row t is not right, or stands before
abbrev pub BadLine : (u : Layout) (links : Links) (result ws : List ℕ) (t : ℕ) → Type 0
BadLine u links result ws t = (¬ Right u links result (line_at ws t)) ⊎ Among ws t (line_at ws t)

-- the row for member j of production i
abbrev pub line_for : (u : Layout) (links : Links) (result : List ℕ) (i j : ℕ) → Line
line_for u links result i j = record { nonterminal = left_at links i; number = get_or (numbers_at u result i) j 0; production = i }

-- the marks of level k are those of the first t rows
abbrev pub MarksOf : (u : Layout) (links : Links) (κ result : List ℕ) (k : ℕ) (ws : List ℕ) (t : ℕ) (marks : List ℕ) → Type 0
MarksOf u links κ result k ws t marks = (i j : ℕ) → i < u.p → get_or κ (left_at links i) 0 ≡ k → j < length (numbers_at u result i)
    → (is_marked marks (mark_of i j) ≡ true) ↔ Among ws t (line_for u links result i j)

-- r is the first bad row of level k among the first `end`, or `end`
pub record Checked (u : Layout) (links : Links) (κ result : List ℕ) (k : ℕ) (ws : List ℕ) (end : ℕ) (marks' : List ℕ) (r : ℕ) : Type 0 where
  pub below : r ≤ end
  pub fine : (t : ℕ) → t < r → level_of u.n κ (line_at ws t).nonterminal ≡ k → ¬ BadLine u links result ws t
  pub bad : r < end → (level_of u.n κ (line_at ws r).nonterminal ≡ k) × BadLine u links result ws r
  pub marks : r ≡ end → MarksOf u links κ result k ws end marks'

-- ---- what is not marked

-- v is a string of vs that is not marked
pub record FreeIn (vs : List ℕ) (marks : List ℕ) (i v : ℕ) : Type 0 where
  pub j : ℕ
  pub inside : j < length vs
  pub is : get_or vs j 0 ≡ v
  pub free : is_marked marks (mark_of i j) ≡ false

-- the first of n marks of production i that is not set
pub data FirstFree (marks : List ℕ) (i n : ℕ) (r : Option ℕ) : Type 0 where
  none : r ≡ None → ((h : ℕ) → h < n → is_marked marks (mark_of i h) ≡ true) → FirstFree marks i n r
  some : (j : ℕ) → r ≡ Some j → j < n → ((h : ℕ) → h < j → is_marked marks (mark_of i h) ≡ true) → is_marked marks (mark_of i j) ≡ false → FirstFree marks i n r

-- the least string of vs that is not marked was taken where it is below the best so far
pub data Improved (vs marks : List ℕ) (i : ℕ) (best r : Option Terminals) : Type 0 where
  none : ((v : ℕ) → ¬ FreeIn vs marks i v) → r ≡ best → Improved vs marks i best r
  worse : (y : Terminals) → best ≡ Some y → ((v : ℕ) → FreeIn vs marks i v → number_of y ≤ v) → r ≡ best → Improved vs marks i best r
  better :
      (x : Terminals) → r ≡ Some x → FreeIn vs marks i (number_of x) → ((v : ℕ) → FreeIn vs marks i v → number_of x ≤ v)
      → ((y : Terminals) → best ≡ Some y → number_of x ≤ number_of y) → x.lo < 2 ^ 64 → Improved vs marks i best r

-- v is a string of A's that is not marked, of a production below `end`
pub record Free (u : Layout) (links : Links) (result marks : List ℕ) (A end v : ℕ) : Type 0 where
  pub i : ℕ
  pub below : i < end
  pub inside : i < u.p
  pub own : left_at links i ≡ A
  pub here : FreeIn (numbers_at u result i) marks i v

-- the least of these, or none
pub record Least (u : Layout) (links : Links) (result marks : List ℕ) (A end : ℕ) (l : Option Terminals) : Type 0 where
  pub none : l ≡ None → (v : ℕ) → ¬ Free u links result marks A end v
  pub some : (x : Terminals) → l ≡ Some x → Free u links result marks A end (number_of x)
  pub least : (x : Terminals) → l ≡ Some x → (v : ℕ) → Free u links result marks A end v → number_of x ≤ v
  pub fits : (x : Terminals) → l ≡ Some x → x.lo < 2 ^ 64

-- what was missed so far comes before the nonterminals behind it
abbrev pub end_of : ℕ → Option Missed → ℕ
end_of n (Some m) = m.nonterminal
end_of n None = n

-- the first nonterminal of level k with such a string, before the one that was told so far
pub data Lacked (u : Layout) (links : Links) (κ result marks : List ℕ) (k : ℕ) (m r : Option Missed) : Type 0 where
  none : ((A : ℕ) → A < end_of u.n m → get_or κ A 0 ≡ k → (v : ℕ) → ¬ Free u links result marks A u.p v) → r ≡ m → Lacked u links κ result marks k m r
  some :
      (x : Missed) → r ≡ Some x → x.nonterminal < end_of u.n m → get_or κ x.nonterminal 0 ≡ k → Free u links result marks x.nonterminal u.p (number_of x.string)
      → ((v : ℕ) → Free u links result marks x.nonterminal u.p v → number_of x.string ≤ v)
      → ((A : ℕ) → A < x.nonterminal → get_or κ A 0 ≡ k → (v : ℕ) → ¬ Free u links result marks A u.p v) → x.string.lo < 2 ^ 64 → Lacked u links κ result marks k m r
