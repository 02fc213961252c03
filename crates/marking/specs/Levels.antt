-- What is found at one level, in the terms of the grammar: the first bad row of that level, and the first string of it without a row. Not for the reader
-- of the call. Assumes nothing.
use Rattle.std.specs.Prelude.{ℕ, ◌+◌, ◌*◌, ◌/◌, ◌^◌, ◌≤◌, ◌<◌, ◌≡◌, cond, ◌⊎◌, ◌↔◌, List, ltb, length, get_or, Option, Some, None}
use Rattle.cfg.specs.Grammar.{Grammar}
use Rattle.k_tuple.specs.Strings.{Str, pack, width_of}
use Rattle.k_tuple.specs.Packed.{number_of}
use Rattle.k_tuple.specs.Order.{◌≺◌}
use Rattle.k_tuples.specs.Sets.{◌∈◌}
use Rattle.k_tuples.specs.Blocks.{IsStored}
use Rattle.decision.specs.declared.Links.{Links}
use Rattle.decision.specs.declared.Layout.{Layout}
use Rattle.decision.specs.Own.{left_at}
use Rattle.engine.specs.Call.{wiped}
use Rattle.decision.specs.Steps.{held, production_set, Beyond}
use Rattle.k_tuples.specs.Work.{got}
use Rattle.decision.specs.Onward.{Wiped}
use Rattle.decision_theory.specs.Marking.{Row, Wanted, row_at, Bad, Marked, Mark as Marking}
use Rattle.marking.specs.Lines.{Stand, level_of, end_of}
use Rattle.marking.specs.Rows.{rows_in}
use Rattle.marking.specs.Call.{Record, record_of}
use Rattle.marking.specs.declared.Found.{Found}
use Rattle.marking.specs.declared.lack.Missed.{Missed}

-- a row by its three parts
abbrev pub row_of : ℕ → Str → ℕ → Row
row_of A z i = record { nonterminal = A; string = z; production = i }

-- the sets of level k stand in the result, of width w: a string is in a production's set just when its row is wanted
pub record Stands (g : Grammar) (w k : ℕ) (u : Layout) (links : Links) (κ result : List ℕ) : Type 0 where
  pub stand : Stand u links κ result
  pub at : ℕ
  pub store : IsStored at w u.b u.sets result
  pub wants : (i : ℕ) → i < u.p → get_or κ (left_at links i) 0 ≡ k → (z : Str) → (z ∈ production_set u (held u result) i) ↔ Wanted g (row_of (left_at links i) z i)
  pub own : (r : Row) → level_of u.n κ r.nonterminal ≡ k → Wanted g r → (r.production < u.p) × (left_at links r.production ≡ r.nonterminal)

-- r is the first bad row of level k below `end`, or `end`
pub record LevelChecked (g : Grammar) (rows : List Row) (n : ℕ) (κ : List ℕ) (k end r : ℕ) : Type 0 where
  pub below : r ≤ end
  pub fine : (t : ℕ) → t < r → level_of n κ (row_at rows t).nonterminal ≡ k → ¬ Bad g rows t
  pub bad : r < end → Bad g rows r

-- m tells the first string of its nonterminal without a row
pub record FirstOf (g : Grammar) (w : ℕ) (rows : List Row) (m : Missed) : Type 0 where
  pub z : Str
  pub i : ℕ
  pub told : number_of m.string ≡ pack w z
  pub fits : m.string.lo < 2 ^ 64
  pub wanted : Wanted g (row_of m.nonterminal z i)
  pub absent : ¬ (row_of m.nonterminal z i ∈ rows)
  pub earlier : (r : Row) → Wanted g r → r.nonterminal ≡ m.nonterminal → r.string ≺ z → r ∈ rows

-- level k was looked through for a nonterminal before the one told so far
pub record LevelMissed (g : Grammar) (w : ℕ) (rows : List Row) (n : ℕ) (κ : List ℕ) (k : ℕ) (m r : Option Missed) : Type 0 where
  pub whole : (s : Row) → Wanted g s → level_of n κ s.nonterminal ≡ k → s.nonterminal < end_of n r → s ∈ rows
  pub under : end_of n r ≤ end_of n m
  pub told : (x : Missed) → r ≡ Some x → (m ≡ Some x) ⊎ FirstOf g w rows x

-- ---- level by level

-- level k was looked through: its first bad row, and where no row is bad or cut off, the first string of it without a row
pub record LevelDone (g : Grammar) (w k : ℕ) (n : ℕ) (κ ws : List ℕ) (f r : Found) : Type 0 where
  pub checked : LevelChecked g (rows_in w ws) n κ k f.bad r.bad
  pub missed : 4 * r.bad ≡ length ws → LevelMissed g w (rows_in w ws) n κ k f.missed r.missed
  pub few : end_of n r.missed ≤ n

-- so for every grammar whose sets stand in the result
abbrev pub AtLevel : (k : ℕ) (u : Layout) (links : Links) (κ result ws : List ℕ) (f r : Found) → Type 0
AtLevel k u links κ result ws f r = (g : Grammar) (w : ℕ) → Stands g w k u links κ result → LevelDone g w k u.n κ ws f r

-- the result holds sets of the grammar's width; before level 0 it is wiped
pub record Before (g : Grammar) (u : Layout) (k : ℕ) (result : List ℕ) : Type 0 where
  pub at : ℕ
  pub store : IsStored at (width_of (g.t + 5)) u.b u.sets result
  pub zero : k ≡ 0 → result ≡ wiped (u.sets * u.b) result

-- the sets of level k were made to stand
pub record MadeStand (c : ℕ) (g : Grammar) (u : Layout) (k : ℕ) (links : Links) (κ result scratch result' scratch' : List ℕ) : Type 0 where
  pub stands : Stands g (width_of (g.t + 5)) k u links κ result'
  pub beyond : Beyond c g result scratch result' scratch'

-- and the level looked through
pub record Turn (c : ℕ) (g : Grammar) (u : Layout) (k : ℕ) (κ ws : List ℕ) (f r : Found) (result scratch result' scratch' : List ℕ) : Type 0 where
  pub done : LevelDone g (width_of (g.t + 5)) k u.n κ ws f r
  pub before : Before g u (k + 1) result'
  pub beyond : Beyond c g result scratch result' scratch'

-- what is known once all levels below k were looked through
pub record Finding (g : Grammar) (w k n : ℕ) (κ ws : List ℕ) (f : Found) : Type 0 where
  pub below : 4 * f.bad ≤ length ws
  pub fine : (t : ℕ) → t < f.bad → level_of n κ (row_at (rows_in w ws) t).nonterminal < k → ¬ Bad g (rows_in w ws) t
  pub bad : f.bad < length ws / 4 → Bad g (rows_in w ws) f.bad
  pub few : end_of n f.missed ≤ n
  pub whole : 4 * f.bad ≡ length ws → (s : Row) → Wanted g s → level_of n κ s.nonterminal < k → s.nonterminal < end_of n f.missed → s ∈ rows_in w ws
  pub told : 4 * f.bad ≡ length ws → (m : Missed) → f.missed ≡ Some m → FirstOf g w (rows_in w ws) m

-- after all levels
pub record AllFound (c : ℕ) (g : Grammar) (u : Layout) (κ ws : List ℕ) (r : Found) (result scratch result' scratch' : List ℕ) : Type 0 where
  pub found : Finding g (width_of (g.t + 5)) 11 u.n κ ws r
  pub beyond : Beyond c g result scratch result' scratch'

-- ---- the answer

-- what was missed, as the call tells it
abbrev pub missed_of : Option Missed → Record
missed_of (Some m) = record { refusal = 25; row = 0; nonterminal = m.nonterminal; lo = m.string.lo; hi = m.string.hi }
missed_of None = record { refusal = 0; row = 0; nonterminal = 0; lo = 0; hi = 0 }

-- what was found in so many words, as the call tells it
unfoldable pub told_of : (words : ℕ) → Found → Record
told_of words f = cond (ltb (4 * f.bad) words) (record { refusal = 24; row = f.bad; nonterminal = 0; lo = 0; hi = 0 }) (missed_of f.missed)

-- the mark that the rules give is told, and the buffers are wiped
pub record RowsMarked (c : ℕ) (g : Grammar) (ws result scratch : List ℕ) (r : Record) (result' scratch' : List ℕ) : Type 0 where
  pub answer : (x : Marking) → Marked g (rows_in (width_of (g.t + 5)) ws) x → r ≡ record_of (width_of (g.t + 5)) (got x)
  pub wiped-again : Wiped c g result scratch result' scratch'
