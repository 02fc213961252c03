-- Marking a hand-written prediction table: when it is accepted, the first bad row, the first missing string; and the rows of the automata. Assumes nothing.
use Rattle.std.specs.Prelude.{ℕ, zero, suc, ◌<◌, ◌≡◌, Bool, false, cond, not, ◌&&◌, ◌||◌, ◌⊎◌, List, [], ◌∷◌, ◌++◌, map, eqb, length, get_or}
use Rattle.std.proofs.Math.Dec.{compare_is_eq}
use Rattle.cfg.specs.Grammar.{Word, Grammar}
use Rattle.k_tuple.specs.Strings.{Str, eps}
use Rattle.k_tuple.specs.Order.{cmp, ◌≺◌}
use Rattle.k_tuples.specs.Sets.{◌∈◌, member, union}
use Rattle.k_tuples.specs.Work.{Answer, got, refused, ◌>>=◌}
use Rattle.first_theory.specs.Compute.{str}
use Rattle.decision_theory.specs.Needed.{Of, Ahead, OneProduction, Needs, Choice, Decided, Reads, decisions}
use Rattle.decision_theory.specs.Automaton.{Entry, Edge, State, state_at, automaton, all_decided, AllAre, LowestRefused}

-- A row of a prediction table.
pub record Row : Type 0 where
  pub nonterminal : ℕ
  pub string : Str
  pub production : ℕ

-- ---- the meaning

-- The row gives a string of a K3 set its production, for a nonterminal with more than one.
pub record Wanted (g : Grammar) (r : Row) : Type 0 where
  pub inside : r.nonterminal < g.n
  pub several : ¬ OneProduction g r.nonterminal
  pub own : Of g r.nonterminal r.production
  pub k : ℕ
  pub needs : Needs g r.nonterminal k
  pub word : Word
  pub spelled : r.string ≡ str word
  pub ahead : Ahead g k r.production word

-- By nonterminal and then string order.
abbrev pub Earlier : Row → Row → Type 0
Earlier r s = (r.nonterminal < s.nonterminal) ⊎ ((r.nonterminal ≡ s.nonterminal) × (r.string ≺ s.string))

-- Row number i, from 0.
abbrev pub row_at : List Row → ℕ → Row
row_at rows i = get_or rows i (record { nonterminal = 0; string = eps; production = 0 })

module _ (g : Grammar) (rows : List Row) where
  -- The rows give each string its one production, hold nothing else, and none twice.
  pub record AllGiven : Type 0 where
    pub wanted : (r : Row) → r ∈ rows → Wanted g r
    pub once : (i j : ℕ) → i < j → j < length rows → ¬ (row_at rows i ≡ row_at rows j)
    pub whole : (r : Row) → Wanted g r → r ∈ rows

  -- Row i is bad: it is not wanted, or was given before.
  abbrev pub Bad : ℕ → Type 0
  Bad i = (i < length rows) × ((¬ Wanted g (row_at rows i)) ⊎ ((j : ℕ) × (j < i) × (row_at rows j ≡ row_at rows i)))

  -- It is bad, and none before it is.
  abbrev pub FirstBad : ℕ → Type 0
  FirstBad i = Bad i × ((j : ℕ) → j < i → ¬ Bad j)

  -- The string is wanted and not given, and every row wanted earlier is given.
  pub record FirstMissing (A : ℕ) (z : Str) : Type 0 where
    pub i : ℕ
    pub wanted : Wanted g (record { nonterminal = A; string = z; production = i })
    pub absent : ¬ (record { nonterminal = A; string = z; production = i } ∈ rows)
    pub earlier : (r : Row) → Wanted g r → Earlier r (record { nonterminal = A; string = z; production = i }) → r ∈ rows

-- What a table is answered with: 24 with the row's number, 25 with the nonterminal and the string.
pub data Mark : Type 0 where
  accepted : Mark
  bad-row : ℕ → Mark
  missing : ℕ → Str → Mark

-- The number of the refusal.
abbrev pub refusal_of : Mark → ℕ
refusal_of accepted = 0
refusal_of (bad-row i) = 24
refusal_of (missing A z) = 25

-- What the mark is, exactly when: accepted; the first bad row; where no row is bad, the first missing string.
pub data Marked (g : Grammar) (rows : List Row) : Mark → Type 0 where
  all-given : AllGiven g rows → Marked g rows accepted
  first-bad : {i : ℕ} → FirstBad g rows i → Marked g rows (bad-row i)
  first-missing : {A : ℕ} {z : Str} → ((i : ℕ) → ¬ Bad g rows i) → FirstMissing g rows A z → Marked g rows (missing A z)

-- ---- the function

-- The strings of some choices, in order.
unfoldable pub strings_of : List Choice → List Str
strings_of [] = []
strings_of (x ∷ xs) = union (strings_of xs) x.ahead

-- The production whose set holds a string.
unfoldable pub production_for : Str → List Choice → ℕ
production_for z [] = 0
production_for z (x ∷ xs) = cond (member z x.ahead) x.production (production_for z xs)

-- The row for a string of A.
abbrev pub row_for : ℕ → List Choice → Str → Row
row_for A xs z = record { nonterminal = A; string = z; production = production_for z xs }

-- The rows wanted for A; none where k is 0.
unfoldable pub wanted_rows : ℕ → Decided → List Row
wanted_rows A d = cond (eqb d.k 0) [] (map (row_for A d.choices) (strings_of d.choices))

-- The rows for A, A + 1, .., in turn.
unfoldable pub rows_from : (ℕ → Decided → List Row) → ℕ → List Decided → List Row
rows_from rows_of A [] = []
rows_from rows_of A (d ∷ ds) = rows_of A d ++ rows_from rows_of (suc A) ds

-- The rows wanted, by nonterminal and then string order.
abbrev pub wanted_from : ℕ → List Decided → List Row
wanted_from = rows_from wanted_rows

-- The test of two rows.
abbrev pub same_row : Row → Row → Bool
same_row r s = eqb r.nonterminal s.nonterminal && (compare_is_eq (cmp r.string s.string) && eqb r.production s.production)

-- The row is among these.
unfoldable pub has : Row → List Row → Bool
has r [] = false
has r (s ∷ rows) = same_row r s || has r rows

-- The first of these rows, from number i on, that is not wanted or was seen before; where there is none, what follows.
unfoldable pub check_rows : (wanted seen : List Row) → ℕ → List Row → Mark → Mark
check_rows W seen i [] rest = rest
check_rows W seen i (r ∷ rows) rest = let more = check_rows W (r ∷ seen) (suc i) rows rest in cond (has r W && not (has r seen)) more (bad-row i)

-- The first wanted row that is not among the rows.
unfoldable pub first_absent : (wanted rows : List Row) → Mark
first_absent [] rows = accepted
first_absent (r ∷ W) rows = cond (has r rows) (first_absent W rows) (missing r.nonterminal r.string)

-- The first bad row, then the first that is absent.
unfoldable pub mark_rows : (wanted rows : List Row) → Mark
mark_rows W rows = check_rows W [] 0 rows (first_absent W rows)

-- As K3, the lowest nonterminal's refusal passed on; then the mark.
unfoldable pub mark : (limit c : ℕ) (table : List ℕ) (result scratch : ℕ) (rows : List Row) → Answer Mark
mark limit c table result scratch rows = do
  ms ← decisions limit c table result scratch
  ds ← all_decided ms
  got (mark_rows (wanted_from 0 ds) rows)

-- K3's refusals, passed on; else the mark that the rules give for the grammar of the table.
pub data CallMarked (limit c : ℕ) (table : List ℕ) (result scratch : ℕ) (rows : List Row) : Answer Mark → Type 0 where
  mark-refused : {r : ℕ} → decisions limit c table result scratch ≡ refused r → CallMarked limit c table result scratch rows (refused r)
  one-refused : {r : ℕ} → LowestRefused limit c table result scratch r → CallMarked limit c table result scratch rows (refused r)
  marked-as :
      {ds : List Decided} {g : Grammar} {x : Mark} → AllAre limit c table result scratch ds → Reads table g → Marked g rows x
      → CallMarked limit c table result scratch rows (got x)

-- ---- the automata, listed as rows

-- The string that ends at a state with this number.
abbrev pub accepted_here : ℕ → Word → List Entry
accepted_here zero x = []
accepted_here (suc i) x = record { word = x; production = i } ∷ []

-- What a function gives for each, in turn.
abbrev pub for_each : {X : Type 0} → (X → List Entry) → List X → List Entry
for_each f [] = []
for_each f (x ∷ xs) = f x ++ for_each f xs

-- The strings with a production that lead on from state s, which x leads to, by fewer than `depth` transitions.
unfoldable pub list_from : ℕ → List State → ℕ → Word → List Entry
list_from zero S s x = []
list_from (suc depth) S s x = accepted_here (state_at S s).accepting x ++ for_each (λ (e : Edge). list_from depth S e.to (x ++ e.by ∷ [])) (state_at S s).edges

-- A string with its production as a row of A's.
abbrev pub entry_row : ℕ → Entry → Row
entry_row A e = record { nonterminal = A; string = str e.word; production = e.production }

-- The rows of A's automaton; none where k is 0.
unfoldable pub automaton_rows : ℕ → Decided → List Row
automaton_rows A d = cond (eqb d.k 0) [] (map (entry_row A) (list_from (suc d.k) (automaton d) 0 []))

-- The rows of all automata.
abbrev pub automata_rows : List Decided → List Row
automata_rows ds = rows_from automaton_rows 0 ds
