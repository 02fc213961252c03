-- What is promised of the call. Each promise is a definition here, and a theorem of that type in proofs/Kept.antt. Assumes nothing.
use Rattle.std.specs.Prelude.{ℕ, ◌<◌, ◌≡◌, ◌↔◌, true, List, [], ◌∷◌, length}
use Rattle.cfg.specs.Grammar.{Grammar}
use Rattle.k_tuple.specs.Strings.{Str, well_formed}
use Rattle.k_tuple.specs.Packed.{packed}
use Rattle.k_tuples.specs.Sets.{◌∈◌}
use Rattle.k_tuples.specs.Work.{Answer, got, refused}
use Rattle.engine.specs.Call.{result_needed, scratch_needed, wiped}
use Rattle.decision_theory.specs.Needed.{Decided, Reads, decisions}
use Rattle.decision_theory.specs.Automaton.{AllAre, LowestRefused}
use Rattle.decision_theory.specs.Marking.{Row, row_at, AllGiven, Bad, FirstBad, FirstMissing, Mark as Marking, CallMarked, automata_rows}
use Rattle.marking.specs.Rows.{rows_in}
use Rattle.marking.specs.Call.{Record, width_in, record_of, Promised}

-- Two outcomes of one input are the same, in all numbers and every lent word.
abbrev pub MarkOne : Type 0
MarkOne = (limit c : ℕ) (table rows result scratch : List ℕ) (r s : Record) (R S R' S' : List ℕ)
    → Promised limit c table rows result scratch r R S → Promised limit c table rows result scratch s R' S' → (r ≡ s) × (R ≡ R') × (S ≡ S')

-- what holds for every outcome
abbrev Always : ((limit c : ℕ) (table rows result scratch : List ℕ) (r : Record) (R S : List ℕ) → Type 0) → Type 0
Always P = (limit c : ℕ) (table rows result scratch : List ℕ) (r : Record) (R S : List ℕ) → Promised limit c table rows result scratch r R S → P limit c table rows result scratch r R S

-- The record is that of the answer which the rules give; it is one only.
pub record Answers (limit c : ℕ) (table rows result scratch : List ℕ) (r : Record) : Type 0 where
  pub case : Answer Marking
  pub answered : CallMarked limit c table (length result) (length scratch) (rows_in (width_in table) rows) case
  pub told : r ≡ record_of (width_in table) case

abbrev pub MarkAnswers : Type 0
MarkAnswers = Always (λ limit c table rows result scratch r R S. Answers limit c table rows result scratch r)

-- ---- refusals

-- A refusal of the whole call by K3 is passed on,
abbrev pub WholePassed : Type 0
WholePassed = Always (λ limit c table rows result scratch r R S. (x : ℕ) → decisions limit c table (length result) (length scratch) ≡ refused x → r.refusal ≡ x)

-- and so is the lowest nonterminal's.
abbrev pub LowestPassed : Type 0
LowestPassed = Always (λ limit c table rows result scratch r R S. (x : ℕ) → LowestRefused limit c table (length result) (length scratch) x → r.refusal ≡ x)

-- K3 decides every nonterminal of the table's grammar, and for the rows this holds.
pub record Decides (limit c : ℕ) (table rows result scratch : List ℕ) (P : Grammar → List Row → Type 0) : Type 0 where
  pub ds : List Decided
  pub decided : AllAre limit c table (length result) (length scratch) ds
  pub g : Grammar
  pub reads : Reads table g
  pub holds : P g (rows_in (width_in table) rows)

-- 0 exactly when K3 decides every nonterminal and the rows give each string of its sets its one production, hold nothing else, and none twice.
abbrev pub AcceptedExactly : Type 0
AcceptedExactly = Always (λ limit c table rows result scratch r R S. (r.refusal ≡ 0) ↔ Decides limit c table rows result scratch (λ g ρ. AllGiven g ρ))

-- 24 with row i exactly when K3 decides every nonterminal and row i is the first bad one.
abbrev pub TwentyFourExactly : Type 0
TwentyFourExactly = Always (λ limit c table rows result scratch r R S. (i : ℕ)
    → ((r.refusal ≡ 24) × (r.row ≡ i)) ↔ Decides limit c table rows result scratch (λ g ρ. FirstBad g ρ i))

-- No row is bad, and a string is the first that is missing, of the nonterminal that is told and with the two words that are told.
pub record MissingTold (g : Grammar) (w : ℕ) (ρ : List Row) (r : Record) : Type 0 where
  pub none-bad : (i : ℕ) → ¬ Bad g ρ i
  pub z : Str
  pub first : FirstMissing g ρ r.nonterminal z
  pub low : r.lo ≡ (packed w z).lo
  pub high : r.hi ≡ (packed w z).hi

-- 25 is told so,
abbrev pub TwentyFiveTold : Type 0
TwentyFiveTold = Always (λ limit c table rows result scratch r R S. r.refusal ≡ 25 → Decides limit c table rows result scratch (λ g ρ. MissingTold g (width_in table) ρ r))

-- and given whenever K3 decides every nonterminal, no row is bad and a string is missing.
abbrev pub TwentyFiveGiven : Type 0
TwentyFiveGiven = Always (λ limit c table rows result scratch r R S. (A : ℕ) (z : Str)
    → Decides limit c table rows result scratch (λ g ρ. ((i : ℕ) → ¬ Bad g ρ i) × FirstMissing g ρ A z)
    → r ≡ record { refusal = 25; row = 0; nonterminal = A; lo = (packed (width_in table) z).lo; hi = (packed (width_in table) z).hi })

-- Every number that does not apply is 0.
abbrev pub OthersZero : Type 0
OthersZero = Always (λ limit c table rows result scratch r R S.
    (¬ r.refusal ≡ 24 → r.row ≡ 0) × (¬ r.refusal ≡ 25 → (r.nonterminal ≡ 0) × (r.lo ≡ 0) × (r.hi ≡ 0)))

-- ---- the buffers

-- A refusal of the whole call by K3 leaves both as they came; any other answer wipes what the engine needs.
abbrev pub BuffersUntouched : Type 0
BuffersUntouched = Always (λ limit c table rows result scratch r R S. (x : ℕ) → decisions limit c table (length result) (length scratch) ≡ refused x → (R ≡ result) × (S ≡ scratch))

abbrev pub BuffersWiped : Type 0
BuffersWiped = Always (λ limit c table rows result scratch r R S. (ms : List (Answer Decided)) → decisions limit c table (length result) (length scratch) ≡ got ms
    → (R ≡ wiped (result_needed c table) result) × (S ≡ wiped (scratch_needed c table) scratch))

-- ---- rows in words

-- Rows written in words.
unfoldable pub words_of : ℕ → List Row → List ℕ
words_of w [] = []
words_of w (x ∷ ρ) = x.nonterminal ∷ (packed w x.string).lo ∷ (packed w x.string).hi ∷ x.production ∷ words_of w ρ

-- Rows whose strings are well formed are read from their words as they were.
abbrev pub RowsRead : Type 0
RowsRead = (w : ℕ) (ρ : List Row) → ((x : Row) → x ∈ ρ → well_formed w x.string ≡ true) → rows_in w (words_of w ρ) ≡ ρ

-- ---- the automata of K6

-- Their rows, those with k = 0 left aside, in any order and none twice, are accepted.
abbrev pub AutomataAccepted : Type 0
AutomataAccepted = Always (λ limit c table rows result scratch r R S. (ds : List Decided) → AllAre limit c table (length result) (length scratch) ds
    → ((x : Row) → x ∈ rows_in (width_in table) rows ↔ x ∈ automata_rows ds)
    → ((i j : ℕ) → i < j → j < length (rows_in (width_in table) rows) → ¬ (row_at (rows_in (width_in table) rows) i ≡ row_at (rows_in (width_in table) rows) j))
    → r.refusal ≡ 0)

-- So, outright, are those rows written in words.
abbrev pub WrittenAccepted : Type 0
WrittenAccepted = (limit c : ℕ) (table : List ℕ) (ρ : List Row) (result scratch : List ℕ) (r : Record) (R S : List ℕ)
    → Promised limit c table (words_of (width_in table) ρ) result scratch r R S
    → (ds : List Decided) → AllAre limit c table (length result) (length scratch) ds
    → ((x : Row) → x ∈ ρ ↔ x ∈ automata_rows ds) → ((i j : ℕ) → i < j → j < length ρ → ¬ (row_at ρ i ≡ row_at ρ j)) → r.refusal ≡ 0
