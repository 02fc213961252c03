-- What is promised of the call. Each promise is a definition here, and a theorem of that type in proofs/Kept.antt. Assumes nothing.
use Rattle.std.specs.Prelude.{ℕ, ◌≤◌, ◌<◌, ◌≡◌, ◌⊎◌, ◌↔◌, List, ◌++◌, map, length, drop}
use Rattle.k_tuples.specs.Work.{Answer, got, refused}
use Rattle.engine.specs.Call.{result_needed, scratch_needed, wiped}
use Rattle.decision_theory.specs.Needed.{Decided, decisions}
use Rattle.decision_theory.specs.Automaton.{automaton, automata_bytes, AllAre, LowestRefused, AllSmall, AutomataAnswered}
use Rattle.decision_theory.specs.Promises.{RightAutomata}
use Rattle.automaton.specs.Call.{Automata, record_of, bytes_after, Promised}

-- Two outcomes of one input are the same, in both numbers, every lent byte and every lent word.
abbrev pub AutomataOne : Type 0
AutomataOne = (limit c : ℕ) (table out result scratch : List ℕ) (r s : Automata) (O R S O' R' S' : List ℕ)
    → Promised limit c table out result scratch r O R S → Promised limit c table out result scratch s O' R' S' → (r ≡ s) × (O ≡ O') × (R ≡ R') × (S ≡ S')

-- what holds for every outcome
abbrev Always : ((limit c : ℕ) (table out result scratch : List ℕ) (r : Automata) (O R S : List ℕ) → Type 0) → Type 0
Always P = (limit c : ℕ) (table out result scratch : List ℕ) (r : Automata) (O R S : List ℕ) → Promised limit c table out result scratch r O R S → P limit c table out result scratch r O R S

-- The record and the bytes are those of the answer which the rules give; it is one only.
pub record Answers (limit c : ℕ) (table out result scratch : List ℕ) (r : Automata) (O : List ℕ) : Type 0 where
  pub case : Answer (List ℕ)
  pub answered : AutomataAnswered limit c table (length result) (length scratch) (length out) case
  pub told : r ≡ record_of case
  pub bytes : O ≡ bytes_after out case

abbrev pub AutomataAnswers : Type 0
AutomataAnswers = Always (λ limit c table out result scratch r O R S. Answers limit c table out result scratch r O)

-- ---- refusals

-- A refusal of the whole call by K3 is passed on,
abbrev pub WholePassed : Type 0
WholePassed = Always (λ limit c table out result scratch r O R S. (x : ℕ) → decisions limit c table (length result) (length scratch) ≡ refused x → r.refusal ≡ x)

-- and so is the lowest nonterminal's.
abbrev pub LowestPassed : Type 0
LowestPassed = Always (λ limit c table out result scratch r O R S. (x : ℕ) → LowestRefused limit c table (length result) (length scratch) x → r.refusal ≡ x)

-- K3 decides every nonterminal, and these are the decisions.
abbrev Decides : (limit c : ℕ) (table result scratch : List ℕ) → (List Decided → Type 0) → Type 0
Decides limit c table result scratch P = (ds : List Decided) × AllAre limit c table (length result) (length scratch) ds × P ds

-- 23 exactly when K3 decides every nonterminal and one tree has more than 2,048 states.
abbrev pub TwentyThreeExactly : Type 0
TwentyThreeExactly = Always (λ limit c table out result scratch r O R S. (r.refusal ≡ 23) ↔ Decides limit c table result scratch (λ ds. ¬ AllSmall ds))

-- 10 exactly when K3 gives it, or when every tree is small and there are too few bytes.
abbrev pub TenExactly : Type 0
TenExactly = Always (λ limit c table out result scratch r O R S. (r.refusal ≡ 10)
    ↔ ((decisions limit c table (length result) (length scratch) ≡ refused 10)
    ⊎ Decides limit c table result scratch (λ ds. AllSmall ds × (length out < length (automata_bytes (map automaton ds))))))

-- For any refusal nothing is written.
abbrev pub NothingWritten : Type 0
NothingWritten = Always (λ limit c table out result scratch r O R S. ¬ r.refusal ≡ 0 → (r.bytes ≡ 0) × (O ≡ out))

-- ---- the buffers

-- A refusal of the whole call by K3 leaves both as they came; any other answer wipes what the engine needs.
abbrev pub BuffersUntouched : Type 0
BuffersUntouched = Always (λ limit c table out result scratch r O R S. (x : ℕ) → decisions limit c table (length result) (length scratch) ≡ refused x → (R ≡ result) × (S ≡ scratch))

abbrev pub BuffersWiped : Type 0
BuffersWiped = Always (λ limit c table out result scratch r O R S. (ms : List (Answer Decided)) → decisions limit c table (length result) (length scratch) ≡ got ms
    → (R ≡ wiped (result_needed c table) result) × (S ≡ wiped (scratch_needed c table) scratch))

-- ---- what is written

-- The automata of all nonterminals in turn, each of at most 2,048 states; the bytes behind them as they came. Each is that of its nonterminal's joined sets:
-- targets are later states, walking any string of a set reaches its production and no other string reaches one, and so on.
pub record WrittenRight (limit c : ℕ) (table out result scratch : List ℕ) (r : Automata) (O : List ℕ) : Type 0 where
  pub ds : List Decided
  pub decided : AllAre limit c table (length result) (length scratch) ds
  pub small : AllSmall ds
  pub automata-right : RightAutomata table ds
  pub count : r.bytes ≡ length (automata_bytes (map automaton ds))
  pub room : r.bytes ≤ length out
  pub written : O ≡ automata_bytes (map automaton ds) ++ drop r.bytes out

abbrev pub NotRefused : Type 0
NotRefused = Always (λ limit c table out result scratch r O R S. r.refusal ≡ 0 → WrittenRight limit c table out result scratch r O)
