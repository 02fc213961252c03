-- What is promised of the call. Each promise is a definition here, and a theorem of that type in proofs/Kept.antt. Assumes nothing.
use Rattle.std.specs.Prelude.{ℕ, suc, ◌≤◌, ◌<◌, ◌≡◌, ◌⊎◌, ◌↔◌, List, length, get_or}
use Rattle.cfg.specs.Grammar.{Grammar, Accepted}
use Rattle.k_tuples.specs.Work.{Answer, refused}
use Rattle.analysis.specs.Analysis.{analyse}
use Rattle.analysis.specs.Promises.{Between}
use Rattle.engine.specs.Call.{result_needed, scratch_needed, wiped}
use Rattle.decision_theory.specs.Needed.{Reads, OneProduction, Needs, WorkedOut, NoneBelow, NotWorkedOut, Answered, CallAnswered}
use Rattle.decision.specs.Call.{Record, refusal_of, k_of, record_of, Promised}

-- Two outcomes of one input are the same, in every number and every lent word.
abbrev pub CallOne : Type 0
CallOne = (limit c : ℕ) (table result scratch : List ℕ) (r s : Record) (R S R' S' : List ℕ)
    → Promised limit c table result scratch r R S → Promised limit c table result scratch s R' S' → (r ≡ s) × (R ≡ R') × (S ≡ S')

-- what holds for every outcome
abbrev Always : ((limit c : ℕ) (table result scratch : List ℕ) (r : Record) (R S : List ℕ) → Type 0) → Type 0
Always P = (limit c : ℕ) (table result scratch : List ℕ) (r : Record) (R S : List ℕ) → Promised limit c table result scratch r R S → P limit c table result scratch r R S

-- The record is that of the answer which the rules give, by the sets alone; it is one only.
pub record Answers (limit c : ℕ) (table result scratch : List ℕ) (r : Record) : Type 0 where
  pub case : Answer (List (Answer ℕ))
  pub answered : CallAnswered limit c table (length result) (length scratch) case
  pub told : r ≡ record_of case

abbrev pub CallAnswers : Type 0
CallAnswers = Always (λ limit c table result scratch r R S. Answers limit c table result scratch r)

-- ---- refusals of the whole call

-- 1 exactly when the limit is outside 1 to 10.
abbrev pub LimitExactly : Type 0
LimitExactly = Always (λ limit c table result scratch r R S. (r.refusal ≡ 1) ↔ (¬ Between 1 10 limit))

-- 2 to 10 exactly when the engine gives them.
abbrev pub AsEngineExactly : Type 0
AsEngineExactly = Always (λ limit c table result scratch r R S. Between 1 10 limit → (x : ℕ) → Between 2 10 x
    → (r.refusal ≡ x) ↔ (analyse 1 c table (length result) (length scratch) ≡ refused x))

-- Such a refusal is 1 to 10 and leaves both buffers as they came.
abbrev pub RefusedUntouched : Type 0
RefusedUntouched = Always (λ limit c table result scratch r R S. ¬ r.refusal ≡ 0 → Between 1 10 r.refusal × (r.n ≡ 0) × (R ≡ result) × (S ≡ scratch))

-- ---- the nonterminals

-- What is answered for one nonterminal: its two numbers tell an answer, which is the one of the rules.
pub record AnswerAt (g : Grammar) (limit c : ℕ) (r : Record) (A : ℕ) : Type 0 where
  pub answer : Answer ℕ
  pub refusal : get_or r.refusals A 0 ≡ refusal_of answer
  pub k : get_or r.ks A 0 ≡ k_of answer
  pub answered : Answered g c limit A answer

-- A call that is not refused: each nonterminal of the table's grammar is answered, the numbers behind them are 0, and the words that the engine needs are zero.
pub record AnsweredEach (limit c : ℕ) (table result scratch : List ℕ) (r : Record) (R S : List ℕ) : Type 0 where
  pub g : Grammar
  pub reads : Reads table g
  pub accepted : Accepted g
  pub n : r.n ≡ g.n
  pub each : (A : ℕ) → A < g.n → AnswerAt g limit c r A
  pub behind : (A : ℕ) → g.n ≤ A → (get_or r.refusals A 0 ≡ 0) × (get_or r.ks A 0 ≡ 0)
  pub result-wiped : R ≡ wiped (result_needed c table) result
  pub scratch-wiped : S ≡ wiped (scratch_needed c table) scratch

abbrev pub NotRefused : Type 0
NotRefused = Always (λ limit c table result scratch r R S. r.refusal ≡ 0 → AnsweredEach limit c table result scratch r R S)

-- What its two numbers say of a nonterminal: the refusal is 0, 11 or 22, each exactly when; where it is 0 the k is the one that is needed, and 0 exactly
-- where there is one production; else it is 0.
pub record Told (g : Grammar) (limit c : ℕ) (A refusal k : ℕ) : Type 0 where
  pub refusals : (refusal ≡ 0) ⊎ ((refusal ≡ 11) ⊎ (refusal ≡ 22))
  pub needs : refusal ≡ 0 → Needs g A k
  pub found : (j : ℕ) → Needs g A j → j ≤ limit → ((i : ℕ) → 1 ≤ i → i ≤ j → WorkedOut g c A i) → (refusal ≡ 0) × (k ≡ j)
  pub none : ¬ refusal ≡ 0 → k ≡ 0
  pub zero-exactly : ((refusal ≡ 0) × (k ≡ 0)) ↔ OneProduction g A
  pub eleven-exactly : (refusal ≡ 11) ↔ (¬ OneProduction g A × NotWorkedOut g c limit A)
  pub twenty-two-exactly : (refusal ≡ 22) ↔ (¬ OneProduction g A × NoneBelow g c A (suc limit))

abbrev pub ToldRight : Type 0
ToldRight = (g : Grammar) (limit c : ℕ) (r : Record) (A : ℕ) → AnswerAt g limit c r A → Told g limit c A (get_or r.refusals A 0) (get_or r.ks A 0)
