-- What the levels of FIRST, and the sets of the productions behind them, do to the two lent buffers. Assumes nothing.
use Rattle.std.specs.Prelude.{◌≡◌, List, ◌++◌, ℕ, ◌+◌, ◌-◌, take, drop, replicate, Result, Ok, Err}
use Rattle.k_tuples.specs.States.{State}
use Rattle.k_tuples.specs.Work.{Answer, refused, got, Settling}
use Rattle.refusals.specs.Numbers.{number}
use Rattle.refusals.specs.declared.Refusal.{Refusal}
use Rattle.blocks.specs.Stores.{Turned}
use Rattle.first_theory.specs.Compute.{Worked}
use Rattle.first.specs.declared.Setup.{Setup}
use Rattle.first.specs.Steps.{result_sets, old_sets, past_result, past_scratch, OrTooLarge}
use Rattle.first.specs.Rounds.{new_sets, InResult, InScratch}

-- only the sets of the nonterminals, set at of the result, and the first n + 1 of the scratch have changed; they are sets at k
pub record Moved (u : Setup) (at k : ℕ) (result scratch result' scratch' : List ℕ) : Type 0 where
  pub in-result : InResult u at k (old_sets u result') result result'
  pub in-scratch : InScratch u k (new_sets u scratch') scratch scratch'

-- the sets settled after so many rounds, and the result has got them; or the answer is a refusal
abbrev pub LevelEnds : Setup → (at k : ℕ) → Answer Settling → Result ℕ Refusal → (result scratch result' scratch' : List ℕ) → Type 0
LevelEnds u at k answer (Ok rounds) result scratch result' scratch' =
    (answer ≡ got (record { sets = old_sets u result'; rounds = rounds })) × Moved u at k result scratch result' scratch'
LevelEnds u at k answer (Err e) result scratch result' scratch' = answer ≡ refused (number e)

pub record Levelled (u : Setup) (at k : ℕ) (answer : Answer Settling) (r : Result ℕ Refusal) (result scratch result' scratch' : List ℕ) : Type 0 where
  pub ends : LevelEnds u at k answer r result scratch result' scratch'
  pub result-beyond : past_result u result' ≡ past_result u result
  pub scratch-beyond : past_scratch u scratch' ≡ past_scratch u scratch

-- ---- all levels

-- the sets settled at each of k levels, and the result has got them
pub record LevelsDone (u : Setup) (at k : ℕ) (answer : Answer Worked) (rounds : List ℕ) (result scratch result' scratch' : List ℕ) : Type 0 where
  pub made : answer ≡ got (record { sets = old_sets u result'; rounds = take k rounds })
  pub unused : drop k rounds ≡ replicate (10 - k) 0
  pub moved : Moved u at k result scratch result' scratch'

-- or one of them was refused
abbrev pub LevelsEnd : Setup → (at k : ℕ) → Answer Worked → Result (List ℕ) Refusal → (result scratch result' scratch' : List ℕ) → Type 0
LevelsEnd u at k answer (Ok rounds) result scratch result' scratch' = LevelsDone u at k answer rounds result scratch result' scratch'
LevelsEnd u at k answer (Err e) result scratch result' scratch' = answer ≡ refused (number e)

pub record LevelsRun (u : Setup) (at k : ℕ) (answer : Answer Worked) (r : Result (List ℕ) Refusal) (result scratch result' scratch' : List ℕ) : Type 0 where
  pub ends : LevelsEnd u at k answer r result scratch result' scratch'
  pub result-beyond : past_result u result' ≡ past_result u result
  pub scratch-beyond : past_scratch u scratch' ≡ past_scratch u scratch

-- ---- the productions

-- the answer is a list of sets, which stand from set n of the result on
pub record Production (u : Setup) (k : ℕ) (answer : Answer State) (result scratch result' scratch' : List ℕ) : Type 0 where
  pub products : State
  pub made : answer ≡ got products
  pub held : Turned k u.w u.b u.rsets (old_sets u result ++ (products ++ drop (u.n + u.p) (result_sets u result))) result result'
  pub in-scratch : InScratch u k (new_sets u scratch) scratch scratch'

-- or a set was too large
pub record Produced (u : Setup) (k : ℕ) (answer : Answer State) (r : Result (Unit {0}) Refusal) (result scratch result' scratch' : List ℕ) : Type 0 where
  pub ends : OrTooLarge r (answer ≡ refused 11) (λ _. Production u k answer result scratch result' scratch')
  pub result-beyond : past_result u result' ≡ past_result u result
  pub scratch-beyond : past_scratch u scratch' ≡ past_scratch u scratch
