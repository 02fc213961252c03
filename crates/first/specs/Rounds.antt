-- What a round of FIRST does to the two lent buffers. Assumes nothing.
use Rattle.std.specs.Prelude.{◌≡◌, Bool, true, false, List, ℕ, ◌≤◌, set, take, Result}
use Rattle.k_tuples.specs.Sets.{union}
use Rattle.k_tuples.specs.States.{State, set_of, same_sets}
use Rattle.k_tuples.specs.Work.{Answer, refused, got, ◌>>=◌, within}
use Rattle.refusals.specs.declared.Refusal.{Refusal}
use Rattle.blocks.specs.Stores.{Front}
use Rattle.cfg.specs.Grammar.{Sym, Grammar, Ranged}
use Rattle.cfg.specs.Written.{productions_of}
use Rattle.cfg.specs.Words.{Sound}
use Rattle.first_theory.specs.Compute.{right_side}
use Rattle.first.specs.declared.Setup.{Setup}
use Rattle.first.specs.declared.round.Round.{Round}
use Rattle.first.specs.declared.round.Round.TheVariants.{Same, Changed}
use Rattle.first.specs.Steps.{scratch_sets, old_sets, past_result, past_scratch, room, OrTooLarge}

-- the new sets, which come first in the scratch
abbrev pub new_sets : Setup → List ℕ → State
new_sets u ws = take u.n (scratch_sets u ws)

-- the grammar whose productions stand in some words
abbrev pub grammar_in : Setup → List ℕ → Grammar
grammar_in u words = record { n = u.n; t = u.t; start = u.start; productions = productions_of u.p words }

-- words that the table's reader has made
pub record Rules (u : Setup) (words : List ℕ) : Type 0 where
  pub few : u.n ≤ 128
  pub short : u.p ≤ 512
  pub sound : Sound u.n u.p words
  pub ranged : Ranged (grammar_in u words)

-- the sets of the nonterminals have become these, in the result, and in the scratch, where set n is free
abbrev pub InResult : Setup → (at k : ℕ) → State → (result result' : List ℕ) → Type 0
InResult u at k F result result' = Front k u.w u.b u.rsets u.n at F result result'

abbrev pub InScratch : Setup → (k : ℕ) → State → (scratch scratch' : List ℕ) → Type 0
InScratch u k F scratch scratch' = Front k u.w u.b u.ssets u.n u.n F scratch scratch'

-- the new sets with one production more
abbrev pub add_one : Setup → ℕ → (old new : State) → ℕ → List Sym → Answer State
add_one u k old new left right = do
  a ← right_side (room u) k old right
  b ← within (room u) (union (set_of new left) a)
  got (set new left b)

-- the answer is a list of new sets, which the scratch has got
pub record Extension (u : Setup) (at k : ℕ) (answer : Answer State) (result scratch result' scratch' : List ℕ) : Type 0 where
  pub new : State
  pub made : answer ≡ got new
  pub in-result : InResult u at k (old_sets u result) result result'
  pub in-scratch : InScratch u k new scratch scratch'

-- the scratch has got new sets as the answer says, or a set was too large
pub record Extended (u : Setup) (at k : ℕ) (answer : Answer State) (r : Result (Unit {0}) Refusal) (result scratch result' scratch' : List ℕ) : Type 0 where
  pub ends : OrTooLarge r (answer ≡ refused 11) (λ _. Extension u at k answer result scratch result' scratch')
  pub result-beyond : past_result u result' ≡ past_result u result
  pub scratch-beyond : past_scratch u scratch' ≡ past_scratch u scratch

-- as the sets are the same or not
abbrev pub round_told : Bool → Round
round_told true = Same
round_told false = Changed

-- the answer is a list of sets, which both buffers have got, and the round tells whether they are those before it
pub record RoundDone (u : Setup) (at k : ℕ) (answer : Answer State) (r : Round) (result scratch result' scratch' : List ℕ) : Type 0 where
  pub new : State
  pub made : answer ≡ got new
  pub told : r ≡ round_told (same_sets new (old_sets u result))
  pub in-result : InResult u at k new result result'
  pub in-scratch : InScratch u k new scratch scratch'

-- or a set was too large
pub record Rounded (u : Setup) (at k : ℕ) (answer : Answer State) (r : Result Round Refusal) (result scratch result' scratch' : List ℕ) : Type 0 where
  pub ends : OrTooLarge r (answer ≡ refused 11) (λ told. RoundDone u at k answer told result scratch result' scratch')
  pub result-beyond : past_result u result' ≡ past_result u result
  pub scratch-beyond : past_scratch u scratch' ≡ past_scratch u scratch
