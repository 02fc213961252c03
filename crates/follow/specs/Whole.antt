-- What the whole work of FOLLOW does to the two lent buffers, by the theory's `follow` and `position_sets`. Assumes nothing.
use Rattle.std.specs.Prelude.{ℕ, List, ◌≡◌, Result}
use Rattle.k_tuples.specs.States.{State}
use Rattle.k_tuples.specs.Work.{Answer, refused, got, ◌>>=◌, Settling}
use Rattle.k_tuples.specs.Blocks.{IsStored}
use Rattle.refusals.specs.declared.Refusal.{Refusal}
use Rattle.first.specs.declared.Setup.{Setup}
use Rattle.first.specs.Steps.{past_result, past_scratch, old_sets, room, OrTooLarge}
use Rattle.follow_theory.specs.Follow.{follow, position_sets}
use Rattle.follow.specs.Suffixes.{Suffixes}
use Rattle.first.specs.Rounds.{grammar_in}
use Rattle.follow.specs.Steps.{first_sets, occurrences, InRow}

-- the theory's answers, over the FIRST sets that the result holds
abbrev pub follow_of : Setup → ℕ → (words result : List ℕ) → Answer Settling
follow_of u k words result = follow (room u) k (grammar_in u words) (old_sets u result)

abbrev pub positions_of : Setup → ℕ → (words result : List ℕ) → State → Answer State
positions_of u k words result F = position_sets (room u) k (old_sets u result) (occurrences u words) F

-- ---- FOLLOW

-- so many rounds gave the sets; the positions have their suffix sets
pub record FollowDone (u : Setup) (k : ℕ) (words : List ℕ) (rounds : ℕ) (result result' scratch' : List ℕ) : Type 0 where
  pub sets : State
  pub places : State
  pub made : follow_of u k words result ≡ got (record { sets = sets; rounds = rounds })
  pub suffixes : Suffixes (room u) k (old_sets u result) (occurrences u words) places
  pub row : InRow u k (first_sets u result) sets places result result'
  pub store : IsStored k u.w u.b u.ssets scratch'

-- or it is refusal 11
pub record Followed (u : Setup) (k : ℕ) (words : List ℕ) (r : Result ℕ Refusal) (result scratch result' scratch' : List ℕ) : Type 0 where
  pub ends : OrTooLarge r (follow_of u k words result ≡ refused 11) (λ rounds. FollowDone u k words rounds result result' scratch')
  pub result-beyond : past_result u result' ≡ past_result u result
  pub scratch-beyond : past_scratch u scratch' ≡ past_scratch u scratch

-- ---- FOLLOW and the positions

-- so many rounds gave the sets, and the positions have theirs; the FIRST sets are as they were, and the scratch holds any sets
pub record PositionsDone (u : Setup) (k : ℕ) (words : List ℕ) (rounds : ℕ) (result result' scratch' : List ℕ) : Type 0 where
  pub sets : State
  pub places : State
  pub made : follow_of u k words result ≡ got (record { sets = sets; rounds = rounds })
  pub placed : positions_of u k words result sets ≡ got places
  pub row : InRow u k (first_sets u result) sets places result result'
  pub store : IsStored k u.w u.b u.ssets scratch'

-- or one of the two answers is refusal 11
pub record Positioned (u : Setup) (k : ℕ) (words : List ℕ) (r : Result ℕ Refusal) (result scratch result' scratch' : List ℕ) : Type 0 where
  pub ends : OrTooLarge r ((follow_of u k words result >>= λ end. positions_of u k words result end.sets) ≡ refused 11) (λ rounds. PositionsDone u k words rounds result result' scratch')
  pub result-beyond : past_result u result' ≡ past_result u result
  pub scratch-beyond : past_scratch u scratch' ≡ past_scratch u scratch
