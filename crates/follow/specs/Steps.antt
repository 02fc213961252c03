-- Where FOLLOW's sets stand in the two lent buffers, and what the steps of FOLLOW do to them. The result holds FIRST of the nonterminals and of
-- the productions, FOLLOW of the nonterminals, and a set for each position; while FOLLOW runs, that is the position's suffix set, and the
-- scratch begins with a copy of the FOLLOW sets. Assumes nothing.
use Rattle.std.specs.Prelude.{ℕ, ◌+◌, ◌≤◌, ◌<◌, Bool, true, false, List, ◌++◌, ◌≡◌, length, take, drop, set, Result}
use Rattle.k_tuple.specs.Strings.{Str}
use Rattle.k_tuples.specs.Sets.{union, join_sets}
use Rattle.k_tuples.specs.States.{State, set_of, same_sets}
use Rattle.k_tuples.specs.Words.{Growth, grown, is_full}
use Rattle.k_tuples.specs.Work.{Answer, refused, got, Settling}
use Rattle.k_tuples.specs.Blocks.{IsStored}
use Rattle.k_tuples.specs.declared.set.Grown.{Grown}
use Rattle.k_tuples.specs.declared.set.Grown.TheVariants.{Added, Same}
use Rattle.refusals.specs.declared.Refusal.{Refusal}
use Rattle.cfg.specs.Written.{productions_of}
use Rattle.blocks.specs.Stores.{Turned, Filled}
use Rattle.first.specs.declared.Setup.{Setup}
use Rattle.first.specs.Steps.{result_sets, scratch_sets, past_result, past_scratch, old_sets, room, Ready, OrTooLarge}
use Rattle.first.specs.Rounds.{Rules}
use Rattle.follow_theory.specs.Equations.{start}
use Rattle.follow_theory.specs.Follow.{Occurrence, occurrences_of}
use Rattle.follow.specs.Suffixes.{Suffixes}

-- ---- the layout

-- where the FOLLOW sets begin, and the sets of the positions
abbrev pub follow_at : Setup → ℕ
follow_at u = u.n + u.p

abbrev pub places_at : Setup → ℕ
places_at u = u.n + u.p + u.n

-- the FIRST sets, the FOLLOW sets and the sets of the positions
abbrev pub first_sets : Setup → List ℕ → State
first_sets u ws = take (follow_at u) (result_sets u ws)

abbrev pub follow_sets : Setup → List ℕ → State
follow_sets u ws = take u.n (drop (follow_at u) (result_sets u ws))

abbrev pub place_sets : Setup → List ℕ → State
place_sets u ws = drop (places_at u) (result_sets u ws)

-- the occurrences of nonterminals in the right sides that some words hold
abbrev pub occurrences : Setup → List ℕ → List Occurrence
occurrences u words = occurrences_of (productions_of u.p words)

-- words that the table's reader has made, for which the result has a set for each position
pub record Grammatical (u : Setup) (words : List ℕ) : Type 0 where
  pub rules : Rules u words
  pub places : u.rsets ≡ places_at u + length (occurrences u words)

-- the result has come to hold the sets A, F and Z, of which F are FOLLOW's
pub record InRow (u : Setup) (k : ℕ) (A F Z : State) (result result' : List ℕ) : Type 0 where
  pub before : length A ≡ follow_at u
  pub many : length F ≡ u.n
  pub turned : Turned k u.w u.b u.rsets (A ++ (F ++ Z)) result result'

-- and the scratch the sets F before its others
pub record Stands (u : Setup) (k : ℕ) (A F Z : State) (result scratch result' scratch' : List ℕ) : Type 0 where
  pub row : InRow u k A F Z result result'
  pub in-scratch : Turned k u.w u.b u.ssets (F ++ drop u.n (scratch_sets u scratch)) scratch scratch'

-- the scratch begins with the FOLLOW sets of the result
pub record Copied (u : Setup) (result scratch : List ℕ) : Type 0 where
  pub same : take u.n (scratch_sets u scratch) ≡ follow_sets u result

-- the sets of the positions are their suffix sets
pub record Suffixed (u : Setup) (k : ℕ) (words result : List ℕ) : Type 0 where
  pub grammatical : Grammatical u words
  pub suffixes : Suffixes (room u) k (old_sets u result) (occurrences u words) (place_sets u result)

-- while FOLLOW runs
pub record Running (u : Setup) (k : ℕ) (words result scratch : List ℕ) : Type 0 where
  pub ready : Ready u k result scratch
  pub suffixed : Suffixed u k words result
  pub copied : Copied u result scratch

-- ---- the start

-- buffers with room for the FOLLOW sets, at some k
pub record Laid (u : Setup) (result scratch : List ℕ) : Type 0 where
  pub k : ℕ
  pub result-store : IsStored k u.w u.b u.rsets result
  pub scratch-store : IsStored k u.w u.b u.ssets scratch
  pub room : places_at u ≤ u.rsets
  pub work : u.n ≤ u.ssets

-- the FOLLOW sets are the first n of the scratch
pub record CopiedFollow (u : Setup) (result scratch result' : List ℕ) : Type 0 where
  pub step : (k : ℕ) → IsStored k u.w u.b u.rsets result → IsStored k u.w u.b u.ssets scratch
      → Turned k u.w u.b u.rsets (first_sets u result ++ (take u.n (scratch_sets u scratch) ++ place_sets u result)) result result'

-- buffers to begin with, at some k
pub record Begins (u : Setup) (k : ℕ) (result scratch : List ℕ) : Type 0 where
  pub ready : Ready u k result scratch
  pub room : places_at u ≤ u.rsets
  pub first : u.start < u.n

-- FOLLOW has the sets at the start
pub record Started (u : Setup) (k : ℕ) (result scratch result' scratch' : List ℕ) : Type 0 where
  pub step : Ready u k result scratch → Stands u k (first_sets u result) (start u.n u.start) (place_sets u result) result scratch result' scratch'

-- ---- an equation

-- position i, with B in A → αBβ: source A, target B
pub record At (u : Setup) (i source target : ℕ) : Type 0 where
  pub place : places_at u + i < u.rsets
  pub from : source < u.n
  pub to : target < u.n

-- the target's set with the join of the suffix set and the source's set
abbrev pub joined : Setup → (k i source target : ℕ) → List ℕ → List Str
joined u k i source target ws =
    let R = result_sets u ws in
    union (set_of R (follow_at u + target)) (join_sets k (set_of R (places_at u + i)) (set_of R (follow_at u + source)))

-- that is the target's set in the scratch now, if there was room for it, and r tells
abbrev pub JoinedIn : Setup → (k i source target : ℕ) → Growth → (result scratch scratch' : List ℕ) → Type 0
JoinedIn u k i source target r result scratch scratch' =
    Filled k u.w u.b u.ssets target (length (set_of (result_sets u result) (follow_at u + target))) (joined u k i source target result) r scratch scratch'

-- that is the target's set now in both, if there was room for it, and r tells
pub record Taken (u : Setup) (k i source target : ℕ) (r : Growth) (result scratch result' scratch' : List ℕ) : Type 0 where
  pub answer : r ≡ grown (room u) (length (set_of (result_sets u result) (follow_at u + target))) (length (joined u k i source target result))
  pub in-result : is_full r ≡ false → Turned k u.w u.b u.rsets (set (result_sets u result) (follow_at u + target) (joined u k i source target result)) result result'
  pub in-scratch : is_full r ≡ false → Turned k u.w u.b u.ssets (set (scratch_sets u scratch) target (joined u k i source target result)) scratch scratch'
  pub result-beyond : past_result u result' ≡ past_result u result
  pub scratch-beyond : past_scratch u scratch' ≡ past_scratch u scratch

-- ---- a round

-- as the sets are those before the round or not
abbrev pub round_told : Bool → Grown
round_told true = Same
round_told false = Added

-- the answer is a list of sets, which both buffers have got, and the round tells whether they are those before it
pub record RoundDone (u : Setup) (k : ℕ) (answer : Answer State) (r : Grown) (result scratch result' scratch' : List ℕ) : Type 0 where
  pub new : State
  pub made : answer ≡ got new
  pub told : r ≡ round_told (same_sets new (follow_sets u result))
  pub stands : Stands u k (first_sets u result) new (place_sets u result) result scratch result' scratch'

-- or a set was too large
pub record Rounded (u : Setup) (k : ℕ) (answer : Answer State) (r : Growth) (result scratch result' scratch' : List ℕ) : Type 0 where
  pub ends : OrTooLarge r (answer ≡ refused 11) (λ told. RoundDone u k answer told result scratch result' scratch')
  pub result-beyond : past_result u result' ≡ past_result u result
  pub scratch-beyond : past_scratch u scratch' ≡ past_scratch u scratch

-- ---- the rounds

-- the answer is a list of sets, which both buffers have got, and the rounds up to them
pub record EndedWith (u : Setup) (k : ℕ) (answer : Answer Settling) (rounds : ℕ) (result scratch result' scratch' : List ℕ) : Type 0 where
  pub sets : State
  pub made : answer ≡ got (record { sets = sets; rounds = rounds })
  pub stands : Stands u k (first_sets u result) sets (place_sets u result) result scratch result' scratch'

-- or it is refusal 11
pub record Ended (u : Setup) (k : ℕ) (answer : Answer Settling) (r : Result ℕ Refusal) (result scratch result' scratch' : List ℕ) : Type 0 where
  pub ends : OrTooLarge r (answer ≡ refused 11) (λ rounds. EndedWith u k answer rounds result scratch result' scratch')
  pub result-beyond : past_result u result' ≡ past_result u result
  pub scratch-beyond : past_scratch u scratch' ≡ past_scratch u scratch

-- ---- a pass over the positions

-- the sets of the positions have become good ones, and all the other sets of the result are as they were; the scratch holds any sets
pub record PassDone (u : Setup) (k : ℕ) (Good : State → Type 0) (result result' scratch' : List ℕ) : Type 0 where
  pub places : State
  pub good : Good places
  pub row : InRow u k (first_sets u result) (follow_sets u result) places result result'
  pub store : IsStored k u.w u.b u.ssets scratch'

-- or a set was too large, and Over holds
pub record Passed (u : Setup) (k : ℕ) (Over : Type 0) (Good : State → Type 0) (r : Result (Unit {0}) Refusal) (result scratch result' scratch' : List ℕ) : Type 0 where
  pub ends : OrTooLarge r Over (λ _. PassDone u k Good result result' scratch')
  pub result-beyond : past_result u result' ≡ past_result u result
  pub scratch-beyond : past_scratch u scratch' ≡ past_scratch u scratch
