-- Which equations of FOLLOW are due. A list has a number for each nonterminal: the equations with that source that are numbered below it are due,
-- and every other equation has nothing to add. In a round, equation i has number i, and behind the last the numbers go on with the equations of
-- the next round. Assumes nothing.
use Rattle.std.specs.Prelude.{ℕ, ◌+◌, ◌-◌, ◌≤◌, ◌<◌, List, [], ◌∷◌, ◌≡◌, length, get_or, set, Ok, Err}
use Rattle.k_tuple.specs.Strings.{Str}
use Rattle.k_tuples.specs.Sets.{◌⊆◌, join_sets}
use Rattle.k_tuples.specs.States.{State, set_of}
use Rattle.k_tuples.specs.Work.{got}
use Rattle.k_tuples.specs.Words.{Growth}
use Rattle.k_tuples.specs.declared.set.Grown.TheVariants.{Added, Same}
use Rattle.first.specs.declared.Setup.{Setup}
use Rattle.first.specs.Steps.{old_sets, room}
use Rattle.first_theory.specs.Compute.{right_side}
use Rattle.follow_theory.specs.Follow.{Occurrence}
use Rattle.follow.specs.Steps.{places_at, follow_sets, occurrences, Taken}

-- an equation has nothing to add: its target's set has the join of the suffix set with its source's set. X are the FIRST sets of the
-- nonterminals, F the FOLLOW sets as they stand, c the room of a set
pub record Idle (c k : ℕ) (X F : State) (o : Occurrence) : Type 0 where
  pub has : (a : List Str) → right_side c k X o.rest ≡ got a → join_sets k a (set_of F o.source) ⊆ set_of F o.target

-- the equations of a list, the first of which has number m, are due or idle
pub data DueOrIdle (c k : ℕ) (X F : State) (due : List ℕ) : ℕ → List Occurrence → Type 0 where
  no_more : {m : ℕ} → DueOrIdle c k X F due m []
  one_more : {m : ℕ} {o : Occurrence} {os : List Occurrence} → (get_or due o.source 0 ≤ m → Idle c k X F o) → DueOrIdle c k X F due (m + 1) os → DueOrIdle c k X F due m (o ∷ os)

-- ---- an equation

-- after equation i the equations with its target as source are due until it comes again, and it is too, if it added a string
abbrev pub noted : Setup → (i target : ℕ) → Growth → List ℕ → List ℕ
noted u i target (Ok Added) due = set due target (u.rsets - places_at u + i + 1)
noted u i target (Ok Same) due = due
noted u i target (Err e) due = due

-- equation i was due, and is taken; or it was not, and nothing is changed
pub data TakenDue (u : Setup) (k i source target : ℕ) (r : Growth) (result scratch due result' scratch' due' : List ℕ) : Type 0 where
  was-due : Taken u k i source target r result scratch result' scratch' → due' ≡ noted u i target r due → TakenDue u k i source target r result scratch due result' scratch' due'
  not-due : get_or due source 0 ≤ i → r ≡ Ok Same → result' ≡ result → scratch' ≡ scratch → due' ≡ due → TakenDue u k i source target r result scratch due result' scratch' due'

-- ---- a round

-- so it is with all equations, where the first has number m
pub record Due (u : Setup) (k : ℕ) (words : List ℕ) (m : ℕ) (result due : List ℕ) : Type 0 where
  pub long : length due ≡ 128
  pub or-idle : DueOrIdle (room u) k (old_sets u result) (follow_sets u result) due m (occurrences u words)

-- the numbers of the first n are less by q, or 0
pub record Lowered (n q : ℕ) (due due' : List ℕ) : Type 0 where
  pub long : length due' ≡ length due
  pub less : (A : ℕ) → A < n → get_or due' A 0 ≡ get_or due A 0 - q
