-- Which sets a round of FIRST works out: those of the left sides with a right side in which some set is not the one before the last round. What
-- is known of the others, in lists and in the two lent buffers. Assumes nothing.
use Rattle.std.specs.Prelude.{◌≡◌, Bool, true, false, List, [], ◌∷◌, ℕ, ◌<◌, eqb, get_or, set}
use Rattle.k_tuple.specs.Strings.{Str}
use Rattle.k_tuples.specs.Sets.{union}
use Rattle.k_tuples.specs.States.{State, set_of}
use Rattle.k_tuples.specs.Work.{Answer, got, ◌>>=◌, within}
use Rattle.cfg.specs.Reading.{pick}
use Rattle.cfg.specs.Grammar.{Production}
use Rattle.cfg.specs.Written.{productions_of}
use Rattle.cfg.specs.Marks.{Marked, no_marks}
use Rattle.cfg.specs.Closure.{all_marked}
use Rattle.first_theory.specs.Compute.{right_side}
use Rattle.first.specs.declared.Setup.{Setup}
use Rattle.first.specs.Steps.{old_sets, room}
use Rattle.first.specs.Rounds.{new_sets, InScratch}

-- ---- in lists

-- the marks, and the left sides of the productions in which some nonterminal is not marked as the same
unfoldable pub due_from : List Bool → List Production → List Bool → List Bool
due_from same [] due = due
due_from same (p ∷ ps) due = due_from same ps (pick (all_marked true same p.right) due (set due p.left true))

abbrev pub due_of : List Bool → List Production → List Bool
due_of same ps = due_from same ps no_marks

-- the productions whose left side is due
unfoldable pub kept_of : List Bool → List Production → List Production
kept_of due [] = []
kept_of due (p ∷ ps) = pick (get_or due p.left false) (p ∷ kept_of due ps) (kept_of due ps)

-- the new set of A, after some productions more
unfoldable pub new_set : (c k : ℕ) → State → ℕ → List Str → List Production → Answer (List Str)
new_set c k X A new [] = got new
new_set c k X A new (p ∷ ps) =
    pick (eqb p.left A)
    (do
      a ← right_side c k X p.right
      b ← within c (union new a)
      new_set c k X A b ps)
    (new_set c k X A new ps)

-- ---- in the buffers

-- a set that is not due is the one that the round gives, and stands in both buffers
pub record Known (u : Setup) (k : ℕ) (words : List ℕ) (due : List Bool) (result scratch : List ℕ) : Type 0 where
  pub again : (A : ℕ) → A < u.n → get_or due A false ≡ false → new_set (room u) k (old_sets u result) A [] (productions_of u.p words) ≡ got (set_of (old_sets u result) A)
  pub stands : (A : ℕ) → A < u.n → get_or due A false ≡ false → set_of (new_sets u scratch) A ≡ set_of (old_sets u result) A

-- the new sets that are due are empty now, and the others as they were
pub record Blanked (u : Setup) (k : ℕ) (due : List Bool) (scratch scratch' : List ℕ) : Type 0 where
  pub front : InScratch u k (new_sets u scratch') scratch scratch'
  pub empty : (A : ℕ) → A < u.n → Marked due A → set_of (new_sets u scratch') A ≡ []
  pub others : (A : ℕ) → A < u.n → get_or due A false ≡ false → set_of (new_sets u scratch') A ≡ set_of (new_sets u scratch) A

-- the sets that are marked are those before the round
pub record Alike (u : Setup) (same : List Bool) (result result' : List ℕ) : Type 0 where
  pub kept : (A : ℕ) → A < u.n → Marked same A → set_of (old_sets u result') A ≡ set_of (old_sets u result) A
