-- One turn of each loop of the walk over left corners. Assumes nothing.
use Prim.Native.Nat.{ℕ, suc, ◌+◌, ◌-◌, ◌%◌, ◌/◌, ◌≤◌, ◌<◌}
use native.Mathlib.Omega.{arith}
use mathlib.Core.Path.{◌≡◌, refl, sym, ap, ◌∙◌}
use mathlib.Core.List.{List, [], ◌∷◌, ◌++◌, map}
use mathlib.Core.Bool.{Bool, true, false, not}
use lib.ListN.{length, get_or, set, drop}
use lib.Dec.{eqb}
use borrow.Author.Tests.{eq-eqb, ne_eqb, not-true, not-false}
use Rattle.cfg.specs.Reading.{pick}
use Rattle.cfg.specs.Grammar.{Sym, Production}
use Rattle.cfg.specs.Written.{symbol_of}
use Rattle.cfg.proofs.Cursor.{Place, place_end, place-nonterminal, right-split, odd-terminal, even-nonterminal}
use Rattle.cfg.specs.Marks.{no_marks}
use Rattle.cfg.specs.Accept.{misses}
use Rattle.cfg.specs.Corners.{leading, corners, turn, visit, walk, comes_back}

-- a visit of some and of others
pub visit-append : (step : ℕ → List Bool → List Bool) (xs ys : List ℕ) (m : List Bool) → visit step (xs ++ ys) m ≡ visit step ys (visit step xs m)
unfolding visit
visit-append step [] ys m = refl
visit-append step (x ∷ xs) ys m = visit-append step xs ys _

-- a nonterminal's turn in the walk: it is marked already, or is walked from
pub turn-walked : (step : ℕ → List Bool → List Bool) (i b : ℕ) → b ≡ i → (reached walked reached' : List Bool) → not (get_or reached b false) ≡ true
    → walked ≡ step i (set reached b true) → reached' ≡ walked → reached' ≡ turn step i reached
unfolding turn
turn-walked step i b same reached walked reached' z e f = f ∙ e ∙ rw (same, not-true (get_or reached i false) (rw same at z))

pub turn-kept : (step : ℕ → List Bool → List Bool) (i b : ℕ) → b ≡ i → (reached reached' : List Bool) → not (get_or reached b false) ≡ false
    → reached' ≡ reached → reached' ≡ turn step i reached
unfolding turn
turn-kept step i b same reached reached' z f = f ∙ rw (not-false (get_or reached i false) (rw same at z))

-- the first j symbols of a right side are passed; what is left of it completes `goal`
pub record Visits (nullable : List Bool) (step : ℕ → List Bool → List Bool) (goal : List Bool) (right : List ℕ) (reached : List Bool) (j : ℕ) : Type 0 where
  pub place : Place 128 right j
  pub rest : visit step (leading nullable (map symbol_of (drop j right))) reached ≡ goal

module _ (nullable : List Bool) (step : ℕ → List Bool → List Bool) (right : List ℕ) where
  module _ (goal reached : List Bool) (j : ℕ) (w : Visits nullable step goal right reached j) where
    pub visits-done : length right ≤ j → reached ≡ goal
    unfolding visit
    visits-done h = rw (place_end 128 right j w.place h) at w.rest

    module _ (h : j < length right) where
      pub terminal-stops : get_or right j 0 % 2 ≡ 1 → reached ≡ goal
      unfolding visit
      terminal-stops odd = rw (right-split right j h, odd-terminal (get_or right j 0) odd) at w.rest

      module _ (even : get_or right j 0 % 2 ≡ 1 → ⊥) (reached' : List Bool) (t : reached' ≡ turn step (get_or right j 0 / 2) reached) where
        turned : visit step (pick (get_or nullable (get_or right j 0 / 2) false) (leading nullable (map symbol_of (drop (j + 1) right))) []) reached' ≡ goal
        unfolding visit
        turned = rw t (rw (right-split right j h, even-nonterminal (get_or right j 0) even) at w.rest)

        pub visit-stops : (b : ℕ) → b ≡ get_or right j 0 / 2 → get_or nullable b false ≡ false → reached' ≡ goal
        unfolding visit
        visit-stops b same z = rw (rw same at z) at turned

        pub visits-more : (b : ℕ) → b ≡ get_or right j 0 / 2 → get_or nullable b false ≡ true → Visits nullable step goal right reached' (j + 1)
        visits-more b same z = record {
          place = place-nonterminal 128 right j w.place h even;
          rest = rw (rw same at z) at turned;
        }

-- a walk of depth 0 marks nothing
pub walk_none : (nullable : List Bool) (ps : List Production) (depth a : ℕ) (marks : List Bool) → depth ≡ 0 → marks ≡ walk nullable ps depth a marks
unfolding walk
walk_none nullable ps depth a marks z = rw z

-- what is left of the productions, `rest`, completes `goal`
abbrev pub Walks : (nullable : List Bool) (step : ℕ → List Bool → List Bool) (a : ℕ) (goal : List Bool) (rest : List Production) (reached : List Bool) → Type 0
Walks nullable step a goal rest reached = visit step (corners nullable rest a) reached ≡ goal

-- a walk goes through all productions
pub walks-start : (nullable : List Bool) (ps rest : List Production) (depth a : ℕ) (marks : List Bool) → (depth ≡ 0 → ⊥) → rest ≡ ps
    → Walks nullable (walk nullable ps (depth - 1)) a (walk nullable ps depth a marks) rest marks
unfolding walk
walks-start nullable ps rest depth a marks z e =
    let deeper : depth ≡ suc (depth - 1) = omega arith in
    rw e (sym (ap (λ (d : ℕ). walk nullable ps d a marks) deeper))

module _ (nullable : List Bool) (step : ℕ → List Bool → List Bool) (a : ℕ) (goal : List Bool) (rest : List Production) (reached : List Bool)
    (w : Walks nullable step a goal rest reached) where
  pub walks-done : rest ≡ [] → reached ≡ goal
  unfolding visit
  walks-done e = rw e at w

  module _ (left : ℕ) (right : List Sym) (behind : List Production) (e : rest ≡ record { left = left; right = right } ∷ behind) where
    passed : visit step (corners nullable behind a) (visit step (pick (eqb left a) (leading nullable right) []) reached) ≡ goal
    passed = rw (← visit-append) (rw e at w)

    pub walks-other : (left ≡ a → ⊥) → Walks nullable step a goal behind reached
    unfolding visit
    walks-other z = rw (ne_eqb left a z) at passed

    pub walks-corner : left ≡ a → (more : List Bool) → more ≡ visit step (leading nullable right) reached → Walks nullable step a goal behind more
    walks-corner z more f = rw f (rw (eq-eqb left a z) at passed)

-- a walk comes back where its beginning is marked
pub came-back : (nullable : List Bool) (ps : List Production) (n a k : ℕ) → k ≡ a → (reached : List Bool) (b : Bool)
    → reached ≡ walk nullable ps n a no_marks → get_or reached k false ≡ b → comes_back nullable ps n a ≡ b
unfolding comes_back
came-back nullable ps n a k same reached b e f = ap (λ (r : List Bool). get_or r a false) (sym e) ∙ (rw same at f)

-- a number that is not marked is missed
pub missed : (marks goal : List Bool) (a k : ℕ) → k ≡ a → (b : Bool) → goal ≡ marks → not (get_or goal k false) ≡ b → misses marks a ≡ b
unfolding misses
missed marks goal a k same b e f = rw (← e) (rw same at f)
