-- The productions of each nonterminal, linked in their order; and how a nonterminal stands before any k is tried. Assumes nothing.
use Rattle.std.specs.Prelude.{ℕ, ◌+◌, ◌≤◌, ◌<◌, ◌≡◌, List, [], length, get_or}
use Rattle.cfg.specs.Grammar.{Production}
use Rattle.decision.specs.declared.Links.{Links}

-- the left side of production i
abbrev pub left_at : Links → ℕ → ℕ
left_at links i = get_or links.left i 0

-- the next production of the same left side
abbrev pub next_at : Links → ℕ → ℕ
next_at links i = get_or links.next i 0

-- the first production of A
abbrev pub first_at : Links → ℕ → ℕ
first_at links A = get_or links.first A 0

-- f is the first of p productions, from one of them on, that is A's; p where there is none
pub record FirstFrom (links : Links) (p A from f : ℕ) : Type 0 where
  pub above : from ≤ f
  pub below : f ≤ p
  pub here : f < p → left_at links f ≡ A
  pub none : (j : ℕ) → from ≤ j → j < f → ¬ left_at links j ≡ A

-- the productions from i on are linked
pub record LinkedFrom (links : Links) (p i : ℕ) : Type 0 where
  pub lefts-long : length links.left ≡ 512
  pub nexts-long : length links.next ≡ 512
  pub firsts-long : length links.first ≡ 128
  pub few : p ≤ 512
  pub small : (j : ℕ) → j < p → left_at links j < 128
  pub nexts : (j : ℕ) → i ≤ j → j < p → FirstFrom links p (left_at links j) (j + 1) (next_at links j)
  pub firsts : (A : ℕ) → A < 128 → FirstFrom links p A i (first_at links A)

abbrev pub Linked : Links → ℕ → Type 0
Linked links p = LinkedFrom links p 0

-- the left sides of these productions stand in the list
pub record SidesOf (ps : List Production) (links : Links) : Type 0 where
  pub each : (i : ℕ) → i < length ps → left_at links i ≡ (get_or ps i (record { left = 0; right = [] })).left

-- the left sides of p productions, and no links
pub record Sided (ps : List Production) (p : ℕ) (links : Links) : Type 0 where
  pub sides : SidesOf ps links
  pub unlinked : LinkedFrom links p p

-- production i was linked
pub record LinkedOne (links : Links) (p i : ℕ) (links' : Links) : Type 0 where
  pub linked : LinkedFrom links' p i
  pub same : (j : ℕ) → j < p → left_at links' j ≡ left_at links j

-- and all of them
pub record AllLinked (ps : List Production) (p : ℕ) (links : Links) : Type 0 where
  pub sides : SidesOf ps links
  pub linked : Linked links p

-- ---- before any k is tried

-- A has one of the p productions
abbrev pub OneOwn : (links : Links) (p A : ℕ) → Type 0
OneOwn links p A = (i : ℕ) × (i < p) × (left_at links i ≡ A) × ((j : ℕ) → j < p → left_at links j ≡ A → j ≡ i)

-- 0 where it has one production, else 22
pub data Begun (links : Links) (p A r : ℕ) : Type 0 where
  one : OneOwn links p A → r ≡ 0 → Begun links p A r
  several : ¬ OneOwn links p A → r ≡ 22 → Begun links p A r

pub record AllBegun (links : Links) (p n : ℕ) (ρ : List ℕ) : Type 0 where
  pub each : (A : ℕ) → A < n → Begun links p A (get_or ρ A 0)
  pub others : (A : ℕ) → n ≤ A → get_or ρ A 0 ≡ 0
  pub long : length ρ ≡ 128
