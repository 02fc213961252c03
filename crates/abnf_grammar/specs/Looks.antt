-- Which bytes of a text its reading looks at, apart from comparing names and literals: each in its turn, and the one behind a quote. Assumes nothing.
use Rattle.std.specs.Prelude.{ℕ, ◌+◌, List, [], ◌∷◌, ◌++◌, Bool, ◌≡◌, get_or, eqb}
use Rattle.cfg.specs.Reading.{pick}
use Rattle.abnf_tables.specs.Words.{position, rank}

-- the places that reading byte b at a place looks at, at most
abbrev pub looks : ℕ → ℕ → List ℕ
looks at b = at ∷ pick (eqb b 34) ((at + 1) ∷ []) []

-- those that reading these bytes, from a place on, looks at, one after the other, as far as it comes
unfoldable pub looked : ℕ → List ℕ → List ℕ
looked at [] = []
looked at (b ∷ bs) = looks at b ++ looked (at + 1) bs

-- how often a place is among some
unfoldable pub times : ℕ → List ℕ → ℕ
times j [] = 0
times j (i ∷ is) = pick (eqb i j) 1 0 + times j is

-- two texts in which names and literals are found alike, and ordered alike
pub record Alike (text other : List ℕ) : Type 0 where
  pub found : (quoted : Bool) (from : ℕ) (places : List ℕ) → position quoted text from places ≡ position quoted other from places
  pub ordered : (from : ℕ) (places : List ℕ) → rank text from places ≡ rank other from places

-- behind each quote among these bytes, which stand from a place on, two texts have the same byte
abbrev pub SameBehindQuotes : List ℕ → List ℕ → ℕ → List ℕ → Type 0
SameBehindQuotes text other at bs = (i : ℕ) → get_or bs i 0 ≡ 34 → get_or text (at + i + 1) 0 ≡ get_or other (at + i + 1) 0
