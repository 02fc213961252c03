-- What an answer is on paper: numbers, or the number of a refusal and a zero for each of them; tests in their order and their outcome; and what "given exactly
-- when" says of the refusals. Assumes nothing.
use Rattle.std.specs.Prelude.{◌≡◌, Bool, cond, ◌↔◌, ℕ}
use mathlib.Core.List.{List, [], ◌∷◌, map, Memᴰ}

-- a refusal has its number, and zeros where the numbers answered would stand
pub data Paper : Type 0 where
  refused : ℕ → List ℕ → Paper
  gives : List ℕ → Paper

-- the refusal, 0 where there is none
abbrev pub number_of : Paper → ℕ
number_of (refused r z) = r
number_of (gives v) = 0

-- the numbers answered, each of them 0 on a refusal
abbrev pub values_of : Paper → List ℕ
values_of (refused r z) = z
values_of (gives v) = v

-- a zero for each number
abbrev pub blank : List ℕ → List ℕ
blank v = map (λ (x : ℕ). 0) v

-- yes is 1, no is 0
abbrev pub flag : Bool → List ℕ
flag b = cond b 1 0 ∷ []

-- ---- tests

-- refusals, each with its test, in the order of the tests; then the numbers answered where no test holds
infixr 5 ◌if◌else◌
pub data Tests : Type 0 where
  answers : List ℕ → Tests
  ◌if◌else◌ : ℕ → Bool → Tests → Tests

abbrev pub zeros : Tests → List ℕ
zeros (answers v) = blank v
zeros (r if b else t) = zeros t

-- the first test that holds refuses, and then every number is 0
abbrev pub outcome : Tests → Paper
outcome (answers v) = gives v
outcome (r if b else t) = cond b (refused r (zeros t)) (outcome t)

-- ---- "given exactly when"

-- refusals, each with what it is given for, in the order of the tests; then the numbers answered where none is given
infixr 5 ◌for◌else◌
pub data Column : Type 1 where
  values : List ℕ → Column
  ◌for◌else◌ : ℕ → Type 0 → Column → Column

abbrev pub refusals : Column → List ℕ
refusals (values v) = []
refusals (r for P else c) = r ∷ refusals c

abbrev pub zeros_for : Column → List ℕ
zeros_for (values v) = blank v
zeros_for (r for P else c) = zeros_for c

-- a refusal is given, with the zeros z, exactly when what it is given for holds and nothing before it does, the numbers exactly when nothing does;
-- `after Q`: Q, and nothing of what came before
abbrev pub Rows : (after : Type 0 → Type 0) → List ℕ → Paper → Column → Type 0
Rows after z p (values v) = (p ≡ gives v) ↔ after (Unit {0})
Rows after z p (r for P else c) = ((p ≡ refused r z) ↔ after P) × Rows (λ (Q : Type 0). after ((¬ P) × Q)) z p c

pub record Exactly (p : Paper) (c : Column) : Type 0 where
  pub rows : Rows (λ (Q : Type 0). Q) (zeros_for c) p c
  pub no_other : (r : ℕ) (z : List ℕ) → p ≡ refused r z → Memᴰ r (refusals c) × (z ≡ zeros_for c)
