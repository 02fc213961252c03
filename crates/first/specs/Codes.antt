-- The parts of a right side as its symbols' codes show them. Assumes nothing.
use Rattle.std.specs.Prelude.{List, [], ◌∷◌, map, ℕ, suc, ◌/◌, ◌%◌, ◌<◌, eqb}
use Rattle.k_tuple.specs.Strings.{ones}
use Rattle.cfg.specs.Reading.{pick}
use Rattle.first_theory.specs.First.{Part, run, single}

-- the number of a symbol
abbrev pub half : ℕ → ℕ
half c = c / 2

-- how many codes in front are terminals
unfoldable pub run_length : List ℕ → ℕ
run_length [] = 0
run_length (c ∷ cs) = pick (eqb (c % 2) 0) 0 (suc (run_length cs))

-- how many codes the first part has
unfoldable pub part_length : List ℕ → ℕ
part_length [] = 0
part_length (c ∷ cs) = pick (eqb (c % 2) 0) 1 (suc (run_length cs))

-- the part that some codes are: one nonterminal, or else a run of terminals
unfoldable pub part_of : List ℕ → Part
part_of [] = run []
part_of (c ∷ cs) = pick (eqb (c % 2) 0) (single (c / 2)) (run (map half (c ∷ cs)))

-- terminals that are slots of strings of width w: neither the end marker nor all ones
abbrev pub AllSlots : ℕ → List ℕ → Type 0
AllSlots w [] = Unit {0}
AllSlots w (x ∷ xs) = ((0 < x) × (x < ones w)) × AllSlots w xs
