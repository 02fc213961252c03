-- Marks of numbers, as a list of Bools: what is past its end is not marked. Assumes nothing.
use Rattle.std.specs.Prelude.{ℕ, zero, suc, ◌≡◌, List, Bool, true, false, get_or, replicate}
use Rattle.cfg.specs.Reading.{pick}

abbrev pub Marked : List Bool → ℕ → Type 0
Marked m i = get_or m i false ≡ true

abbrev pub no_marks : List Bool
no_marks = replicate 128 false

-- whether a test holds of some number below n
unfoldable pub any_below : ℕ → (ℕ → Bool) → Bool
any_below zero test = false
any_below (suc n) test = pick (test n) true (any_below n test)
