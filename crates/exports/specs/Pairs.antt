-- A string from its two words. Assumes nothing.
use Rattle.std.specs.Prelude.{ℕ}
use Rattle.k_tuple.specs.declared.Terminals.{Terminals}

abbrev pub pair : ℕ → ℕ → Terminals
pair lo hi = record { lo = lo; hi = hi }
