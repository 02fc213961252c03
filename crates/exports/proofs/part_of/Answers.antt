-- `exports::part_of` meets its contract. Assumes nothing.
use native.Mathlib.Omega.{arith}
use Rattle.engine.proofs.Asking.{placed-inside}
use Rattle.exports.proofs.Telling.{no_part, some-part}
use Rattle.exports.proofs.part_of.Goals as goal

pub overflow_mul-result : goal.overflow_mul-result
overflow_mul-result c = omega (arith, placed-inside _ _ _ _ _ _ _ c.in-Some.ensures)

pub overflow_add-result : goal.overflow_add-result
overflow_add-result c = omega (arith, placed-inside _ _ _ _ _ _ _ c.in-Some.ensures)

pub returns-in-Some : goal.returns-in-Some
returns-in-Some c = some-part _ _ _ _ _ _ _ c.in-Some.ensures

pub returns-in-None : goal.returns-in-None
returns-in-None c = no_part _ _ _ _ _ _ _ c.in-None.ensures
