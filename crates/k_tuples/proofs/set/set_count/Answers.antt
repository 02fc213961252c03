-- `k_tuples::set::set_count` meets its contract. Assumes nothing.
use mathlib.Core.Path.{refl}
use native.Mathlib.Omega.{arith}
use Rattle.k_tuples.specs.Words.{count_word, number_in}
use Rattle.k_tuples.proofs.set.set_count.Goals as goal

pub overflow_mul-set : goal.overflow_mul-set
overflow_mul-set c = omega (arith, c.slice_known-1.given 0)

pub overflow_add-set : goal.overflow_add-set
overflow_add-set c = omega (arith, c.slice_known-1.given 0)

pub returns : goal.returns
unfolding count_word number_in
returns c = refl
