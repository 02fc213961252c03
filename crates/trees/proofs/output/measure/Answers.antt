-- `trees::output::measure` meets its contract. Assumes nothing.
use Rattle.trees.proofs.Writing.{size-most}
use native.Mathlib.Omega.{arith}
use Rattle.trees.proofs.output.measure.Goals as goal

pub overflow_add-result : goal.overflow_add-result
overflow_add-result c = let a = size-most _ _ c.size_of-first.ensures in let b = c.states_size.ensures.most in omega arith
