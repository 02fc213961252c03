-- `k_tuples::set::used` meets its contract. Assumes nothing.
use Rattle.k_tuples.proofs.Words.{set-fits, length-decode, used-is}
use native.Mathlib.Omega.{arith}
use Rattle.k_tuples.proofs.set.used.Goals as goal

pub overflow_mul-result : goal.overflow_mul-result
overflow_mul-result c = omega (arith, set-fits c.requires, length-decode c.args.set.now)

pub overflow_add-result : goal.overflow_add-result
overflow_add-result c = omega (arith, set-fits c.requires, length-decode c.args.set.now)

pub returns : goal.returns
returns c = search used-is
