-- `k_tuples::set::member` meets its contract. Assumes nothing.
use native.Mathlib.Omega.{arith}
use Rattle.k_tuples.proofs.Words.{set_room}
use Rattle.k_tuples.proofs.set.member.Goals as goal

pub overflow_mul-i : goal.overflow_mul-i
overflow_mul-i c = omega (arith, set_room c.requires.0)

pub overflow_add-i : goal.overflow_add-i
overflow_add-i c = omega (arith, set_room c.requires.0)

pub read-requires : goal.read-requires
read-requires c = omega (arith, set_room c.requires.0)
