-- `k_joins::runs::class_end` meets its contract. Its loop is a `ClassEnd` at every turn. Assumes nothing.
use native.Mathlib.Omega.{arith}
use Rattle.k_tuples.proofs.Words.{length-below, well-formed-at}
use Rattle.k_joins.proofs.runs.class_end.Goals as goal

pub overflow_add-i : goal.overflow_add-i
overflow_add-i c = omega (arith, length-below c.args.xs.now)

pub in_class-requires : goal.in_class-requires
in_class-requires c = well-formed-at _ c.requires.0.1 c.count.ensures (omega arith) c.member.ensures
