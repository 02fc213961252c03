-- `engine::needs` meets its contract. Assumes nothing.
use native.Mathlib.Nat.{mul-le-mul}
use native.Mathlib.Omega.{arith}
use Prim.Native.Nat.{◌+◌, ◌*◌}
use Rattle.engine.proofs.needs.Goals as goal

pub overflow_mul-result-2 : goal.overflow_mul-result-2
overflow_mul-result-2 c = let m = mul-le-mul {n₁ = c.args.sets} {m₁ = 2 * c.args.c + 1} {n₂ = 4864} {m₂ = 2049} c.requires.0 (omega arith) in omega arith
