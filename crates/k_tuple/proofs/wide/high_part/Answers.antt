-- `k_tuple::wide::high_part` meets its contract: one law of `Words` for each branch. Assumes nothing.
use native.Mathlib.Omega.{arith}
use Prim.Native.Nat.{◌-◌}
use Rattle.k_tuple.proofs.Words.{high-near, high-far}
use Rattle.k_tuple.proofs.wide.high_part.Goals as goal

pub returns-then-s-lt64 : goal.returns-then-s-lt64
returns-then-s-lt64 c =
    let a = c.args in
    high-near a.x.lo a.x.hi (omega arith) (64 - a.s) a.s (omega arith)

pub returns-else-s-lt64 : goal.returns-else-s-lt64
returns-else-s-lt64 c =
    let a = c.args in
    high-far a.x.lo a.x.hi (omega arith) (a.s - 64) a.s (omega arith)
