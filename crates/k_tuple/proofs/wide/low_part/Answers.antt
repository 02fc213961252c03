-- `k_tuple::wide::low_part` meets its contract: one law of `Words` for each branch. Assumes nothing.
use native.Mathlib.Omega.{arith}
use Prim.Native.Nat.{◌-◌}
use Rattle.k_tuple.proofs.Words.{low_near, low-far}
use Rattle.k_tuple.proofs.wide.low_part.Goals as goal

pub returns-then-s-lt64 : goal.returns-then-s-lt64
returns-then-s-lt64 c =
    let a = c.args in
    low_near a.x.lo a.x.hi (omega arith) a.s (omega arith)

pub returns-else-s-lt64 : goal.returns-else-s-lt64
returns-else-s-lt64 c =
    let a = c.args in
    low-far a.x.lo a.x.hi (omega arith) (a.s - 64) a.s (omega arith) (omega arith)
