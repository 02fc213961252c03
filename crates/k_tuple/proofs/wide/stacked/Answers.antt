-- `k_tuple::wide::stacked` meets its contract: one law of `Words` for each branch. Assumes nothing.
use native.Mathlib.Omega.{arith}
use Prim.Native.Nat.{◌-◌}
use Rattle.k_tuple.proofs.Words.{stack-near, stack-far}
use Rattle.k_tuple.proofs.wide.stacked.Goals as goal

pub returns-then-s-lt64 : goal.returns-then-s-lt64
returns-then-s-lt64 c =
    let a = c.args in
    stack-near a.high.lo a.high.hi (omega arith) a.low.lo a.low.hi (64 - a.s) a.s (omega arith) (omega arith) c.requires.1 c.requires.2

pub returns-else-s-lt64 : goal.returns-else-s-lt64
returns-else-s-lt64 c =
    let a = c.args in
    stack-far a.high.lo a.high.hi (omega arith) a.low.lo a.low.hi (a.s - 64) a.s (omega arith) (omega arith) c.requires.1 c.requires.2 (omega arith)
