-- `engine::ask::place` meets its contract. Assumes nothing.
use Prim.Native.Nat.{◌+◌, ◌*◌}
use native.Mathlib.Omega.{arith}
use Rattle.engine.proofs.Asking.{Limits, kept, outside, no-kind, too-high, too_short, found, Inside, found-inside, sets-few}
use Rattle.engine.proofs.ask.place.Goals as goal
use Rattle.engine.proofs.ask.place.Goals.{After-start, Else-not-in_limits, then-count-number-via-then-count-number, then-count-number-via-else-count-number+then-len-n}

limits : (c : Else-not-in_limits) → let a = c.args in Limits a.n a.p a.q a.c
limits c = kept _ _ _ _ _ c.in_limits.ensures c.if-not-in_limits.false

inside : (c : After-start) → let a = c.args in Inside (c.start.result + a.number) (2 * a.c + 1) a.len
inside c = found-inside _ _ _ _ _ _ _ c.in_limits.ensures c.if-not-in_limits.false c.in-Ok.ensures c.count.ensures c.if-count-number.false c.if-len-n.false c.start.ensures

pub returns-then-not-in_limits : goal.returns-then-not-in_limits
returns-then-not-in_limits c = outside _ _ _ _ _ _ _ c.in_limits.ensures c.if-not-in_limits.true

pub returns-in_default : goal.returns-in_default
returns-in_default c = no-kind _ _ _ _ _ _ _ c.in_limits.ensures c.if-not-in_limits.false c.in_default.ensures

pub overflow_mul-size : goal.overflow_mul-size
overflow_mul-size c = let l = limits (goal.at.overflow_mul-size c).Else-not-in_limits in omega arith

pub overflow_add-size : goal.overflow_add-size
overflow_add-size c = let l = limits (goal.at.overflow_add-size c).Else-not-in_limits in omega arith

pub overflow_mul-n : goal.overflow_mul-n
overflow_mul-n c = let l = limits (goal.at.overflow_mul-n c).Else-not-in_limits in omega arith

pub overflow_add-n : goal.overflow_add-n
overflow_add-n c = let l = limits (goal.at.overflow_add-n c).Else-not-in_limits in omega arith

pub overflow_add-n-else-count-number : goal.overflow_add-n-else-count-number
overflow_add-n-else-count-number c = let l = limits (goal.at.overflow_add-n-else-count-number c).Else-not-in_limits in omega arith

pub overflow_mul-n-else-count-number : goal.overflow_mul-n-else-count-number
overflow_mul-n-else-count-number c = let a = c.args in let m = sets-few a.n a.p a.q a.c (limits (goal.at.overflow_mul-n-else-count-number c).Else-not-in_limits) in omega arith

pub returns-then-count-number : goal.returns-then-count-number
returns-then-count-number c =
    elim c.then-count-number.branch [
      | then-count-number-via-then-count-number w ↦ too-high _ _ _ _ _ _ _ c.in_limits.ensures c.if-not-in_limits.false c.in-Ok.ensures c.count.ensures w.if-count-number.true
      | then-count-number-via-else-count-number+then-len-n w ↦ too_short _ _ _ _ _ _ _ c.in_limits.ensures c.if-not-in_limits.false c.in-Ok.ensures c.count.ensures w.if-count-number.false w.if-len-n.true
    ]

pub start-requires : goal.start-requires
start-requires c = let l = limits (goal.at.start-requires c).Else-not-in_limits in (l.n-most, l.p-most)

pub overflow_add-result : goal.overflow_add-result
overflow_add-result c = let i = inside (goal.at.overflow_add-result c).After-start in omega arith

pub overflow_mul-result : goal.overflow_mul-result
overflow_mul-result c = let i = inside (goal.at.overflow_mul-result c).After-start in omega arith

pub returns : goal.returns
returns c = found _ _ _ _ _ _ _ c.in_limits.ensures c.if-not-in_limits.false c.in-Ok.ensures c.count.ensures c.if-count-number.false c.if-len-n.false c.start.ensures
