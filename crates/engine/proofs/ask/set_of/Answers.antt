-- `engine::ask::set_of` meets its contract. Assumes nothing.
use Prim.Native.Nat.{◌+◌, ◌*◌, ◌≤◌}
use lib.ListN.{length}
use native.Mathlib.Omega.{arith}
use Rattle.engine.proofs.Asking.{placed-inside, none-there, part-there}
use Rattle.engine.proofs.ask.set_of.Goals as goal
use Rattle.engine.proofs.ask.set_of.Goals.{In-Some}

inside : (c : In-Some) → let end = c.in-Some.at + (2 * c.args.c + 1) in (end ≤ length c.args.words.now) × (end ≤ 9966336)
inside c = placed-inside _ _ _ _ _ _ _ c.in-Some.ensures

pub overflow_mul-result : goal.overflow_mul-result
overflow_mul-result c = let i = inside (goal.at.overflow_mul-result c).In-Some in omega arith

pub overflow_add-result : goal.overflow_add-result
overflow_add-result c = let i = inside (goal.at.overflow_add-result c).In-Some in omega arith

pub overflow_add-result-in-Some : goal.overflow_add-result-in-Some
overflow_add-result-in-Some c = let i = inside (goal.at.overflow_add-result-in-Some c).In-Some in omega arith

pub offset_bounds-words-at : goal.offset_bounds-words-at
offset_bounds-words-at c = let i = inside (goal.at.offset_bounds-words-at c).In-Some in omega arith

pub slice_bounds-result-end : goal.slice_bounds-result-end
slice_bounds-result-end c = let i = inside (goal.at.slice_bounds-result-end c).In-Some in omega arith

pub returns-in-Some : goal.returns-in-Some
returns-in-Some c = part-there _ _ _ _ _ _ _ c.in-Some.ensures

pub returns-in-None : goal.returns-in-None
returns-in-None c = none-there _ _ _ _ _ _ _ c.in-None.ensures
