-- `k_tuples::set::put_new` meets its contract. Assumes nothing.
use Prim.Native.Nat.{◌≤◌}
use native.Mathlib.Omega.{arith}
use Rattle.k_tuples.proofs.Words.{set_room}
use Rattle.k_tuples.proofs.Inserting.{insert-full, insert-most, insert-added, place-le}
use Rattle.k_tuples.proofs.set.put_new.Goals as goal
use Rattle.k_tuples.proofs.set.put_new.Goals.{After-count-n, then-set-n-lt3-via-then-set-n-lt3, then-set-n-lt3-via-else-set-n-lt3+then-n-ge-MOST}

-- where the members are counted, the place is known to be among them or after the last
within : (c : After-count-n) → c.args.p ≤ c.count-n.result
within c = place-le c.requires.0 c.requires.1 c.count-n.ensures

pub overflow_mul-n : goal.overflow_mul-n
overflow_mul-n c = omega (arith, set_room c.requires.0)

pub overflow_sub-set : goal.overflow_sub-set
overflow_sub-set c = omega (arith, set_room c.requires.0)

pub returns-then-set-n-lt3 : goal.returns-then-set-n-lt3
returns-then-set-n-lt3 c = elim c.then-set-n-lt3.branch [
  | then-set-n-lt3-via-then-set-n-lt3 w ↦ search insert-full
  | then-set-n-lt3-via-else-set-n-lt3+then-n-ge-MOST w ↦ search insert-most
]

pub overflow_mul-p : goal.overflow_mul-p
overflow_mul-p c = omega (arith, within (goal.at.overflow_mul-p c).After-count-n)

pub overflow_add-p : goal.overflow_add-p
overflow_add-p c = omega (arith, within (goal.at.overflow_add-p c).After-count-n)

pub put_in-requires : goal.put_in-requires
put_in-requires c = omega (arith, within (goal.at.put_in-requires c).After-count-n)

pub returns : goal.returns
returns c = search insert-added
