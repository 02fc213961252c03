-- `k_joins::runs::shortened` meets its contract. Assumes nothing.
use native.Mathlib.Omega.{arith}
use native.Mathlib.Nat.{lt_of_le_of_lt}
use Prim.Native.Nat.{ℕ, ◌*◌, ◌≤◌}
use mathlib.Core.Path.{ap, ◌∙◌}
use lib.Dec.{lit<}
use mir.Facts.{Fits-below}
use Rattle.k_tuple.specs.Wide.{value}
use Rattle.k_tuple.specs.Strings.{fields}
use Rattle.k_tuple.specs.Packed.{words}
use Rattle.k_tuple.proofs.Held.{width-le, bits-le}
use Rattle.k_tuple.proofs.Pushing.{cut-stays, cut-falls, cut-lt}
use Rattle.k_joins.proofs.runs.shortened.Goals as goal
use Rattle.k_joins.proofs.runs.shortened.Goals.{After-slots}

pub returns-then-count-m : goal.returns-then-count-m
returns-then-count-m c =
    let l = c.count in
    cut-stays c.args.y c.requires.0 c.args.m (omega arith) l.result l.ensures c.if-count-m.true

-- the slots that are left fit
bits : (c : After-slots) → c.args.m * c.width-w.result ≤ 120
bits c =
    bits-le c.args.y c.requires.0 c.width-w.result c.args.m c.width-w.ensures c.requires.1

pub overflow_mul-m : goal.overflow_mul-m
overflow_mul-m c = Fits-below {n = 120} tt (bits (goal.at.overflow_mul-m c).After-slots)

pub low_part-requires : goal.low_part-requires
low_part-requires c = lt_of_le_of_lt (bits (goal.at.low_part-requires c).After-slots) (lit< tt)

pub sealed-requires : goal.sealed-requires
sealed-requires c =
    let h = width-le c.args.y c.requires.0 c.width-w.result c.width-w.ensures in
    (omega arith, lt_of_le_of_lt c.requires.1 (lit< tt), rw c.low_part.ensures (cut-lt c.args.y c.requires.0 c.args.m c.width-w.result _ c.width-w.ensures c.requires.1))

pub returns : goal.returns
returns c =
    c.sealed.ensures
    ∙ ap (λ (v : ℕ). words (fields c.width-w.result c.args.m v)) c.low_part.ensures
    ∙ cut-falls c.args.y c.requires.0 c.args.m c.width-w.result c.count.result (value c.slots.result.lo c.slots.result.hi) c.width-w.ensures c.count.ensures c.slots.ensures c.if-count-m.false
