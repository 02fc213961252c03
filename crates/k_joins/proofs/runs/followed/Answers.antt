-- `k_joins::runs::followed` meets its contract. Assumes nothing.
use native.Mathlib.Omega.{arith}
use Prim.Native.Nat.{ℕ, ◌+◌, ◌*◌, ◌^◌}
use mathlib.Core.Path.{ap, ◌∙◌}
use native.Mathlib.Nat.{lt_of_le_of_lt}
use lib.Dec.{lit<}
use mir.Facts.{Fits-below}
use Rattle.k_tuple.specs.Wide.{value}
use Rattle.k_tuple.specs.Strings.{fields, slots_field}
use Rattle.k_tuple.specs.Packed.{Room, words, number_of}
use Rattle.k_tuple.proofs.Append.{low-bits-le, above-lt, all-lt}
use Rattle.k_joins.proofs.Running.{follow-room, follow-is}
use Rattle.k_joins.proofs.runs.followed.Goals as goal
use Rattle.k_joins.proofs.runs.followed.Goals.{After-slots-low}

-- there is room for both
room : (c : After-slots-low) → Room c.width-w.result c.args.l c.count-m.result (slots_field (number_of c.args.x)) (value c.slots-above.result.lo c.slots-above.result.hi)
room c = follow-room c.requires c.width-w.ensures c.count-m.ensures c.slots-above.ensures

pub overflow_mul-l : goal.overflow_mul-l
overflow_mul-l c = Fits-below {n = 120} tt (low-bits-le _ _ _ _ _ (room (goal.at.overflow_mul-l c).After-slots-low))

pub stacked-requires : goal.stacked-requires
stacked-requires c = let r = room (goal.at.stacked-requires c).After-slots-low in (lt_of_le_of_lt (low-bits-le _ _ _ _ _ r) (lit< tt), rw c.slots-low.ensures r.low, above-lt _ _ _ _ _ r)

pub sealed-requires : goal.sealed-requires
sealed-requires c =
    let r = room (goal.at.sealed-requires c).After-slots-low in
    let narrow = r.narrow in
    (omega arith, lt_of_le_of_lt r.short (lit< tt), rw (c.stacked.ensures, c.slots-low.ensures) (all-lt _ _ _ _ _ r))

pub returns : goal.returns
returns c =
    let a = c.args in
    let w = c.width-w.result in
    let above = c.slots-above.result in
    c.sealed.ensures
    ∙ ap (λ (v : ℕ). words (fields w (a.l + c.count-m.result) v)) (c.stacked.ensures ∙ ap (λ (u : ℕ). value above.lo above.hi * 2 ^ (a.l * w) + u) c.slots-low.ensures)
    ∙ follow-is c.requires c.width-w.ensures c.count-m.ensures c.slots-above.ensures
