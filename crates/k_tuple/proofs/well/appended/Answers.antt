-- `k_tuple::well::appended` meets its contract. Assumes nothing.
use native.Mathlib.Omega.{arith}
use native.Mathlib.Nat.{lt_of_le_of_lt}
use lib.Dec.{lit<}
use Rattle.k_tuple.proofs.Append.{low-bits-le, above-lt, all-lt}
use Rattle.k_tuple.proofs.well.appended.Goals as goal

pub stacked-requires : goal.stacked-requires
stacked-requires c =
    let r = c.requires in
    (lt_of_le_of_lt (low-bits-le _ _ _ _ _ r) (lit< tt), r.low, above-lt _ _ _ _ _ r)

pub sealed-requires : goal.sealed-requires
sealed-requires c =
    let r = c.requires in
    let narrow = r.narrow in
    (omega arith, lt_of_le_of_lt r.short (lit< tt), rw c.stacked.ensures (all-lt _ _ _ _ _ r))
