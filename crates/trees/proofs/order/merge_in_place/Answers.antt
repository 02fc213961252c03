-- `trees::order::merge_in_place` meets its contract. Assumes nothing.
use mathlib.Core.Path.{subst}
use Prim.Native.Nat.{ℕ, ◌≤◌}
use Rattle.trees.proofs.Arranging.{copied-inside, copied-size, copied-merged}
use Rattle.trees.proofs.order.merge_in_place.Goals as goal

pub slice_bounds-merge_parts-end-2 : goal.slice_bounds-merge_parts-end-2
slice_bounds-merge_parts-end-2 c = copied-size _ _ c.copy.ensures

pub merge_parts-requires : goal.merge_parts-requires
merge_parts-requires c = let p = c.requires in let e = c.copy.ensures in (p.0, (copied-inside _ _ e _ p.1.0, (subst (λ (k : ℕ). c.args.mid ≤ k) (copied-size _ _ e) p.1.1.0, copied-size _ _ e)))

pub returns : goal.returns
returns c = copied-merged _ _ c.copy.ensures _ _ c.args.mid c.merge_parts.ensures
