-- `k_tuples::set::clear_set` meets its contract. Assumes nothing.
use mathlib.Core.Path.{sym}
use lib.Seq.{length-take-le}
use Rattle.k_tuples.proofs.Words.{set-cleared}
use Rattle.k_tuples.proofs.set.clear_set.Goals as goal

pub slice_bounds-clear-end-2 : goal.slice_bounds-clear-end-2
slice_bounds-clear-end-2 c = sym (length-take-le _ _ c.used-n.ensures.within)

pub returns : goal.returns
returns c = search set-cleared
