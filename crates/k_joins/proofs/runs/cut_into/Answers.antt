-- `k_joins::runs::cut_into` meets its contract. Its loop is a `Gathering` of cuts. Assumes nothing.
use native.Mathlib.Omega.{arith}
use Rattle.k_joins.proofs.Running.{gather-start, gather-more, one-cut}
use Rattle.k_joins.proofs.runs.cut_into.Goals as goal

pub loop-t-init : goal.loop-t-init
loop-t-init c = search gather-start

pub loop-t-preserved : goal.loop-t-preserved
loop-t-preserved c = gather-more c.loop-t.invariant c.requires.1.0 (omega arith) (one-cut _ _) c.add_cut-f.ensures.grew
