-- `trees::order::count_up` meets its contract. Assumes nothing.
use native.Mathlib.Omega.{arith}
use Rattle.trees.proofs.Arranging.{count-start, count-more, count-end}
use Rattle.trees.proofs.order.count_up.Goals as goal

pub loop-i-init : goal.loop-i-init
loop-i-init c = search count-start

pub loop-i-preserved : goal.loop-i-preserved
loop-i-preserved c = count-more _ _ _ c.loop-i.invariant (let e = c.loop-i.auto.order in omega arith)

pub returns : goal.returns
returns c = count-end _ _ _ c.loop-i.invariant (let e = c.loop-i.auto.order in omega arith)
