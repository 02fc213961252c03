-- `trees::order::merge` meets its contract. Assumes nothing.
use native.Mathlib.Omega.{arith}
use Rattle.trees.proofs.Arranging.{merge-start, left-some, right-some, merge-one, merge-other, merge-end}
use Rattle.trees.proofs.order.merge.Goals.{then-left_next, else-left_next}
use Rattle.trees.proofs.order.merge.Goals as goal

pub loop-at-init : goal.loop-at-init
loop-at-init c = search merge-start

pub bounds-left-i : goal.bounds-left-i
bounds-left-i c = left-some _ _ _ _ _ _ _ c.loop-at.invariant (let e = c.loop-at.auto.both in omega arith) _ c.left_next.ensures c.if-left_next.true

pub bounds-right-j : goal.bounds-right-j
bounds-right-j c = right-some _ _ _ _ _ _ _ c.loop-at.invariant (let e = c.loop-at.auto.both in omega arith) _ c.left_next.ensures c.if-left_next.false

pub loop-at-preserved : goal.loop-at-preserved
loop-at-preserved c =
    elim c.if-left_next.branch [
      | then-left_next w ↦ rw (w.both-is, w.i-is, w.j-is) (merge-one _ _ _ _ _ _ _ c.loop-at.invariant (let e = c.loop-at.auto.both in omega arith) _ c.left_next.ensures w.if-left_next.true)
      | else-left_next w ↦ rw (w.both-is, w.i-is, w.j-is) (merge-other _ _ _ _ _ _ _ c.loop-at.invariant (let e = c.loop-at.auto.both in omega arith) _ c.left_next.ensures w.if-left_next.false)
    ]

pub returns : goal.returns
returns c = merge-end _ _ _ _ _ _ _ c.loop-at.invariant (let e = c.loop-at.auto.both in omega arith)
