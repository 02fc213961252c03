-- `lack::lack_all` meets its contract. Assumes nothing.
use Rattle.marking.proofs.Lacking.{filled-start, filled-other, filled_more, lack-found, lack-none}
use native.Mathlib.Omega.{arith}
use Rattle.marking.proofs.lack.lack_all.Goals.{then-ks-a+in_default, else-ks-a}
use Rattle.marking.proofs.lack.lack_all.Goals as goal

pub loop-a-init : goal.loop-a-init
loop-a-init c = filled-start _ _ _ _ _ _

pub returns-in-Some : goal.returns-in-Some
returns-in-Some c = lack-found _ _ _ _ _ _ c.loop-a.invariant (omega (arith, c.loop-a-test.true, c.end_of-a-end.ensures)) c.if-ks-a.true c.lack_of.ensures c.in-Some.is

pub loop-a-preserved : goal.loop-a-preserved
loop-a-preserved c =
    let w = c.loop-a.invariant in
    elim c.if-ks-a.branch [
      | then-ks-a+in_default b ↦ filled_more _ _ _ _ _ _ w b.lack_of.ensures b.in_default.is
      | else-ks-a b ↦ filled-other _ _ _ _ _ _ w b.if-ks-a.false
    ]

pub returns : goal.returns
returns c = lack-none _ _ _ _ _ _ c.loop-a.invariant (omega (arith, c.loop-a-test.false, c.end_of-a-end.ensures))
