-- `blocks::take_first` meets its contract. The loop's invariant is `Taking`. Assumes nothing.
use mathlib.Core.Path.{refl}
use native.Mathlib.Omega.{arith}
use Rattle.blocks.proofs.Stores.{turned-store}
use Rattle.blocks.proofs.Taking.{taking-start, taking-end, taking-more}
use Rattle.blocks.proofs.take_first.Goals as goal

pub loop-i-init : goal.loop-i-init
loop-i-init c = taking-start _ _ _ _ _ _ _

pub take_block-alike-requires : goal.take_block-alike-requires
take_block-alike-requires c =
    let p = c.requires in
    (record { k = p.0.k; width = p.0.width; first = turned-store (c.loop-i.invariant.step p.0.k p.0.width p.0.first p.0.second); second = p.0.second }, (omega arith, omega arith))

pub loop-i-preserved : goal.loop-i-preserved
loop-i-preserved c =
    let p = c.requires in
    let t = c.loop-i.invariant in
    taking-more _ _ _ _ _ _ _ t p.0.first p.0.second p.1.0 p.1.1.0 p.1.1.1 c.loop-i-test.true c.take_block-alike.ensures refl

pub returns : goal.returns
returns c = taking-end _ _ _ _ _ _ _ c.loop-i.invariant c.loop-i-test.false
