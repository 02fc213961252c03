-- `trees::tree::grow` meets its contract. Assumes nothing.
use native.Mathlib.Omega.{arith}
use native.Mathlib.Numerals.{add-one}
use mathlib.Core.Path.{refl}
use Rattle.trees.proofs.Walking.{place-string, walk_start, walk-small, walk-stop, walk-over, walk-on, walk-new, walk_end}
use Rattle.trees.proofs.tree.grow.Goals as goal

pub loop-c-init : goal.loop-c-init
loop-c-init c = search walk_start

pub goes_on-requires : goal.goes_on-requires
goes_on-requires c = (c.requires.ordered.listed, (c.requires.state, rw c.from-j.ensures (place-string _ _ _ _ _ _ _ _ c.requires _ c.loop-c-test.true)))

pub returns-in_default : goal.returns-in_default
returns-in_default c =
    let on = rw (c.from-j.ensures, c.in_default.is) at c.goes_on.ensures in
    walk-stop _ _ _ _ _ _ _ _ c.requires _ _ _ _ _ c.loop-c.invariant c.loop-c-test.true _ on refl

pub returns-then-end-ge2048 : goal.returns-then-end-ge2048
returns-then-end-ge2048 c =
    let on = rw (c.from-j.ensures, c.in-Some.is) at c.goes_on.ensures in
    walk-over _ _ _ _ _ _ _ _ c.requires _ _ _ _ _ c.loop-c.invariant c.loop-c-test.true _ on (λ z. omega arith) (omega arith) (omega arith)

pub overflow_add-f : goal.overflow_add-f
overflow_add-f c =
    let on = rw (c.from-j.ensures, c.in-Some.is) at c.goes_on.ensures in
    let s = walk-small _ _ _ _ _ _ _ _ c.requires _ _ _ _ _ c.loop-c.invariant c.loop-c-test.true _ on c.in-Some.t refl in
    omega arith

pub loop-c-preserved : goal.loop-c-preserved
loop-c-preserved c =
    let on = rw (c.from-j.ensures, c.in-Some.is) at c.goes_on.ensures in
    let w = walk-new _ _ _ _ _ _ _ _ c.requires _ _ _ _ _ c.loop-c.invariant c.loop-c-test.true _ on (λ z. omega arith) (omega arith) (omega arith) in
    rw (c.from-j.ensures, add-one c.in-Some.t) w

pub loop-c-preserved-then-t-f : goal.loop-c-preserved-then-t-f
loop-c-preserved-then-t-f c =
    let on = rw (c.from-j.ensures, c.in-Some.is) at c.goes_on.ensures in
    walk-on _ _ _ _ _ _ _ _ c.requires _ _ _ _ _ c.loop-c.invariant c.loop-c-test.true _ on (omega arith)

pub returns : goal.returns
returns c = search walk_end
