-- `place::make_positions` meets its contract. The loop's invariant is `Positioning`. Assumes nothing.
use mathlib.Core.Path.{◌≡◌}
use native.Mathlib.Omega.{arith}
use Rattle.std.specs.Prelude.{Err}
use borrow.Author.Rules.{rules}
use Rattle.follow.proofs.Way.{way-some, met_at}
use Rattle.follow.proofs.Passing.{passing-ready}
use Rattle.follow.proofs.Positioning.{positioning-start, positioning-end, positioning-over, positioning-more}
use Rattle.follow.proofs.place.make_positions.Goals as goal

pub loop-i-init : goal.loop-i-init
loop-i-init c = rw c.start-w.ensures (positioning-start _ _ _ _ _ c.requires.0 c.requires.1)

pub next-w-requires : goal.next-w-requires
next-w-requires c = (c.loop-i.invariant.way.goes, search way-some)

pub overflow_add-from : goal.overflow_add-from
overflow_add-from c =
    let a = met_at c.loop-i.invariant.way c.next-w.ensures in
    omega (arith, a.place, a.from, c.struct_known-3-1.given)

pub take_position-requires : goal.take_position-requires
take_position-requires c =
    let h = c.loop-i.invariant in
    let a = met_at h.way c.next-w.ensures in
    (passing-ready _ _ _ _ _ _ c.requires.0 h, (a.place, omega (arith, a.place, a.from)))

pub returns-in_err-take_position : goal.returns-in_err-take_position
returns-in_err-take_position c =
    let e : c.from_residual.result ≡ Err c.in_err-take_position.field-0.0 = search rules in
    rw e (positioning-over _ _ _ _ _ c.requires.0 c.loop-i.invariant c.next-w.ensures c.in_err-take_position.ensures)

pub loop-i-preserved : goal.loop-i-preserved
loop-i-preserved c = positioning-more _ _ _ _ _ c.requires.0 c.loop-i.invariant c.next-w.ensures c.in_ok-take_position.ensures

pub returns : goal.returns
returns c = search positioning-end
