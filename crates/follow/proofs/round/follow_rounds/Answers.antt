-- `round::follow_rounds` meets its contract. The loop's invariant is `Climbing`. Assumes nothing.
use mathlib.Core.Path.{◌≡◌}
use borrow.Author.Rules.{rules}
use Rattle.std.specs.Prelude.{Err}
use native.Mathlib.Omega.{arith}
use Rattle.follow.proofs.Lowering.{lowered-due}
use Rattle.follow.proofs.Climbing.{rounds-fit-by, climb-start, climb-running, climb-late, climb-over, climb-settled, climb-more}
use Rattle.follow.proofs.round.follow_rounds.Goals as goal

pub room-requires : goal.room-requires
room-requires c = omega (arith, c.requires.ready.some)

pub overflow_mul-most : goal.overflow_mul-most
overflow_mul-most c = omega (arith, rounds-fit-by c.requires c.room.ensures)

pub overflow_add-most : goal.overflow_add-most
overflow_add-most c = omega (arith, rounds-fit-by c.requires c.room.ensures)

pub loop-done-init : goal.loop-done-init
loop-done-init c = search climb-start

pub follow_round-requires : goal.follow_round-requires
follow_round-requires c = (climb-running _ _ _ _ _ c.requires c.loop-done.invariant, c.loop-done.invariant.to_take)

pub returns-in_err-follow_round : goal.returns-in_err-follow_round
returns-in_err-follow_round c =
    let e : c.from_residual.result ≡ Err c.in_err-follow_round.field-0.0 = search rules in
    rw e (climb-over _ _ _ _ _ c.requires c.loop-done.invariant c.room.ensures c.loop-done-test.true c.in_err-follow_round.ensures.rounded)

pub returns-in-Same : goal.returns-in-Same
returns-in-Same c = climb-settled _ _ _ _ _ c.requires c.loop-done.invariant c.room.ensures c.loop-done-test.true c.in_ok-follow_round.ensures.rounded c.in-Same.is

pub next_due-requires : goal.next_due-requires
next_due-requires c = (c.requires.suffixed.grammatical.rules.few, c.in_ok-follow_round.ensures.passed.long)

pub loop-done-preserved : goal.loop-done-preserved
loop-done-preserved c = climb-more _ _ _ _ _ c.requires c.loop-done.invariant c.room.ensures c.loop-done-test.true c.in_ok-follow_round.ensures.rounded c.in-Added.is (lowered-due c.requires.suffixed.grammatical c.in_ok-follow_round.ensures.passed c.next_due.ensures)

pub returns : goal.returns
returns c = search climb-late
