-- `round::follow_round` meets its contract. The loop's invariant is `Rounding`. Assumes nothing.
use mathlib.Core.Path.{◌≡◌, ap}
use mathlib.Core.Bool.{true, false}
use borrow.Author.Rules.{rules}
use Rattle.std.specs.Prelude.{Ok, Err}
use Rattle.k_tuples.specs.declared.set.Grown.{Grown}
use Rattle.follow.proofs.Way.{way-some, met_at}
use Rattle.follow.proofs.Rounding.{rounding-start, rounding-ready, rounding-copied, rounding-end, rounding-due, rounding-over, rounding-same, rounding-added}
use Rattle.follow.proofs.round.follow_round.Goals as goal
use Rattle.follow.proofs.round.follow_round.Goals.{in-Added, in-Same}

pub loop-i-init : goal.loop-i-init
loop-i-init c = rw c.start-w.ensures (rounding-start _ _ _ _ _ c.requires.0 c.requires.1)

pub next-w-requires : goal.next-w-requires
next-w-requires c = (c.loop-i.invariant.way.goes, search way-some)

pub take_due-requires : goal.take_due-requires
take_due-requires c = (((search rounding-ready, search rounding-copied), search met_at), c.requires.0.suffixed.grammatical.rules.few)

pub loop-i-preserved : goal.loop-i-preserved
loop-i-preserved c =
    let h = c.loop-i.invariant in
    elim c.match-grown.branch [
      | in-Added w ↦ rw w.added-is (rounding-added _ _ _ _ _ c.requires.0 h c.next-w.ensures c.in_ok-grown.ensures (ap (λ (g : Grown). Ok g) w.in-Added.is))
      | in-Same w ↦ rw w.added-is (rounding-same _ _ _ _ _ c.requires.0 h c.next-w.ensures c.in_ok-grown.ensures (ap (λ (g : Grown). Ok g) w.in-Same.is))
    ]

pub returns-in_err-grown-clause-rounded : goal.returns-in_err-grown-clause-rounded
returns-in_err-grown-clause-rounded c =
    let e : c.from_residual.result ≡ Err c.in_err-grown.field-0.0 = search rules in
    rw e (rounding-over _ _ _ _ _ c.requires.0 c.loop-i.invariant c.next-w.ensures c.take_due.ensures c.in_err-grown.was)

pub returns-then-added-clause-rounded : goal.returns-then-added-clause-rounded
returns-then-added-clause-rounded c = rounding-end _ _ _ _ _ c.requires.0 c.loop-i.invariant c.loop-i-test.false true c.if-added.true

pub returns-then-added-clause-passed : goal.returns-then-added-clause-passed
returns-then-added-clause-passed c = rounding-due _ _ _ _ _ c.requires.0 c.loop-i.invariant c.loop-i-test.false

pub returns-clause-rounded : goal.returns-clause-rounded
returns-clause-rounded c = rounding-end _ _ _ _ _ c.requires.0 c.loop-i.invariant c.loop-i-test.false false c.if-added.false

pub returns-clause-passed : goal.returns-clause-passed
returns-clause-passed c = rounding-due _ _ _ _ _ c.requires.0 c.loop-i.invariant c.loop-i-test.false
