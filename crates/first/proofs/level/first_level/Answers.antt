-- `first::level::first_level` meets its contract. The loop's invariant is `Climbing`, and what is known of the sets that are not due. Assumes nothing.
use mathlib.Core.Path.{◌≡◌, refl, ◌∙◌}
use native.Mathlib.Omega.{arith}
use Rattle.std.specs.Prelude.{Err}
use borrow.Author.Rules.{rules}
use Rattle.first.proofs.Levels.{moved_ready, known_start, climb-start, climb-late, climb-over, climb-settled, climb-known, climb-more}
use Rattle.first.proofs.level.first_level.Goals as goal

pub loop-done-init : goal.loop-done-init
loop-done-init c = (climb-start c.args.at c.args.words.now c.requires.0.0, (known_start c.args.k c.args.words.now c.args.res.now c.args.scratch.now c.requires.1.few, refl))

pub first_round-requires : goal.first_round-requires
first_round-requires c =
    let l = c.loop-done in
    let ready = c.requires.0.0 in
    (((moved_ready l.invariant.0.moved ready ready.least ready.most, c.requires.0.1), c.requires.1), (l.invariant.1.0, omega (arith, l.invariant.1.1, c.requires.1.few)))

pub returns-in_err-first_round : goal.returns-in_err-first_round
returns-in_err-first_round c =
    let e : c.from_residual.result ≡ Err c.in_err-first_round.field-0.0 = search rules in
    rw e (climb-over c.loop-done.invariant.0 c.loop-done-test.true c.in_err-first_round.ensures.rounded)

pub returns-in-Same : goal.returns-in-Same
returns-in-Same c = climb-settled c.loop-done.invariant.0 c.loop-done-test.true c.in_ok-first_round.ensures.rounded c.in-Same.is

pub due_after-due-requires : goal.due_after-due-requires
due_after-due-requires c = c.requires.1

pub loop-done-preserved : goal.loop-done-preserved
loop-done-preserved c =
    let climb = c.loop-done.invariant.0 in
    let some = c.loop-done-test.true in
    let round = c.in_ok-first_round.ensures in
    (climb-more climb some round.rounded c.in-Changed.is, (rw c.due_after-due.ensures (climb-known climb some round.rounded c.requires.1.few c.requires.0.1 round.marked), c.first_round.auto.same ∙ c.loop-done.invariant.1.1))

pub returns : goal.returns
returns c = climb-late c.loop-done.invariant.0 c.loop-done-test.false
