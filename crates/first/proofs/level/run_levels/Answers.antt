-- `first::level::run_levels` meets its contract. The loop's invariant is `Running`. Assumes nothing.
use mathlib.Core.Path.{◌≡◌}
use native.Mathlib.Omega.{arith}
use Rattle.std.specs.Prelude.{Err}
use borrow.Author.Rules.{rules}
use Rattle.first.proofs.Levels.{run-start, run-ready, run_end, run-refused, run_more}
use Rattle.first.proofs.level.run_levels.Goals as goal

pub loop-i-init : goal.loop-i-init
loop-i-init c = run-start c.args.at c.args.k c.args.words.now c.requires.0.0

pub level_after-requires : goal.level_after-requires
level_after-requires c = omega (arith, c.loop-i-test.true, c.requires.1.0.1)

pub next_level-requires : goal.next_level-requires
next_level-requires c =
    let number = c.level_after in
    ((run-ready c.loop-i.invariant c.requires.0.0 number.result number.ensures (omega (arith, number.ensures, c.loop-i-test.true, c.requires.1.0.1)), c.requires.0.1), c.requires.1.1)

pub returns-in_err-rounds : goal.returns-in_err-rounds
returns-in_err-rounds c =
    let number = c.level_after in
    let e : c.from_residual.result ≡ Err c.in_err-rounds.field-0.0 = search rules in
    rw e (run-refused c.loop-i.invariant c.loop-i-test.true number.result number.ensures c.in_err-rounds.ensures)

pub loop-i-preserved : goal.loop-i-preserved
loop-i-preserved c =
    let number = c.level_after in
    run_more c.loop-i.invariant c.loop-i-test.true number.result number.ensures c.in_ok-rounds.ensures c.requires.1.0.1

pub returns : goal.returns
returns c = run_end c.loop-i.invariant c.requires.1.0.0 c.loop-i-test.false
