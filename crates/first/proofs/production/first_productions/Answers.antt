-- `first::production::first_productions` meets its contract. The loop's invariant is `Producing`. Assumes nothing.
use mathlib.Core.Path.{◌≡◌}
use Rattle.std.specs.Prelude.{Err}
use borrow.Author.Rules.{rules}
use Rattle.first.proofs.Passing.{pass-head, pass-symbols}
use Rattle.first.proofs.Products.{producing-start, producing-ready, producing-free, producing-end, producing-over, producing-more}
use Rattle.first.proofs.production.first_productions.Goals as goal

pub loop-i-init : goal.loop-i-init
loop-i-init c = producing-start c.requires.0.0 c.requires.1

pub span_at-span-requires : goal.span_at-span-requires
span_at-span-requires c = let pass = c.loop-i.invariant.pass in (pass.cursor.here, pass-head pass c.loop-i-test.true c.requires.1.few)

pub first_of_right_side-requires : goal.first_of_right_side-requires
first_of_right_side-requires c =
    let l = c.loop-i in
    let span = c.span_at-span in
    let more = c.loop-i-test.true in
    ((producing-ready l.invariant c.requires.0.0, producing-free l.invariant c.requires.0.1 more), pass-symbols l.invariant.pass more span.result span.ensures)

pub returns-in_err-first_of_right_side : goal.returns-in_err-first_of_right_side
returns-in_err-first_of_right_side c =
    let span = c.span_at-span in
    let e : c.from_residual.result ≡ Err c.in_err-first_of_right_side.field-0.0 = search rules in
    rw e (producing-over c.loop-i.invariant c.requires.0.1 c.loop-i-test.true span.result span.ensures c.in_err-first_of_right_side.ensures)

pub loop-i-preserved : goal.loop-i-preserved
loop-i-preserved c =
    let span = c.span_at-span in
    producing-more c.loop-i.invariant c.requires.0.1 c.loop-i-test.true span.result span.ensures c.in_ok-first_of_right_side.ensures

pub returns : goal.returns
returns c = producing-end c.loop-i.invariant c.loop-i-test.false
