-- `walk::next` meets its contract. The loop's invariant is `Seeks`. Assumes nothing.
use native.Mathlib.Omega.{arith}
use Rattle.follow.proofs.Seeking.{seeks-start, met-from, seeks-pass, seeks-met, seeks-left, seeks-head, seeks-enter}
use Rattle.follow.proofs.walk.next.Goals as goal

pub loop-at-init : goal.loop-at-init
loop-at-init c = search seeks-start

pub returns-then-code-eq0 : goal.returns-then-code-eq0
returns-then-code-eq0 c =
    let a = c.args in
    met-from _ a.w (seeks-met c.loop-at.invariant c.if-at-end.true c.if-code-eq0.true c.from.result c.from.ensures)

pub loop-at-preserved-else-code-eq0 : goal.loop-at-preserved-else-code-eq0
loop-at-preserved-else-code-eq0 c = seeks-pass c.loop-at.invariant c.if-at-end.true c.if-code-eq0.false

pub span_at-span-requires : goal.span_at-span-requires
span_at-span-requires c = (c.loop-at.invariant.goes.inside, seeks-head c.loop-at.invariant c.if-at-end.false)

pub overflow_sub-behind : goal.overflow_sub-behind
overflow_sub-behind c = omega (arith, seeks-left c.loop-at.invariant c.if-at-end.false)

pub loop-at-preserved : goal.loop-at-preserved
loop-at-preserved c = seeks-enter c.loop-at.invariant c.if-at-end.false c.span_at-span.result c.span_at-span.ensures c.from-source.result c.from-source.ensures
