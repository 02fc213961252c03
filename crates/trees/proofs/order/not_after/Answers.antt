-- `trees::order::not_after` meets its contract. Assumes nothing.
use borrow.Author.Rules.{rules}
use mathlib.Core.Path.{sym, ◌∙◌}
use Rattle.trees.proofs.Arranging.{codes-equal, codes-apart, codes-lower, compare-start, compare-more, compare-done, compare-end}
use Rattle.trees.proofs.order.not_after.Goals as goal

pub loop-e-init : goal.loop-e-init
loop-e-init c = search compare-start

pub returns-then-ne : goal.returns-then-ne
returns-then-ne c =
    let a = c.letter-a in
    let b = c.letter-b in
    c.lt.ensures ∙ codes-lower _ (λ s t. search rules) a.result b.result ∙ compare-done _ _ _ _ _ c.loop-e.invariant a.ensures b.ensures (codes-apart a.result b.result (sym c.ne.ensures ∙ c.if-ne.true))

pub loop-e-preserved : goal.loop-e-preserved
loop-e-preserved c =
    let a = c.letter-a in
    let b = c.letter-b in
    compare-more _ _ _ _ _ c.loop-e.invariant a.ensures b.ensures c.loop-e-test.true (codes-equal a.result b.result (sym c.ne.ensures ∙ c.if-ne.false))

pub returns : goal.returns
returns c = search compare-end
