-- `measure_k` meets its contract. Assumes nothing.
use borrow.Author.Rules.{rules}
use Rattle.std.proofs.Common.{◌≡◌, Err}
use Rattle.automaton.proofs.Sizing.{size-is}
use Rattle.automaton.proofs.Passes.{measures-start, measures-skip, measures-set, measures-over, measures-end}
use Rattle.automaton.proofs.measure_k.Goals.{then-t-a+in_ok-size, else-t-a}
use Rattle.automaton.proofs.measure_k.Goals as goal

pub loop-a-init : goal.loop-a-init
loop-a-init c = let s = c.requires in measures-start _ _ _ _ _ s.1

pub size_of_tree-requires : goal.size_of_tree-requires
size_of_tree-requires c = let s = c.requires in let t = c.loop-a-test.true in ((s.0.0, s.0.1.each _ t c.if-t-a.true), t)

pub returns-in_err-size : goal.returns-in_err-size
returns-in_err-size c = let e : c.from_residual.result ≡ Err c.in_err-size.field-0.0 = search rules in rw e (measures-over c.loop-a.invariant c.loop-a-test.true c.size_of_tree.ensures _ c.in_err-size.was)

pub loop-a-preserved : goal.loop-a-preserved
loop-a-preserved c =
    elim c.if-t-a.branch [
      | then-t-a+in_ok-size w ↦ rw w.sizes-is (measures-set c.loop-a.invariant c.loop-a-test.true c.requires.0.0.fit.few w.if-t-a.true _ (size-is w.size_of_tree.ensures _ w.in_ok-size.was))
      | else-t-a w ↦ rw w.sizes-is (measures-skip c.loop-a.invariant c.loop-a-test.true w.if-t-a.false)
    ]

pub returns : goal.returns
returns c = search measures-end
