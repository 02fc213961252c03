-- `write_k` meets its contract. Assumes nothing.
use native.Mathlib.Omega.{arith}
use Rattle.automaton.proofs.Placing.{writes_start, writes-skip, place_inside, writes_more, writes_end}
use Rattle.automaton.proofs.write_k.Goals.{then-t-a, else-t-a}
use Rattle.automaton.proofs.write_k.Goals as goal

pub loop-a-init : goal.loop-a-init
loop-a-init c = (omega arith, writes_start _ _ _ _ _ _)

pub place_of-at-requires : goal.place_of-at-requires
place_of-at-requires c = let s = c.requires in let w = c.loop-a.invariant in let t = c.loop-a-test.true in let q = place_inside w.1 s.1 t in let e = w.1.same in (omega (arith, s.0.0.fit.few), omega arith)

pub write_tree-requires : goal.write_tree-requires
write_tree-requires c = let s = c.requires in let w = c.loop-a.invariant in let t = c.loop-a-test.true in let q = place_inside w.1 s.1 t in let e = c.place_of-at.ensures in ((s.0.0, s.0.1.each _ t c.if-t-a.true), (t, omega arith))

pub loop-a-preserved : goal.loop-a-preserved
loop-a-preserved c = let v = c.loop-a.invariant in let t = c.loop-a-test.true in (
  omega arith,
  elim c.if-t-a.branch [
    | then-t-a w ↦ rw w.out-is (writes_more v.1 c.requires.1 t w.if-t-a.true w.place_of-at.ensures w.write_tree.ensures w.write_tree.auto.out)
    | else-t-a w ↦ rw w.out-is (writes-skip v.1 w.if-t-a.false)
  ],
)

pub returns : goal.returns
returns c = let w = c.loop-a.invariant in writes_end w.1 c.loop-a-test.false w.0
