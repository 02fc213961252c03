-- `trees::output::put_edges` meets its contract. Assumes nothing.
use Rattle.trees.proofs.Writing.{edges-put-start, edges-put-end, edges-put-room, edges-put-turn, reached-small}
use native.Mathlib.Omega.{arith}
use Rattle.trees.proofs.output.put_edges.Goals as goal

pub loop-c-init : goal.loop-c-init
loop-c-init c = edges-put-start _ _ _ _ _ _ c.requires.1.0.low

pub reached_by-by-requires : goal.reached_by-by-requires
reached_by-by-requires c = let g = c.loop-c.invariant in (c.requires.0, c.requires.1.0.deep _ g.low (omega arith))

pub put_pair-place-requires : goal.put_pair-place-requires
put_pair-place-requires c = let g = c.loop-c.invariant in let h = c.loop-c-test.true in let f = c.requires.1.0.few in let x = reached-small _ _ _ c.requires.0 (c.requires.1.0.deep _ g.low h) _ c.reached_by-by.ensures in (omega arith, (omega arith, edges-put-room _ _ _ _ _ _ _ _ _ g h _ c.reached_by-by.ensures c.requires.1.1))

pub loop-c-preserved : goal.loop-c-preserved
loop-c-preserved c = edges-put-turn _ _ _ _ _ _ _ _ _ c.loop-c.invariant c.loop-c-test.true _ c.reached_by-by.ensures _ _ c.put_pair-place.ensures

pub returns : goal.returns
returns c = edges-put-end _ _ _ _ _ _ _ _ _ c.loop-c.invariant (omega arith)
