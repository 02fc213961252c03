-- `trees::output::edges_size` meets its contract. Assumes nothing.
use native.Mathlib.Omega.{arith}
use Rattle.trees.proofs.Writing.{edges-start, edges-end, edges-turn, size-most}
use Rattle.trees.proofs.output.edges_size.Goals as goal

pub loop-c-init : goal.loop-c-init
loop-c-init c = search edges-start

pub reached_by-requires : goal.reached_by-requires
reached_by-requires c = let g = c.loop-c.invariant in (c.requires.0, c.requires.1.deep _ g.low (omega arith))

pub overflow_add-total : goal.overflow_add-total
overflow_add-total c = let g = c.loop-c.invariant in let m = g.most in let f = c.requires.1.few in let a = size-most _ _ c.size_of-by.ensures in let b = size-most _ _ c.size_of-at.ensures in omega arith

pub overflow_add-total-in-loop-c : goal.overflow_add-total-in-loop-c
overflow_add-total-in-loop-c c = let g = c.loop-c.invariant in let m = g.most in let f = c.requires.1.few in let a = size-most _ _ c.size_of-by.ensures in let b = size-most _ _ c.size_of-at.ensures in omega arith

pub loop-c-preserved : goal.loop-c-preserved
loop-c-preserved c = search edges-turn

pub returns : goal.returns
returns c = search edges-end
