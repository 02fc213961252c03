-- `trees::output::states_size` meets its contract. Assumes nothing.
use Rattle.trees.proofs.Writing.{measure-start, measure-end, measure-turn, kid-small, standing-edges, size-most}
use native.Mathlib.Omega.{arith}
use Prim.Native.Nat.{ℕ, ◌+◌}
use mathlib.Core.Path.{ap}
use Rattle.trees.proofs.output.states_size.Goals as goal

pub loop-s-init : goal.loop-s-init
loop-s-init c = search measure-start

pub overflow_add-end : goal.overflow_add-end
overflow_add-end c = let w = c.requires.1 in let g = c.loop-s.invariant in let st = g.at in let f = w.few in let q = w.queue-room in let r = w.kids-room in let k = kid-small _ _ _ _ _ _ _ w st c.loop-s-test.true in let i = c.index.ensures in omega arith

pub accepting-requires : goal.accepting-requires
accepting-requires c = let w = c.requires.1 in (c.requires.0, w.state _ c.loop-s-test.true)

pub overflow_add-head : goal.overflow_add-head
overflow_add-head c = let a = size-most _ _ c.size_of.ensures in let b = size-most _ _ c.size_of-in-loop-s.ensures in omega arith

pub overflow_add-total : goal.overflow_add-total
overflow_add-total c = let w = c.requires.1 in let g = c.loop-s.invariant in let st = g.at in let f = w.few in let q = w.queue-room in let r = w.kids-room in let k = kid-small _ _ _ _ _ _ _ w st c.loop-s-test.true in let i = c.index.ensures in let m = g.most in let a = size-most _ _ c.size_of.ensures in let b = size-most _ _ c.size_of-in-loop-s.ensures in omega arith

pub edges_size-requires : goal.edges_size-requires
edges_size-requires c = let w = c.requires.1 in let g = c.loop-s.invariant in (c.requires.0, standing-edges _ _ _ _ _ _ _ _ w g.at c.loop-s-test.true (ap (λ (k : ℕ). c.loop-s.next + k) c.index.ensures))

pub overflow_add-total-in-loop-s : goal.overflow_add-total-in-loop-s
overflow_add-total-in-loop-s c = let w = c.requires.1 in let g = c.loop-s.invariant in let st = g.at in let f = w.few in let q = w.queue-room in let r = w.kids-room in let k = kid-small _ _ _ _ _ _ _ w st c.loop-s-test.true in let i = c.index.ensures in let m = g.most in let a = size-most _ _ c.size_of.ensures in let b = size-most _ _ c.size_of-in-loop-s.ensures in let e = c.edges_size.ensures.most in omega arith

pub loop-s-preserved : goal.loop-s-preserved
loop-s-preserved c = let w = c.requires.1 in let g = c.loop-s.invariant in measure-turn _ _ _ _ _ _ _ _ _ g c.loop-s-test.true (ap (λ (k : ℕ). c.loop-s.next + k) c.index.ensures) _ _ _ _ c.accepting.ensures c.size_of.ensures c.size_of-in-loop-s.ensures c.edges_size.ensures

pub returns : goal.returns
returns c = measure-end _ _ _ _ _ _ _ _ c.requires.1 c.loop-s.invariant (omega arith)
