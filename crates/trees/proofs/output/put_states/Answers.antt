-- `trees::output::put_states` meets its contract. Assumes nothing.
use Rattle.trees.proofs.Writing.{states-put-start, states-put-end, head-room, head-put, tail-room, tail-put, kid-small, standing-edges, accept-small}
use native.Mathlib.Omega.{arith}
use Prim.Native.Nat.{ℕ, ◌+◌}
use mathlib.Core.Path.{ap}
use Rattle.trees.proofs.output.put_states.Goals as goal

pub loop-s-init : goal.loop-s-init
loop-s-init c = states-put-start _ _ _ _ _ _ _ c.requires.1.0

pub overflow_add-end : goal.overflow_add-end
overflow_add-end c = let w = c.requires.1.0 in let g = c.loop-s.invariant in let st = g.standing in let f = w.few in let q = w.queue-room in let r = w.kids-room in let k = kid-small _ _ _ _ _ _ _ w st c.loop-s-test.true in let i = c.index.ensures in omega arith

pub accepting-production-requires : goal.accepting-production-requires
accepting-production-requires c = let w = c.requires.1.0 in (c.requires.0, w.state _ c.loop-s-test.true)

pub put_pair-place-requires : goal.put_pair-place-requires
put_pair-place-requires c = let w = c.requires.1.0 in let g = c.loop-s.invariant in let st = g.standing in let f = w.few in let q = w.queue-room in let r = w.kids-room in let k = kid-small _ _ _ _ _ _ _ w st c.loop-s-test.true in let i = c.index.ensures in let h = c.loop-s-test.true in let x = accept-small _ _ _ c.requires.0 (w.state _ h) _ c.accepting-production.ensures in (x, (omega arith, head-room _ _ _ _ _ _ _ _ _ _ _ g h _ (ap (λ (k : ℕ). c.loop-s.next + k) c.index.ensures) _ c.accepting-production.ensures c.requires.1.1))

pub put_edges-place-requires : goal.put_edges-place-requires
put_edges-place-requires c = let w = c.requires.1.0 in let g = c.loop-s.invariant in (c.requires.0, (standing-edges _ _ _ _ _ _ _ _ w g.standing c.loop-s-test.true (ap (λ (k : ℕ). c.loop-s.next + k) c.index.ensures), tail-room _ _ _ _ _ _ _ _ _ _ _ _ (head-put _ _ _ _ _ _ _ _ _ _ _ c.loop-s.invariant c.loop-s-test.true _ (ap (λ (k : ℕ). c.loop-s.next + k) c.index.ensures) _ c.accepting-production.ensures _ _ c.put_pair-place.ensures) c.requires.1.1))

pub loop-s-preserved : goal.loop-s-preserved
loop-s-preserved c = tail-put _ _ _ _ _ _ _ _ _ _ _ _ (head-put _ _ _ _ _ _ _ _ _ _ _ c.loop-s.invariant c.loop-s-test.true _ (ap (λ (k : ℕ). c.loop-s.next + k) c.index.ensures) _ c.accepting-production.ensures _ _ c.put_pair-place.ensures) c.loop-s.invariant.standing c.loop-s-test.true (ap (λ (k : ℕ). c.loop-s.next + k) c.index.ensures) _ _ c.put_edges-place.ensures

pub returns : goal.returns
returns c = states-put-end _ _ _ _ _ _ _ _ _ _ _ c.loop-s.invariant (omega arith)
