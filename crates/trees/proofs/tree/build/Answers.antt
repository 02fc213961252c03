-- `trees::tree::build` meets its contract. Assumes nothing.
use native.Mathlib.Omega.{arith}
use borrow.Author.Rules.{rules}
use Rattle.std.proofs.Common.{◌≡◌, Err}
use Rattle.trees.proofs.Building.{build-start, build-asks, build-end, build-over, build-turn}
use Rattle.trees.proofs.tree.build.Goals as goal

pub loop-s-init : goal.loop-s-init
loop-s-init c = build-start _ _ _ _ _ _ c.requires

pub grow-requires : goal.grow-requires
grow-requires c = rw c.from-from.ensures (build-asks _ _ _ _ _ _ c.requires _ _ _ _ _ c.loop-s.invariant c.loop-s-test.true)

pub returns-in_err-end : goal.returns-in_err-end
returns-in_err-end c = let e : c.from_residual.result ≡ Err c.in_err-end.field-0.0 = search rules in rw e (build-over _ _ _ _ _ _ c.requires _ _ _ _ _ c.loop-s.invariant c.loop-s-test.true _ _ c.grow.ensures.grows _ c.in_err-end.was)

pub loop-s-preserved : goal.loop-s-preserved
loop-s-preserved c = build-turn _ _ _ _ _ _ c.requires _ _ _ _ _ c.loop-s.invariant c.loop-s-test.true _ _ _ c.grow.ensures c.grow.ensures.grows _ c.in_ok-end.was

pub returns : goal.returns
returns c = build-end _ _ _ _ _ _ c.requires _ _ _ _ _ c.loop-s.invariant (omega arith)
