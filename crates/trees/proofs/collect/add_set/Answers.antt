-- `trees::collect::add_set` meets its contract. Assumes nothing.
use Rattle.trees.proofs.Collecting.{collect-start, collect-inside, collect-end, collect-asks, collect-over, collect-turn}
use native.Mathlib.Omega.{arith}
use Rattle.std.proofs.Common.{◌≡◌, Err}
use Rattle.trees.proofs.collect.add_set.Goals as goal

pub count-i-end-requires : goal.count-i-end-requires
count-i-end-requires c = c.requires.is_set

pub loop-i-init : goal.loop-i-init
loop-i-init c = collect-start _ _ _ _ c.requires

pub read-t-requires : goal.read-t-requires
read-t-requires c = let h = collect-inside _ _ _ _ c.requires _ _ c.count-i-end.ensures c.loop-i-test.true in omega arith

pub add-requires : goal.add-requires
add-requires c = collect-asks _ _ _ _ c.requires _ _ _ c.loop-i.invariant _ c.count-i-end.ensures c.loop-i-test.true _ c.read-t.ensures

pub returns-in_err-m : goal.returns-in_err-m
returns-in_err-m c = let e : c.from_residual.result ≡ Err c.in_err-m.field-0.0 = grind arith in rw e (collect-over _ _ _ _ c.requires _ _ _ c.loop-i.invariant _ c.count-i-end.ensures c.loop-i-test.true _ c.read-t.ensures _ _ c.add.ensures _ c.in_err-m.was)

pub loop-i-preserved : goal.loop-i-preserved
loop-i-preserved c = collect-turn _ _ _ _ c.requires _ _ _ c.loop-i.invariant _ c.count-i-end.ensures c.loop-i-test.true _ c.read-t.ensures _ _ c.add.ensures _ c.in_ok-m.was

pub returns : goal.returns
returns c = collect-end _ _ _ _ c.requires _ _ _ c.loop-i.invariant _ c.count-i-end.ensures (omega arith)
