-- `measure_all` meets its contract. Assumes nothing.
use native.Mathlib.Omega.{arith}
use borrow.Author.Rules.{rules}
use Rattle.std.proofs.Common.{◌≡◌, Err}
use Rattle.automaton.proofs.Passes.{planned, measuring-start, measuring-more, measuring-over, put-down, measuring-end}
use Rattle.automaton.proofs.measure_all.Goals as goal

pub loop-k-init : goal.loop-k-init
loop-k-init c = measuring-start c.requires

pub stand_at-requires : goal.stand_at-requires
stand_at-requires c = let w = c.loop-k.invariant in let t = c.loop-k-test.true in (w.kept.ready, omega arith)

pub measure_k-requires : goal.measure_k-requires
measure_k-requires c = let w = c.loop-k.invariant in ((planned w.kept.ready, c.stand_at.ensures.all), w.long)

pub returns-in_err-measure_k : goal.returns-in_err-measure_k
returns-in_err-measure_k c = let e : c.from_residual.result ≡ Err c.in_err-measure_k.field-0.0 = search rules in rw e (measuring-over c.loop-k.invariant c.stand_at.ensures c.stand_at.auto.res c.stand_at.auto.scratch c.measure_k.ensures _ c.in_err-measure_k.was)

pub loop-k-preserved : goal.loop-k-preserved
loop-k-preserved c = measuring-more c.loop-k.invariant c.loop-k-test.true c.stand_at.ensures (put-down c.loop-k.invariant c.measure_k.ensures c.in_ok-measure_k.was) c.stand_at.auto.res c.stand_at.auto.scratch

pub returns : goal.returns
returns c = search measuring-end
