-- `write_all` meets its contract. Assumes nothing.
use native.Mathlib.Omega.{arith}
use Rattle.automaton.proofs.Passes.{planned, writing_start, writing_more, writing-end}
use Rattle.automaton.proofs.write_all.Goals as goal

pub loop-k-init : goal.loop-k-init
loop-k-init c = let s = c.requires in writing_start _ s.0 s.1

pub stand_at-requires : goal.stand_at-requires
stand_at-requires c = let w = c.loop-k.invariant in let t = c.loop-k-test.true in (w.kept.ready, omega arith)

pub write_k-requires : goal.write_k-requires
write_k-requires c = let w = c.loop-k.invariant in ((planned w.kept.ready, c.stand_at.ensures.all), w.fitting)

pub loop-k-preserved : goal.loop-k-preserved
loop-k-preserved c = writing_more c.loop-k.invariant c.loop-k-test.true c.stand_at.ensures c.write_k.ensures c.stand_at.auto.res c.stand_at.auto.scratch

pub returns : goal.returns
returns c = search writing-end
