-- `first::right::part_end` meets its contract. The loop's invariant: what is left of the run begins at `end`. Assumes nothing.
use native.Mathlib.Omega.{arith}
use Rattle.first.proofs.Codes.{run_none, run-even, run-odd, part-even, part-odd}
use Rattle.first.proofs.right.part_end.Goals as goal

pub returns-then-right-j-eq0 : goal.returns-then-right-j-eq0
returns-then-right-j-eq0 c = (omega (arith, part-even c.args.right.now c.args.j c.requires c.if-right-j-eq0.true), (omega arith, omega (arith, c.requires)))

pub loop-end-init : goal.loop-end-init
loop-end-init c = (omega (arith, part-odd c.args.right.now c.args.j c.requires c.if-right-j-eq0.false), omega arith, omega (arith, c.requires))

pub returns-then-right-end-eq0 : goal.returns-then-right-end-eq0
returns-then-right-end-eq0 c = (omega (arith, run-even c.args.right.now c.loop-end.end c.loop-end-test.true c.if-right-end-eq0.true), (omega arith, omega arith))

pub loop-end-preserved : goal.loop-end-preserved
loop-end-preserved c = (omega (arith, run-odd c.args.right.now c.loop-end.end c.loop-end-test.true c.if-right-end-eq0.false), omega arith, omega arith)

pub returns : goal.returns
returns c = (omega (arith, run_none c.args.right.now c.loop-end.end c.loop-end-test.false), (omega arith, omega arith))
