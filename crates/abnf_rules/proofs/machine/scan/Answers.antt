-- `machine::scan` meets its contract: what is left of the text gives the whole. Assumes nothing.
use Rattle.abnf_rules.proofs.MachineLaws.{none-noted, scans-start, scans-long, scans-refused, scans-next, scans-end}
use mathlib.Core.Path.{refl}
use Rattle.abnf_rules.proofs.machine.scan.Goals as goal

pub loop-i-init : goal.loop-i-init
loop-i-init c = scans-start _ _ (none-noted c.default-notes.ensures)

pub returns-then-at-ge32768-clause-says : goal.returns-then-at-ge32768-clause-says
returns-then-at-ge32768-clause-says c = search scans-long

pub returns-in_err-state-clause-says : goal.returns-in_err-state-clause-says
returns-in_err-state-clause-says c = search (scans-refused, c.in_err-state.was)

pub loop-i-preserved : goal.loop-i-preserved
loop-i-preserved c = scans-next _ _ _ _ _ c.loop-i.invariant c.loop-i-test.true _ refl c.if-at-ge32768.false _ _ c.step_byte.ensures _ c.in_ok-state.was

pub returns-clause-says : goal.returns-clause-says
returns-clause-says c = search scans-end
