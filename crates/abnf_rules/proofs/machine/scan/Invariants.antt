-- What the loop of `abnf_rules::machine::scan` keeps.
use Rattle.abnf_rules.proofs.MachineLaws.{Scans}
use Rattle.abnf_rules.proofs.machine.scan.Given as goal

abbrev pub invariant-loop-i : goal.invariant-loop-i
invariant-loop-i l = Scans l.text l.notes l.state.line l.state.mode l.i
