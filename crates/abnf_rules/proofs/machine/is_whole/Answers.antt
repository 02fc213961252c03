-- `machine::is_whole` meets its contract. Assumes nothing.
use Rattle.abnf_rules.proofs.MachineLaws.{whole-spaced, whole-none}
use Rattle.abnf_rules.specs.Machine.{whole}
use Rattle.abnf_rules.proofs.machine.is_whole.Goals as goal

pub returns-in-Blank : goal.returns-in-Blank
unfolding whole
returns-in-Blank c = cc

pub returns-in-Spaced : goal.returns-in-Spaced
returns-in-Spaced c = search whole-spaced

pub returns-in_default : goal.returns-in_default
returns-in_default c = search whole-none
