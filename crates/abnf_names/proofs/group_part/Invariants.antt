-- What the loop of `abnf_names::group_part` keeps.
use Rattle.abnf_names.proofs.PartLaws.{Counts-down}
use Rattle.abnf_names.specs.Parts.{group_part}
use Rattle.abnf_names.proofs.group_part.Given as goal

abbrev pub invariant-loop-at : goal.invariant-loop-at
invariant-loop-at l = Counts-down l.text (group_part 0 l.g 0 l.text) l.state l.left l.at
