-- `group_part` meets its contract: what is left of the text has the group. Assumes nothing.
use Rattle.abnf_names.proofs.PartLaws.{down-start, down-end, down-here, down-group, down-other}
use Rattle.abnf_names.proofs.group_part.Goals as goal
use Rattle.abnf_names.proofs.group_part.Goals.{then-opens+else-left-eq0, else-opens}

pub loop-at-init : goal.loop-at-init
loop-at-init c = search down-start

pub returns-then-left-eq0 : goal.returns-then-left-eq0
returns-then-left-eq0 c = search down-here

pub loop-at-preserved : goal.loop-at-preserved
loop-at-preserved c = elim c.if-opens.branch [ then-opens+else-left-eq0 w ↦ rw w.left-is (search down-group) | else-opens w ↦ rw w.left-is (search down-other) ]

pub returns : goal.returns
returns c = search down-end
