-- `tables::count_in_hand` meets its contract. Assumes nothing.
use Rattle.abnf_tables.proofs.TableLaws.{hands_start, hands-mark, hands_more, hands-other, hands_none}
use Rattle.abnf_tables.proofs.tables.count_in_hand.Goals as goal
use Rattle.abnf_tables.proofs.tables.count_in_hand.Goals.{then-word-side+then-word-eq1, then-word-side+else-word-eq1, else-word-side}

pub loop-word-init : goal.loop-word-init
loop-word-init c = search hands_start

pub loop-word-preserved : goal.loop-word-preserved
loop-word-preserved c = elim c.if-word-side.branch [ then-word-side+then-word-eq1 w ↦ rw w.n-is (search hands-mark) | then-word-side+else-word-eq1 w ↦ rw w.n-is (search hands_more) | else-word-side w ↦ rw w.n-is (search hands-other) ]

pub returns : goal.returns
returns c = rw (← c.from.ensures) (search hands_none)
