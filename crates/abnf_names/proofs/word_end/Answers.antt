-- `word_end` meets its contract: the bytes passed belong to the word. Assumes nothing.
use Rattle.abnf_names.proofs.PartLaws.{ends-start, ends-past, ends-here, ends_next}
use Rattle.abnf_names.proofs.word_end.Goals as goal

pub loop-at-init : goal.loop-at-init
loop-at-init c = search ends-start

pub returns-then-head_of-eq0 : goal.returns-then-head_of-eq0
returns-then-head_of-eq0 c = search ends-here

pub loop-at-preserved : goal.loop-at-preserved
loop-at-preserved c = search ends_next

pub returns : goal.returns
returns c = rw c.max.ensures (search ends-past)
