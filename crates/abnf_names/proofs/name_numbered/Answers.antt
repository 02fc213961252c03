-- `name_numbered` meets its contract: the names passed have other numbers. Assumes nothing.
use Rattle.abnf_names.proofs.PartLaws.{seeks-start, seeks-end, seeks-here, seeks-next}
use Rattle.abnf_names.proofs.name_numbered.Goals as goal

pub loop-place-init : goal.loop-place-init
loop-place-init c = search seeks-start

pub returns-then-rank_of-from : goal.returns-then-rank_of-from
returns-then-rank_of-from c = search seeks-here

pub loop-place-preserved : goal.loop-place-preserved
loop-place-preserved c = search seeks-next

pub returns : goal.returns
returns c = search seeks-end
