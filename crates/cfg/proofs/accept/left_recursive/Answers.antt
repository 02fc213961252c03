-- `accept::left_recursive` meets its contract: the invariant, `Searched`, says that no walk so far came back.
-- Assumes nothing.
use Rattle.cfg.proofs.Walk.{came-back}
use Rattle.cfg.proofs.Search.{searched-start, searched-found, searched-more}
use Rattle.cfg.proofs.accept.left_recursive.Goals as goal

pub loop-a-init : goal.loop-a-init
loop-a-init c = searched-start _ _

pub returns-then-reached-from : goal.returns-then-reached-from
returns-then-reached-from c = search (searched-found, came-back)

pub loop-a-preserved : goal.loop-a-preserved
loop-a-preserved c = search (searched-more, came-back)
