-- `accept::some_unproductive` meets its contract: the invariant, `Searched`, says that all so far are productive.
-- Assumes nothing.
use Rattle.cfg.proofs.Search.{searched-start, searched-found, searched-more}
use Rattle.cfg.proofs.Walk.{missed}
use Rattle.cfg.proofs.accept.some_unproductive.Goals as goal

pub loop-a-init : goal.loop-a-init
loop-a-init c = searched-start _ _

pub returns-then-not-productive-from : goal.returns-then-not-productive-from
returns-then-not-productive-from c = search (searched-found, missed)

pub loop-a-preserved : goal.loop-a-preserved
loop-a-preserved c = search (searched-more, missed)
