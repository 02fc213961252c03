-- `k_tuples::merge::start` meets its contract. Assumes nothing.
use Rattle.k_tuples.proofs.Merging.{passed_none, passed_first}
use Rattle.k_tuples.proofs.merge.start.Goals as goal

pub returns-then-count-eq0 : goal.returns-then-count-eq0
returns-then-count-eq0 c = search passed_none

pub returns : goal.returns
returns c = search passed_first
