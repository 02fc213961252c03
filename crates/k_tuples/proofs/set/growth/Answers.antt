-- `k_tuples::set::growth` meets its contract. Assumes nothing.
use Rattle.k_tuples.proofs.Filling.{growth-added, growth-same}
use Rattle.k_tuples.proofs.set.growth.Goals as goal

pub returns-then-old-count : goal.returns-then-old-count
returns-then-old-count c = search growth-added

pub returns-else-old-count : goal.returns-else-old-count
returns-else-old-count c = search growth-same
