-- `k_tuples::set::open_one` meets its contract. Assumes nothing.
use Rattle.k_tuples.proofs.Walking.{one-complete, one-open}
use Rattle.k_tuples.proofs.set.open_one.Goals as goal

pub returns-then-is_complete : goal.returns-then-is_complete
returns-then-is_complete c = search one-complete

pub returns-else-is_complete : goal.returns-else-is_complete
returns-else-is_complete c = search one-open
