-- `k_tuples::set::insert_at` meets its contract. Assumes nothing.
use Rattle.k_tuples.proofs.Inserting.{insert-same}
use Rattle.k_tuples.proofs.set.insert_at.Goals as goal

pub returns-then-not-lower : goal.returns-then-not-lower
returns-then-not-lower c = search insert-same
