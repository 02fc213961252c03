-- `k_tuples::set::behind` meets its contract. Assumes nothing.
use Rattle.k_tuples.proofs.Inserting.{place-past}
use Rattle.k_tuples.proofs.set.behind.Goals as goal

pub returns-then-lower : goal.returns-then-lower
returns-then-lower c = search place-past
