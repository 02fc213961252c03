-- `k_tuples::set::copy_set` meets its contract. Assumes nothing.
use Rattle.k_tuples.proofs.Words.{set-copied}
use Rattle.k_tuples.proofs.set.copy_set.Goals as goal

pub returns : goal.returns
returns c = search set-copied
