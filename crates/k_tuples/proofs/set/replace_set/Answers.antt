-- `k_tuples::set::replace_set` meets its contract. Assumes nothing.
use Rattle.k_tuples.proofs.Words.{set-over, set-replaced}
use Rattle.k_tuples.proofs.set.replace_set.Goals as goal

pub returns-then-n-old : goal.returns-then-n-old
returns-then-n-old c = search set-replaced

pub returns-else-n-old : goal.returns-else-n-old
returns-else-n-old c = search set-over
