-- `k_tuples::set::counted` meets its contract. Assumes nothing.
use mathlib.Core.Path.{refl}
use Rattle.k_tuples.specs.Words.{count_in}
use Rattle.k_tuples.proofs.set.counted.Goals as goal

pub returns : goal.returns
unfolding count_in
returns c = refl
