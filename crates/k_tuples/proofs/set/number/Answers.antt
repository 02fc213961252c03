-- `k_tuples::set::number` meets its contract. Assumes nothing.
use mathlib.Core.Path.{refl}
use Rattle.k_tuples.specs.Words.{number_in}
use Rattle.k_tuples.proofs.set.number.Goals as goal

pub returns : goal.returns
unfolding number_in
returns c = refl
