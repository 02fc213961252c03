-- `bits::is_marked` meets its contract. Assumes nothing.
use mathlib.Core.Path.{refl}
use Rattle.marking.specs.Bits.{is_marked}
use Rattle.marking.proofs.bits.is_marked.Goals as goal

pub returns : goal.returns
unfolding is_marked
returns c = refl
