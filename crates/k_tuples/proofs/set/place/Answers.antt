-- `k_tuples::set::place` meets its contract. Assumes nothing.
use Rattle.k_tuples.proofs.Inserting.{place_none, place-last}
use Rattle.k_tuples.proofs.set.place.Goals as goal

pub returns-then-n-eq0 : goal.returns-then-n-eq0
returns-then-n-eq0 c = search place_none

pub returns-then-lower : goal.returns-then-lower
returns-then-lower c = search place-last
