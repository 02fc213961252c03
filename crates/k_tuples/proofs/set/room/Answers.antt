-- `k_tuples::set::room` meets its contract. Assumes nothing.
use Rattle.k_tuples.specs.Words.{room_of}
use Rattle.k_tuples.proofs.set.room.Goals as goal

pub returns : goal.returns
unfolding room_of
returns c = c.min.ensures
