-- `k_tuples::set::class_end` meets its contract. Assumes nothing.
use Rattle.k_tuples.proofs.Words.{well-formed-at}
use Rattle.k_tuples.proofs.Held.{some-set, some-well}
use Rattle.k_tuples.proofs.Classes.{class-from, class-found}
use Rattle.k_tuples.proofs.set.class_end.Goals as goal

pub longer-requires : goal.longer-requires
longer-requires c = search (well-formed-at, some-well)

pub find-requires : goal.find-requires
find-requires c = (search some-set, search class-from)

pub returns : goal.returns
returns c = search class-found
