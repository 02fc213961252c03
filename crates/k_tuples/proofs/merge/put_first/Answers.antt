-- `k_tuples::merge::put_first` meets its contract. Assumes nothing.
use Rattle.k_tuples.proofs.Merging.{first-put}
use Rattle.k_tuples.proofs.merge.put_first.Goals as goal

pub returns : goal.returns
returns c = search first-put
