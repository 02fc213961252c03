-- `k_tuples::set::add_member` meets its contract. Assumes nothing.
use Rattle.k_tuples.proofs.Filling.{gives-itself}
use Rattle.k_tuples.proofs.set.add_member.Goals as goal

pub returns : goal.returns
returns c = search gives-itself
