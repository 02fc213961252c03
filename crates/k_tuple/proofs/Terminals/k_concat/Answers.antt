-- `k_tuple::Terminals::k_concat` meets its contract. Assumes nothing.
use Rattle.k_tuple.proofs.Refusals.{k_passes, alike_passes}
use Rattle.k_tuple.proofs.Terminals.k_concat.Goals as goal

pub join-requires : goal.join-requires
join-requires c = (alike_passes c.args.self c.args.other c.in_ok-alike.ensures, k_passes c.args.k c.in_ok-small.ensures)
