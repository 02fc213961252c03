-- `k_tuple::Terminals::cmp` meets its contract. Assumes nothing.
use Rattle.k_tuple.proofs.Refusals.{alike_passes}
use Rattle.k_tuple.proofs.Terminals.cmp.Goals as goal

pub order-requires : goal.order-requires
order-requires c = alike_passes c.args.self c.args.other c.in_ok-alike.ensures
