-- `k_tuple::Terminals::eps` meets its contract. Assumes nothing.
use borrow.Author.Tests.{ltb-false}
use Rattle.k_tuple.proofs.Binary.{width-le}
use Rattle.k_tuple.proofs.Refusals.{width_passes}
use Rattle.k_tuple.proofs.Terminals.eps.Goals as goal

pub eps-requires : goal.eps-requires
eps-requires c =
    let g = width_passes c.args.m c.in_ok-width.field-0 c.in_ok-width.ensures in
    rw g.1 (width-le c.args.m (ltb-false 4094 c.args.m g.0))
