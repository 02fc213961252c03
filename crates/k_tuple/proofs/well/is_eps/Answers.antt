-- `k_tuple::well::is_eps` meets its contract. Assumes nothing.
use borrow.Author.Tests.{ne_eqb}
use native.Mathlib.Omega.{arith}
use mathlib.Core.Path.{◌∙◌}
use Rattle.k_tuple.proofs.Held.{width-le, not-one, one-read}
use Rattle.k_tuple.proofs.well.is_eps.Goals as goal

pub ones-requires : goal.ones-requires
ones-requires c = omega (arith, width-le c.args.t c.requires c.width.result c.width.ensures)

pub returns-then-count-eq1 : goal.returns-then-count-eq1
returns-then-count-eq1 c =
    let n = c.slots in
    one-read c.args.t c.requires c.count.result c.width.result c.ones.result n.result.lo n.result.hi
    c.count.ensures c.if-count-eq1.true c.width.ensures c.ones.ensures n.ensures

pub returns-else-count-eq1 : goal.returns-else-count-eq1
returns-else-count-eq1 c =
    ne_eqb c.count.result 1 c.if-count-eq1.false ∙ not-one c.args.t c.requires c.count.result c.count.ensures c.if-count-eq1.false
