-- `k_tuple::well::order` meets its contract. Assumes nothing.
use native.Mathlib.Omega.{arith}
use mathlib.Core.Path.{◌∙◌}
use Rattle.k_tuple.proofs.Ordered.{cmp-is, words-cmp, order_is}
use Rattle.k_tuple.proofs.well.order.Goals as goal

pub returns : goal.returns
returns c =
    let x = c.args.x in
    let y = c.args.y in
    c.cmp.ensures ∙ words-cmp x.lo x.hi y.lo y.hi (omega arith) (omega arith) ∙ cmp-is _ _ ∙ order_is x y c.requires
