-- `k_tuple::parts::same` meets its contract. Assumes nothing.
use native.Mathlib.Omega.{arith}
use mathlib.Core.Path.{◌∙◌}
use Rattle.k_tuple.proofs.Ordered.{words-eqb}
use Rattle.k_tuple.proofs.parts.same.Goals as goal

pub returns : goal.returns
returns c =
    let x = c.args.x in
    let y = c.args.y in
    c.eq.ensures ∙ words-eqb x.lo x.hi y.lo y.hi (omega arith) (omega arith)
