-- `k_tuple::well::held` meets its contract. Assumes nothing.
use mathlib.Core.Path.{sym, ◌∙◌}
use Rattle.k_tuple.proofs.Held.{length-is, slots-are}
use Rattle.k_tuple.proofs.well.held.Goals as goal

pub returns : goal.returns
returns c =
    let l = c.count in
    (sym (length-is c.args.t c.requires l.result l.ensures), c.slots.ensures ∙ slots-are c.args.t c.requires)
