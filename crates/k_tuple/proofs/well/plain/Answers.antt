-- `k_tuple::well::plain` meets its contract. Assumes nothing.
use mathlib.Core.Path.{sym, ap, ◌∙◌}
use lib.ListN.{length}
use Rattle.k_tuple.specs.Strings.{number}
use Rattle.k_tuple.specs.Packed.{reads, width_in}
use Rattle.k_tuple.proofs.Words.{zero-value}
use Rattle.k_tuple.proofs.Held.{eps-none}
use Rattle.k_tuple.proofs.well.plain.Goals as goal

pub returns-then-is_eps : goal.returns-then-is_eps
returns-then-is_eps c =
    let d = reads c.args.t in
    let none = eps-none d (sym c.is_eps.ensures ∙ c.if-is_eps.true) in
    (ap length none, zero-value ∙ ap (number (width_in d)) none)
