-- `k_tuple::list::shown` meets its contract. The invariant: the places passed hold the slots. Assumes nothing.
use native.Mathlib.Omega.{arith}
use mathlib.Core.Path.{sym, ap, ◌∙◌}
use lib.Pow.{pow_mono}
use lib.ListN.{get_or}
use Rattle.k_tuple.specs.Strings.{Decoded, stored, places}
use Rattle.k_tuple.specs.Packed.{reads, stored_in}
use Rattle.k_tuple.proofs.Held.{seen}
use Rattle.k_tuple.proofs.Lists.{all-places, shown-plain, small_at}
use Rattle.k_tuple.proofs.list.shown.Goals as goal

pub overflow_cast-all : goal.overflow_cast-all
overflow_cast-all c =
    let g = c.requires in
    let f = (seen c.args.t g).fine in
    let narrow = pow_mono {j = 12} f.narrow in
    let small = small_at g.width (stored g.width g.str) c.loop-i.i f.small in
    omega (arith, c.slot.ensures ∙ ap (λ (d : Decoded). get_or (stored_in d) c.loop-i.i 0) g.is)

pub returns : goal.returns
returns c =
    let l = c.loop-i in
    let d = reads c.args.t in
    all-places 10 l.all (stored_in d) l.invariant.1 (λ j h. l.invariant.2 j (omega arith)) ∙ ap (places 10) (shown-plain d (sym c.is_eps.ensures ∙ c.if-is_eps.false))
