-- `first::right::first_of_right_side` meets its contract. Assumes nothing.
use mathlib.Core.List.{◌∷◌, []}
use Rattle.k_tuple.specs.Strings.{eps}
use Rattle.k_tuples.specs.Held.{Fits}
use Rattle.first.specs.Steps.{room, old_sets}
use Rattle.first.proofs.Spelling.{eps-fits}
use Rattle.first.proofs.Walk.{placed_first, placed-made, no-parts}
use Rattle.first.proofs.right.first_of_right_side.Goals as goal
use Rattle.first.proofs.right.first_of_right_side.Goals.{Start}

-- ε is a member of a set at k
fits : (s : Start) → Fits s.args.k s.args.u.w eps
fits s = let ready = s.requires.0.0 in eps-fits s.args.u.w ready.wide ready.narrow s.args.k ready.least

pub put_single-requires : goal.put_single-requires
put_single-requires c =
    let ready = c.requires.0.0 in
    (record { width = c.args.u.w; z = eps; store = ready.result-store; is = c.eps.ensures; fits = fits (goal.at.put_single-requires c).Start }, (c.requires.0.1.within, ready.some))

pub returns : goal.returns
returns c =
    let a = c.args in
    placed-made (no-parts (room a.u) a.k (old_sets a.u a.res.now) a.right.now c.if-right-gt0.false)
    (placed_first (eps ∷ []) c.requires.0.0
    (c.put_single.ensures.step a.u.w eps c.requires.0.0.result-store c.eps.ensures (fits (goal.at.returns c).Start)))
