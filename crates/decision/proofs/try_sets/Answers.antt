-- `try_sets` meets its contract. Assumes nothing.
use Rattle.decision.proofs.Numbers.{refusals-length}
use Rattle.decision.proofs.Trying.{joined-sets, joined-long, sets-done}
use mathlib.Core.Path.{sym, ◌∙◌}
use lib.Seq.{length-take-le}
use Rattle.decision.proofs.try_sets.Goals as goal

pub slice_bounds-join_all-end-2 : goal.slice_bounds-join_all-end-2
slice_bounds-join_all-end-2 c = sym (length-take-le _ _ c.requires.1.0)

pub decide-requires : goal.decide-requires
decide-requires c =
    let r = c.requires in
    let j = c.join_all.ensures.joined in
    ((joined-sets j, r.0.1), sym (refusals-length _) ∙ joined-long j (refusals-length _ ∙ r.1.1))

pub returns : goal.returns
returns c =
    let r = c.requires in
    let j = c.join_all.ensures.joined in
    sets-done j _ r.1.0 c.join_all.auto.work (rw c.join_all.ensures.ks at c.decide.ensures)
