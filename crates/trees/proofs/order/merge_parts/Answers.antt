-- `trees::order::merge_parts` meets its contract. Assumes nothing.
use mathlib.Core.Path.{◌∙◌}
use Rattle.trees.proofs.Arranging.{parts-size, front-inside, back_inside, merged-parts}
use Rattle.trees.proofs.order.merge_parts.Goals as goal

pub merge-requires : goal.merge-requires
merge-requires c = let p = c.requires in let l = c.args.parts.now in let m = c.args.mid in (p.0, ((front-inside l m _ p.1.0, back_inside l m _ p.1.0), p.1.1.1 ∙ parts-size l m p.1.1.0))

pub returns : goal.returns
returns c = merged-parts c.args.parts.now c.args.mid _ _ c.merge.ensures
