-- `pairs::decide` meets its contract. Assumes nothing.
use mathlib.Core.Path.{◌∙◌, sym}
use Rattle.decision.proofs.Numbers.{refusals-length}
use Rattle.decision.proofs.Apart.{decides-start, decides-more, decides-end}
use Rattle.decision.proofs.pairs.decide.Goals as goal

pub loop-a-init : goal.loop-a-init
loop-a-init c = decides-start _ _ _ _ _ _

pub decide_one-requires : goal.decide_one-requires
decide_one-requires c = let r = c.requires in (r.0, (c.loop-a-test.true, sym (refusals-length _) ∙ c.loop-a.invariant.so_far.long.0 ∙ refusals-length _ ∙ r.1))

pub loop-a-preserved : goal.loop-a-preserved
loop-a-preserved c = search decides-more

pub returns : goal.returns
returns c = search decides-end
