-- `own::link_all` meets its contract. Assumes nothing.
use Rattle.decision.proofs.Sides.{links-start, links-behind, links-inside, links-more, links_end}
use Rattle.decision.proofs.own.link_all.Goals as goal

pub loop-i-init : goal.loop-i-init
loop-i-init c = search links-start

pub link_one-requires : goal.link_one-requires
link_one-requires c = (search links-behind, search links-inside)

pub loop-i-preserved : goal.loop-i-preserved
loop-i-preserved c = search links-more

pub returns : goal.returns
returns c = search links_end
