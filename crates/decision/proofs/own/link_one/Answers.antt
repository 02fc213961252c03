-- `own::link_one` meets its contract. Assumes nothing.
use Rattle.decision.proofs.Sides.{link-more}
use Rattle.decision.proofs.own.link_one.Goals as goal

pub returns : goal.returns
returns c = link-more c.requires.0 c.requires.1
