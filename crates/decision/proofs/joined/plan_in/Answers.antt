-- `joined::plan_in` meets its contract. Assumes nothing.
use Rattle.decision.proofs.Finishing.{sides-requires}
use Rattle.decision.proofs.joined.plan_in.Goals as goal

pub link_all-links-requires : goal.link_all-links-requires
link_all-links-requires c = sides-requires c.requires c.layout_of-layout.ensures
