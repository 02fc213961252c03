-- `k_joins::runs::has_eps` meets its contract. Assumes nothing.
use Rattle.k_joins.proofs.Joining.{eps-width, eps-asked}
use Rattle.k_joins.proofs.runs.has_eps.Goals as goal

pub eps-e-requires : goal.eps-e-requires
eps-e-requires c = search eps-width

pub returns : goal.returns
returns c = search eps-asked
