-- `k_joins::runs::push` meets its contract. Assumes nothing.
use Rattle.k_joins.proofs.Running.{pushed}
use Rattle.k_joins.proofs.runs.push.Goals as goal

pub returns : goal.returns
returns c = search pushed
