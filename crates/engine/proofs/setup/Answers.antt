-- `engine::setup` meets its contract. Assumes nothing.
use Rattle.engine.proofs.Running.{setup-is}
use Rattle.engine.proofs.setup.Goals as goal

pub returns : goal.returns
returns c = search setup-is
