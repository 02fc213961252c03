-- `engine::scratch_needs` meets its contract. Assumes nothing.
use Rattle.engine.proofs.Needed.{scratch-size}
use Rattle.engine.proofs.scratch_needs.Goals as goal

pub returns : goal.returns
returns c = search scratch-size
