-- `look::level` meets its contract. Assumes nothing.
use Rattle.marking.proofs.Looking.{level_in, level_out}
use Rattle.marking.proofs.look.level.Goals as goal

pub returns-then-at-n : goal.returns-then-at-n
returns-then-at-n c = search level_in

pub returns : goal.returns
returns c = search level_out
