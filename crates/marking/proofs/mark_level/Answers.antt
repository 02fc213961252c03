-- `mark_level` meets its contract. Assumes nothing.
use Rattle.marking.proofs.Meaning.{level-done}
use Rattle.marking.proofs.mark_level.Goals as goal

pub returns : goal.returns
returns c = level-done c.requires.1.0 c.requires.1.1 c.check_rows-bad.ensures c.lack_all-missed.ensures
