-- `turn` meets its contract. Assumes nothing.
use Rattle.marking.proofs.Finding.{turn-done}
use Rattle.marking.proofs.turn.Goals as goal

pub mark_level-requires : goal.mark_level-requires
mark_level-requires c = (c.stand_at.ensures.stands.stand, c.requires.1)

pub returns : goal.returns
returns c = turn-done c.stand_at.ensures c.mark_level.ensures
