-- `bits::set_mark` meets its contract. Assumes nothing.
use Rattle.marking.proofs.Digits.{mark_set}
use Rattle.marking.proofs.bits.set_mark.Goals as goal

pub returns : goal.returns
returns c = mark_set _ _ c.requires.0 c.requires.1
