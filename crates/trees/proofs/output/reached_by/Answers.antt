-- `trees::output::reached_by` meets its contract. Assumes nothing.
use Rattle.trees.proofs.Writing.{reached, reached-some}
use Rattle.trees.proofs.output.reached_by.Goals as goal

pub unwrap-requires : goal.unwrap-requires
unwrap-requires c = reached-some _ _ _ c.requires.0 c.requires.1 _ c.index-i.ensures _ c.letter.ensures

pub returns : goal.returns
returns c = reached _ _ _ c.requires.0 c.requires.1 _ c.index-i.ensures _ c.letter.ensures _ c.unwrap.ensures
