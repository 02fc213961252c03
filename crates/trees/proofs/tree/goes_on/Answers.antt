-- `trees::tree::goes_on` meets its contract. Assumes nothing.
use Rattle.trees.proofs.Looking.{goes, goes-not, goes-asks}
use Rattle.trees.proofs.tree.goes_on.Goals as goal

pub same_start-requires : goal.same_start-requires
same_start-requires c = let a = goes-asks _ _ _ _ _ c.requires.1.0 c.requires.1.1 c.index-i.ensures in (c.requires.0, (a.0, c.requires.1.1), a.1)

pub returns-then-same_start : goal.returns-then-same_start
returns-then-same_start c = search goes

pub returns : goal.returns
returns c = search goes-not
