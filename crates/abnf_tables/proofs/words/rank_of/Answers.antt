-- `words::rank_of` meets its contract: the names passed are counted. Assumes nothing.
use Rattle.abnf_tables.proofs.WordLaws.{ranks-start, ranks-more, ranks-next, ranks-end}
use Rattle.abnf_tables.proofs.words.rank_of.Goals as goal
use Rattle.abnf_tables.proofs.words.rank_of.Goals.{then-is_lt, else-is_lt}

pub loop-g-init : goal.loop-g-init
loop-g-init c = search ranks-start

pub loop-g-preserved : goal.loop-g-preserved
loop-g-preserved c = elim c.if-is_lt.branch [ then-is_lt w ↦ rw w.count-is (search ranks-more) | else-is_lt w ↦ rw w.count-is (search ranks-next) ]

pub returns-clause-ranks : goal.returns-clause-ranks
returns-clause-ranks c = search ranks-end
