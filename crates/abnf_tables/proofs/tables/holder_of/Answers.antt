-- `tables::holder_of` meets its contract. Assumes nothing.
use Rattle.abnf_tables.proofs.TableLaws.{holds-start, holds-here, holds-next, holds-none}
use Rattle.abnf_tables.proofs.tables.holder_of.Goals as goal

pub loop-word-init : goal.loop-word-init
loop-word-init c = search holds-start

pub returns-then-word-code : goal.returns-then-word-code
returns-then-word-code c = rw (← c.from.ensures) (search holds-here)

pub loop-word-preserved : goal.loop-word-preserved
loop-word-preserved c = search holds-next

pub returns : goal.returns
returns c = rw (← c.from.ensures) (search holds-none)
