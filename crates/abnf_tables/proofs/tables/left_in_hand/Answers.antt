-- `tables::left_in_hand` meets its contract. Assumes nothing.
use Rattle.abnf_tables.proofs.TableLaws.{left_there, left-past}
use Rattle.abnf_tables.proofs.tables.left_in_hand.Goals as goal

pub returns-then-left-count : goal.returns-then-left-count
returns-then-left-count c = search left_there

pub returns : goal.returns
returns c = search left-past
