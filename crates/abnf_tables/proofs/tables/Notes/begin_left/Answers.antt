-- `tables::Notes::begin_left` meets its contract. Assumes nothing.
use Rattle.abnf_tables.proofs.TableLaws.{left-begun}
use Rattle.abnf_tables.proofs.tables.Notes.begin_left.Goals as goal

pub returns : goal.returns
returns c = search left-begun
