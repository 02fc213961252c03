-- `tables::Notes::close_group` meets its contract. Assumes nothing.
use Rattle.abnf_tables.proofs.TableLaws.{group-closed}
use Rattle.abnf_tables.proofs.tables.Notes.close_group.Goals as goal

pub returns-clause-says : goal.returns-clause-says
returns-clause-says c = search group-closed
