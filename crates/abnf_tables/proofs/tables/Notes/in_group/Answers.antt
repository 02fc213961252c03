-- `tables::Notes::in_group` meets its contract. Assumes nothing.
use Rattle.abnf_tables.proofs.TableLaws.{in_group_lem}
use Rattle.abnf_tables.proofs.tables.Notes.in_group.Goals as goal

pub returns : goal.returns
returns c = search in_group_lem
