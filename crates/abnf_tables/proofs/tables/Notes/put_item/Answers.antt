-- `tables::Notes::put_item` meets its contract. Assumes nothing.
use Rattle.abnf_tables.proofs.TableLaws.{item-put}
use Rattle.abnf_tables.proofs.tables.Notes.put_item.Goals as goal

pub returns : goal.returns
returns c = search item-put
