-- `tables::Notes::use_name` meets its contract. Assumes nothing.
use Rattle.abnf_tables.proofs.TableLaws.{known-room, used-refused, used-done}
use Rattle.abnf_tables.proofs.tables.Notes.use_name.Goals as goal

pub put_item-requires : goal.put_item-requires
put_item-requires c = search (known-room, c.in_ok-note_name.was, c.note_name.ensures.sane)

pub returns-in_err-note_name : goal.returns-in_err-note_name
returns-in_err-note_name c = search (used-refused, c.in_err-note_name.was)

pub returns : goal.returns
returns c = search (used-done, c.in_ok-note_name.was, c.note_name.ensures.sane)
