-- `tables::Notes::end_literal` meets its contract. Assumes nothing.
use Rattle.abnf_tables.proofs.TableLaws.{known-room, literal-refused, literal-done}
use Rattle.abnf_tables.proofs.tables.Notes.end_literal.Goals as goal

pub put_item-requires : goal.put_item-requires
put_item-requires c = search (known-room, c.in_ok-note_literal.was, c.note_literal.ensures.sane)

pub returns-in_err-note_literal : goal.returns-in_err-note_literal
returns-in_err-note_literal c = search (literal-refused, c.in_err-note_literal.was)

pub returns : goal.returns
returns c = search (literal-done, c.in_ok-note_literal.was, c.note_literal.ensures.sane)
