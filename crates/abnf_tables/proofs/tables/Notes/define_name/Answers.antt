-- `tables::Notes::define_name` meets its contract. Assumes nothing.
use Rattle.abnf_tables.proofs.TableLaws.{known-sane, defined-refused, defined-done}
use Rattle.abnf_tables.proofs.tables.Notes.define_name.Goals as goal

pub begin_rule-requires : goal.begin_rule-requires
begin_rule-requires c = search (known-sane, c.in_ok-note_name.was, c.note_name.ensures.sane)

pub returns-in_err-note_name : goal.returns-in_err-note_name
returns-in_err-note_name c = search (defined-refused, c.in_err-note_name.was)

pub returns : goal.returns
returns c = search (defined-done, c.in_ok-note_name.was)
