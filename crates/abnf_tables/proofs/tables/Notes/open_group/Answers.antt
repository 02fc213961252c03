-- `tables::Notes::open_group` meets its contract. Assumes nothing.
use Rattle.abnf_tables.proofs.TableLaws.{opened-names, opened-lefts, opened-productions, opened-group}
use Rattle.abnf_tables.proofs.tables.Notes.open_group.Goals as goal

pub returns-then-self-ge128 : goal.returns-then-self-ge128
returns-then-self-ge128 c = search opened-names

pub returns-then-self-ge128-2 : goal.returns-then-self-ge128-2
returns-then-self-ge128-2 c = search opened-lefts

pub returns-then-self-ge512 : goal.returns-then-self-ge512
returns-then-self-ge512 c = search opened-productions

pub returns : goal.returns
returns c = search opened-group
