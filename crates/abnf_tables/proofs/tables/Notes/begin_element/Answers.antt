-- `tables::Notes::begin_element` meets its contract. Assumes nothing.
use Rattle.abnf_tables.proofs.TableLaws.{element-long, element-many, element-next, element-first}
use Rattle.abnf_tables.proofs.tables.Notes.begin_element.Goals as goal

pub returns-then-self-ge64 : goal.returns-then-self-ge64
returns-then-self-ge64 c = search element-long

pub returns-then-self-ge4096 : goal.returns-then-self-ge4096
returns-then-self-ge4096 c = search element-many

pub returns-then-self-ge1 : goal.returns-then-self-ge1
returns-then-self-ge1 c = search element-next

pub returns : goal.returns
returns c = search element-first
