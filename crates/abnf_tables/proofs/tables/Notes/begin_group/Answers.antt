-- `tables::Notes::begin_group` meets its contract. Assumes nothing.
use Rattle.abnf_tables.proofs.TableLaws.{group-groups, group-productions, group-lefts, group-tables, group-sane}
use Rattle.abnf_tables.proofs.tables.Notes.begin_group.Goals as goal

pub count_group-requires : goal.count_group-requires
count_group-requires c = (search group-groups, search group-productions)

pub begin_left-requires : goal.begin_left-requires
begin_left-requires c = search group-lefts

pub returns-clause-says : goal.returns-clause-says
returns-clause-says c = search group-tables

pub returns-clause-sane : goal.returns-clause-sane
returns-clause-sane c = search group-sane
