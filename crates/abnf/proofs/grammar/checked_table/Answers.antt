-- `grammar::checked_table` meets its contract. Assumes nothing.
use Rattle.abnf.proofs.WholeLaws.{whole-numbered, whole-missing, whole-written}
use Rattle.abnf.proofs.grammar.checked_table.Goals as goal

pub returns-in-Some-clause-says : goal.returns-in-Some-clause-says
returns-in-Some-clause-says c = search whole-missing

pub number_table-requires : goal.number_table-requires
number_table-requires c = search whole-numbered

pub returns-clause-says : goal.returns-clause-says
returns-clause-says c = search whole-written
