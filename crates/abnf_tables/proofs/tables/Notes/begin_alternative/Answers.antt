-- `tables::Notes::begin_alternative` meets its contract. Assumes nothing.
use Rattle.abnf_tables.proofs.TableLaws.{first-full, first_fits, produced-symbols, produced-size, first-built}
use Rattle.abnf_tables.proofs.tables.Notes.begin_alternative.Goals as goal

pub returns-then-self-ge512 : goal.returns-then-self-ge512
returns-then-self-ge512 c = search first-full

pub count_production-requires : goal.count_production-requires
count_production-requires c = search first_fits

pub count_symbol-requires : goal.count_symbol-requires
count_symbol-requires c = (search produced-symbols, search produced-size)

pub returns : goal.returns
returns c = search first-built
