-- `grammar::number_table` meets its contract. Assumes nothing.
use Rattle.abnf.proofs.WholeLaws.{start_small, header-small, put_small, put-few, table-bytes}
use borrow.Author.Rules.{rules}
use Rattle.abnf.proofs.grammar.number_table.Goals as goal

pub number_of-start-requires : goal.number_of-start-requires
number_of-start-requires c = (search rules, search start_small)

pub write_table-requires : goal.write_table-requires
write_table-requires c = (search header-small, search put_small, search rules, search put-few)

pub returns : goal.returns
returns c = search table-bytes
