-- `grammar::write_table` meets its contract. Assumes nothing.
use Rattle.abnf.proofs.GrammarLaws.{table-full, table-written}
use Rattle.abnf.proofs.grammar.write_table.Goals as goal

pub returns-then-out-first : goal.returns-then-out-first
returns-then-out-first c = search table-full

pub returns : goal.returns
returns c = search table-written
