-- `k_joins::pairs::join_row` meets its contract. Assumes nothing.
use Rattle.k_joins.proofs.Pairing.{gives_whole}
use Rattle.k_tuples.proofs.Words.{joinable-at, joinable-well}
use borrow.Author.Rules.{rules}
use Rattle.k_joins.proofs.pairs.join_row.Goals as goal

pub is_complete-requires : goal.is_complete-requires
is_complete-requires c = search joinable-well

pub returns-then-is_complete : goal.returns-then-is_complete
returns-then-is_complete c = search gives_whole

pub join_each-requires : goal.join_each-requires
join_each-requires c = (search rules, (search rules, search joinable-at))
