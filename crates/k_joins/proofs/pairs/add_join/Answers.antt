-- `k_joins::pairs::add_join` meets its contract. Assumes nothing.
use Rattle.k_joins.proofs.Pairing.{gives-join}
use Rattle.k_tuples.proofs.Words.{alike_at}
use borrow.Author.Rules.{rules}
use Rattle.k_joins.proofs.pairs.add_join.Goals as goal

pub join-requires : goal.join-requires
join-requires c = (search alike_at, search rules)

pub returns : goal.returns
returns c = search gives-join
