-- `k_joins::runs::join_second` meets its contract. Assumes nothing.
use Rattle.k_joins.proofs.Joining.{first-formed, first_some, second_none}
use borrow.Author.Rules.{rules}
use Rattle.k_joins.proofs.runs.join_second.Goals as goal

pub has_eps-requires : goal.has_eps-requires
has_eps-requires c = (search rules, (search first-formed, search first_some))

pub returns : goal.returns
returns c = search second_none
