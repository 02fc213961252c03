-- `k_joins::runs::join_stay` meets its contract. Assumes nothing.
use Rattle.k_joins.proofs.Joining.{first-formed, second-formed, second-some}
use borrow.Author.Rules.{rules}
use Rattle.k_joins.proofs.runs.join_stay.Goals as goal

pub has_eps-requires : goal.has_eps-requires
has_eps-requires c = (search rules, (search second-formed, search second-some))

pub keep_into-requires : goal.keep_into-requires
keep_into-requires c = (search rules, (search rules, search first-formed))
