-- `k_joins::runs::add_cut` meets its contract. Assumes nothing.
use Rattle.k_tuples.proofs.Words.{well-formed-at}
use Rattle.k_joins.proofs.Running.{no_cut, cut-given}
use borrow.Author.Rules.{rules}
use Rattle.k_joins.proofs.runs.add_cut.Goals as goal

pub is_eps-requires : goal.is_eps-requires
is_eps-requires c = search well-formed-at

pub returns-then-is_eps : goal.returns-then-is_eps
returns-then-is_eps c = search no_cut

pub shortened-x-requires : goal.shortened-x-requires
shortened-x-requires c = (search well-formed-at, search rules)

pub returns : goal.returns
returns c = search cut-given
