-- `engine::result_needs` meets its contract. Assumes nothing.
use Rattle.engine.proofs.Needed.{sound-128, sets-few, result-size}
use borrow.Author.Rules.{rules}
use Rattle.engine.proofs.result_needs.Goals as goal

pub count_occurrences-q-requires : goal.count_occurrences-q-requires
count_occurrences-q-requires c = search sound-128

pub needs-requires : goal.needs-requires
needs-requires c = (search sets-few, search rules)

pub returns : goal.returns
returns c = search result-size
