-- `k_joins::join::join_sets` meets its contract. Assumes nothing.
use Rattle.k_tuples.proofs.Words.{zeros-set}
use Rattle.k_tuples.proofs.Filling.{zeros-answer, zeros-words}
use Rattle.k_joins.proofs.join.join_sets.Goals as goal

pub join_into-g-requires : goal.join_into-g-requires
join_into-g-requires c = (search zeros-set, c.requires.1)

pub returns-clause-answer : goal.returns-clause-answer
returns-clause-answer c = search zeros-answer

pub returns-clause-words : goal.returns-clause-words
returns-clause-words c = search zeros-words
