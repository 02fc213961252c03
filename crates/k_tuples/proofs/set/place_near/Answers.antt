-- `k_tuples::set::place_near` meets its contract. Assumes nothing.
use borrow.Author.Rules.{rules}
use Rattle.k_tuples.proofs.Inserting.{place-past, place_here, place_end}
use Rattle.k_tuples.proofs.set.place_near.Goals as goal
use Rattle.k_tuples.proofs.set.place_near.Goals.{else-p-count-via-then-p-count+else-lower, else-p-count-via-else-p-count}

pub find-requires : goal.find-requires
find-requires c = (search rules, search place-past)

pub returns : goal.returns
returns c = elim c.else-p-count.branch [
  | else-p-count-via-then-p-count+else-lower w ↦ search place_here
  | else-p-count-via-else-p-count w ↦ search place_end
]
