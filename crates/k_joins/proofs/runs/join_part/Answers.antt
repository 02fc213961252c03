-- `k_joins::runs::join_part` meets its contract. Assumes nothing.
use native.Mathlib.Omega.{arith}
use Rattle.k_tuples.proofs.Words.{length-below}
use Rattle.k_joins.proofs.Joining.{well-here, complete-step, eps-step, long-step}
use Rattle.k_joins.proofs.runs.join_part.Goals as goal
use Rattle.k_joins.proofs.runs.join_part.Goals.{then-is_complete-via-then-is_complete, then-is_complete-via-else-is_complete+then-is_eps}

pub returns-then-k-count-clause-step : goal.returns-then-k-count-clause-step
returns-then-k-count-clause-step c = search long-step

pub is_complete-requires : goal.is_complete-requires
is_complete-requires c = well-here c.requires.joining c.member-x.ensures c.requires.more

pub overflow_add-result : goal.overflow_add-result
overflow_add-result c = omega (arith, length-below c.args.xs.now)

pub returns-then-is_complete-clause-step : goal.returns-then-is_complete-clause-step
returns-then-is_complete-clause-step c = elim c.then-is_complete.branch [
  | then-is_complete-via-then-is_complete w ↦ complete-step c.member-x.ensures c.requires.more c.requires.sets.0.0 c.is_complete.ensures w.if-is_complete.true
  | then-is_complete-via-else-is_complete+then-is_eps w ↦ eps-step c.member-x.ensures c.requires.more c.requires.sets.0.0 w.is_eps.ensures w.if-is_eps.true
]

pub is_eps-requires : goal.is_eps-requires
is_eps-requires c = well-here c.requires.joining c.member-x.ensures c.requires.more
