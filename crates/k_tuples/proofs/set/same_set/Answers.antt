-- `k_tuples::set::same_set` meets its contract. Its loop is a `Matching`. Assumes nothing.
use Rattle.k_tuples.proofs.Walking.{match-not, match-start, match-more, match-ended, match-done}
use Rattle.k_tuples.proofs.set.same_set.Goals as goal

pub returns-then-count-n : goal.returns-then-count-n
returns-then-count-n c = search match-not

pub loop-i-init : goal.loop-i-init
loop-i-init c = search match-start

pub returns-then-not-same : goal.returns-then-not-same
returns-then-not-same c = match-ended c.loop-i.invariant c.loop-i-test.true c.member.ensures c.member-in-loop-i.ensures c.same.ensures c.if-not-same.true

pub loop-i-preserved : goal.loop-i-preserved
loop-i-preserved c = search match-more

pub returns : goal.returns
returns c = search match-done
