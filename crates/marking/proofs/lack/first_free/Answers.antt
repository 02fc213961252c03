-- `lack::first_free` meets its contract. Assumes nothing.
use Rattle.marking.proofs.Lacking.{seeking-start, seeking-more, seeking-found, seeking-none}
use Rattle.marking.proofs.lack.first_free.Goals as goal

pub loop-j-init : goal.loop-j-init
loop-j-init c = seeking-start _ _ _

pub returns-then-not-is_marked : goal.returns-then-not-is_marked
returns-then-not-is_marked c = seeking-found _ _ _ c.loop-j.invariant c.is_marked.ensures c.if-not-is_marked.true c.loop-j-test.true

pub loop-j-preserved : goal.loop-j-preserved
loop-j-preserved c = seeking-more _ _ _ c.loop-j.invariant c.loop-j-test.true c.is_marked.ensures c.if-not-is_marked.false

pub returns : goal.returns
returns c = seeking-none _ _ _ c.loop-j.invariant c.loop-j-test.false
