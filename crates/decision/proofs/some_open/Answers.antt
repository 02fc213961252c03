-- `some_open` meets its contract. Assumes nothing.
use Rattle.decision.proofs.Numbers.{open-at}
use Rattle.decision.proofs.Marks.{looking-start, looking-more, looking-found, looking-end}
use Rattle.decision.proofs.some_open.Goals as goal

pub loop-a-init : goal.loop-a-init
loop-a-init c = looking-start _ _

pub returns-then-is_open : goal.returns-then-is_open
returns-then-is_open c = looking-found c.loop-a.invariant c.loop-a-test.true ((open-at c.args.answers.now c.loop-a.a c.is_open.ensures).yes c.if-is_open.true)

pub loop-a-preserved : goal.loop-a-preserved
loop-a-preserved c = looking-more c.loop-a.invariant c.loop-a-test.true ((open-at c.args.answers.now c.loop-a.a c.is_open.ensures).no c.if-is_open.false)

pub returns : goal.returns
returns c = search looking-end
