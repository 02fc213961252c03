-- `exports::needed::refusals_in` meets its contract. Assumes nothing.
use Rattle.exports.proofs.Needing.{telling-start, telling-more, telling-end}
use Rattle.exports.proofs.needed.refusals_in.Goals as goal

pub loop-i-init : goal.loop-i-init
loop-i-init c = telling-start _ _

pub loop-i-preserved : goal.loop-i-preserved
loop-i-preserved c = telling-more c.loop-i.invariant c.told-answers c.loop-i-test.true c.refusal_in.ensures

pub returns : goal.returns
returns c = telling-end c.loop-i.invariant c.told-answers c.loop-i-test.false
