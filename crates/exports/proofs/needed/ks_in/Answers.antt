-- `exports::needed::ks_in` meets its contract. Assumes nothing.
use mathlib.Core.Path.{◌∙◌}
use Rattle.std.specs.Prelude.{Ok, get_or}
use Rattle.exports.proofs.Needing.{telling-start, telling-more, telling-end, unwrapped}
use Rattle.exports.proofs.needed.ks_in.Goals as goal

pub loop-i-init : goal.loop-i-init
loop-i-init c = telling-start _ _

pub loop-i-preserved : goal.loop-i-preserved
loop-i-preserved c = telling-more c.loop-i.invariant c.told-answers c.loop-i-test.true (c.unwrap_or.ensures ∙ unwrapped (get_or c.args.answers.now c.loop-i.i (Ok 0)))

pub returns : goal.returns
returns c = telling-end c.loop-i.invariant c.told-answers c.loop-i-test.false
