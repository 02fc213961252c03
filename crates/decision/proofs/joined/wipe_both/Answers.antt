-- `joined::wipe_both` meets its contract. Assumes nothing.
use native.Mathlib.Omega.{arith}
use Rattle.decision.proofs.Finishing.{given-result, given-scratch, given-fits}
use Rattle.decision.proofs.Further.{wiped-both}
use Rattle.decision.proofs.joined.wipe_both.Goals as goal

pub overflow_mul-u : goal.overflow_mul-u
overflow_mul-u c = omega (arith, given-result c.requires)

pub wipe-requires : goal.wipe-requires
wipe-requires c = omega (arith, given-result c.requires)

pub overflow_mul-u-3 : goal.overflow_mul-u-3
overflow_mul-u-3 c = omega (arith, given-fits c.requires)

pub wipe-requires-2 : goal.wipe-requires-2
wipe-requires-2 c = omega (arith, given-scratch c.requires)

pub returns : goal.returns
returns c = wiped-both c.requires c.wipe.ensures c.wipe-2.ensures
