-- `answer_all` meets its contract. Assumes nothing.
use mathlib.Core.Path.{refl}
use native.Mathlib.Omega.{arith}
use Rattle.decision.proofs.Sides.{begun-stand}
use Rattle.decision.proofs.Finishing.{given-result, given-scratch, given-fits, all-answered}
use Rattle.decision.proofs.answer_all.Goals as goal

pub begin-answers-requires : goal.begin-answers-requires
begin-answers-requires c = let s = c.requires in (s.fit.linked, s.fit.few)

pub try_all-requires : goal.try_all-requires
try_all-requires c = let s = c.requires in let b = c.begin-answers.ensures in (s, rw b.ks (begun-stand _ _ _ s.sides s.sized.p s.sized.n b.begun))

pub overflow_mul-u : goal.overflow_mul-u
overflow_mul-u c = omega (arith, given-result c.requires)

pub wipe-requires : goal.wipe-requires
wipe-requires c = let m = c.try_all.auto.res in omega (arith, given-result c.requires)

pub overflow_mul-u-3 : goal.overflow_mul-u-3
overflow_mul-u-3 c = omega (arith, given-fits c.requires)

pub wipe-requires-2 : goal.wipe-requires-2
wipe-requires-2 c = let m = c.try_all.auto.scratch in omega (arith, given-scratch c.requires)

pub returns : goal.returns
returns c = let s = c.requires in all-answered s.on s.sized s.fit.few c.try_all.ensures refl c.wipe.ensures c.wipe-2.ensures
