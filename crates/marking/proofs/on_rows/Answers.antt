-- `on_rows` meets its contract. Assumes nothing.
use Rattle.marking.proofs.Ending.{rows-marked}
use Rattle.decision.proofs.Further.{regiven}
use Rattle.marking.proofs.on_rows.Goals as goal

pub wipe_both-requires : goal.wipe_both-requires
wipe_both-requires c = let n = c.find_all-f in regiven c.requires.0.0 n.auto.res n.auto.scratch

pub told-requires : goal.told-requires
told-requires c = c.find_all-f.ensures.found.below

pub returns-clause-marked : goal.returns-clause-marked
returns-clause-marked c = let s = c.requires in rows-marked s.0.0 s.0.1 c.find_all-f.ensures c.told.ensures.told c.wipe_both.ensures
