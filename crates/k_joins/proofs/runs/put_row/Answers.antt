-- `k_joins::runs::put_row` meets its contract. Its loop is a `Rowing`. Assumes nothing.
use native.Mathlib.Omega.{arith}
use Rattle.k_joins.proofs.Running.{row_more, follows-here}
use Rattle.k_joins.proofs.runs.put_row.Goals as goal

pub followed-x-requires : goal.followed-x-requires
followed-x-requires c = follows-here {t = c.loop-t.t} c.args.xs.now c.requires.follow.1 c.loop-t.invariant.from (omega arith) c.member.ensures

pub loop-t-preserved : goal.loop-t-preserved
loop-t-preserved c = row_more c.loop-t.invariant c.requires.within.1 c.requires.room.0 c.requires.room.1 (omega arith) c.member.ensures c.followed-x.ensures c.push.ensures
