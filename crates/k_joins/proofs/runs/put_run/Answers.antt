-- `k_joins::runs::put_run` meets its contract. Its loop is a `Running`. Assumes nothing.
use native.Mathlib.Omega.{arith}
use Rattle.k_joins.proofs.Running.{run-start, run-words, run-place, run_room, run-counted, run_more, pair_row}
use borrow.Author.Rules.{rules}
use Rattle.k_joins.proofs.runs.put_run.Goals as goal

pub loop-f-init : goal.loop-f-init
loop-f-init c = search run-start

pub put_row-requires : goal.put_row-requires
put_row-requires c = record {
  follow = (search rules, search pair_row);
  within = (omega arith, search rules);
  behind = (search run-words, search run-place);
  room = (search run_room, search run-counted);
}

pub loop-f-preserved : goal.loop-f-preserved
loop-f-preserved c = run_more c.loop-f.invariant c.requires.class.within (omega arith) (omega arith) (omega arith) (omega arith) c.member-y.ensures c.put_row.ensures
