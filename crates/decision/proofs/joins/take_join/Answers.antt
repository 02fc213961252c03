-- `joins::take_join` meets its contract: the join is made in the block, and then taken over. Assumes nothing.
use mathlib.Core.Path.{sym, ◌∙◌}
use native.Mathlib.Omega.{arith}
use Rattle.decision.proofs.Joining.{take-over, take-both, take_done}
use Rattle.decision.proofs.joins.take_join.Goals as goal

pub returns-then-is_err : goal.returns-then-is_err
returns-then-is_err c = let r = c.requires in take-over r.0 r.1.0 r.1.1 c.join_block.ensures (sym c.is_err.ensures.value ∙ c.if-is_err.true) c.join_block.auto.work c.clear.ensures

pub copy_block-requires : goal.copy_block-requires
copy_block-requires c = let r = c.requires in (take-both r.0 r.1.0 r.1.1 c.join_block.ensures (sym c.is_err.ensures.value ∙ c.if-is_err.false), (omega arith, r.1.0))

pub returns : goal.returns
returns c = let r = c.requires in take_done r.0 r.1.0 r.1.1 c.join_block.ensures (sym c.is_err.ensures.value ∙ c.if-is_err.false) c.copy_block.ensures
