-- `joined::join_k` meets its contract: the engine's promise, and then its sets are joined. Assumes nothing.
use mathlib.Core.Path.{sym, ◌∙◌}
use Rattle.decision.proofs.Numbers.{refusals-length}
use lib.Seq.{length-take-le}
use Rattle.decision.proofs.Onward.{none-joined, k-ready, k-block, k-joined}
use Rattle.decision.proofs.joined.join_k.Goals as goal

pub returns-then-not-some_open : goal.returns-then-not-some_open
returns-then-not-some_open c = let s = c.requires in none-joined s.0.0 s.0.1.0 s.0.1.1 s.1 c.marks_of-marks.ensures c.some_open.ensures c.if-not-some_open.true

pub slice_bounds-join_all-end-2 : goal.slice_bounds-join_all-end-2
slice_bounds-join_all-end-2 c = let s = c.requires in let marks = c.marks_of-marks.ensures in let some = c.some_open.ensures in let call = c.lookahead_sets.ensures.promised in let taken = c.if-not-some_open.false in sym (length-take-le _ _ (k-block s.0.0 s.0.1.0 s.0.1.1 s.1 marks some taken call c.lookahead_sets.auto.scratch))

pub join_all-requires : goal.join_all-requires
join_all-requires c = let s = c.requires in let marks = c.marks_of-marks.ensures in let some = c.some_open.ensures in let call = c.lookahead_sets.ensures.promised in let taken = c.if-not-some_open.false in ((k-ready s.0.0 s.0.1.0 s.0.1.1 s.1 marks some taken call, s.0.0.fit), sym (refusals-length _) ∙ marks.long)

pub returns : goal.returns
returns c = let s = c.requires in let marks = c.marks_of-marks.ensures in let some = c.some_open.ensures in let call = c.lookahead_sets.ensures.promised in let taken = c.if-not-some_open.false in k-joined s.0.0 s.0.1.0 s.0.1.1 s.1 marks some taken call c.join_all.ensures.joined (k-block s.0.0 s.0.1.0 s.0.1.1 s.1 marks some taken call c.lookahead_sets.auto.scratch) c.join_all.auto.work
