-- `k_joins::runs::keep_into` meets its contract. Its loop is a `Filling`: each member of xs gives itself, if it is complete. Assumes nothing.
use Rattle.k_tuples.proofs.Filling.{fill_more, fill-full, fill_end}
use Rattle.k_joins.proofs.Running.{went_on, stayed}
use mathlib.Core.Path.{sym, ◌∙◌}
use borrow.Author.Rules.{rules}
use Rattle.k_joins.proofs.runs.keep_into.Goals as goal

pub returns-in_err-f : goal.returns-in_err-f
returns-in_err-f c = let s = c.add_kept.ensures in fill-full c.loop-i.invariant c.loop-i-test.true s.grew (stayed s.at (sym s.is ∙ c.in_err-f.was)) (search rules)

pub loop-i-preserved : goal.loop-i-preserved
loop-i-preserved c = let s = c.add_kept.ensures in fill_more c.loop-i.invariant c.loop-i-test.true s.grew (went_on (sym s.is ∙ c.in_ok-f.was)).is

pub returns : goal.returns
returns c = search fill_end
