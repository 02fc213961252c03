-- `grammar::first_missing` meets its contract. Assumes nothing.
use Rattle.abnf.proofs.GrammarLaws.{misses-start, misses-next, misses-here, misses-end}
use Rattle.abnf.proofs.grammar.first_missing.Goals as goal

pub loop-k-init : goal.loop-k-init
loop-k-init c = search misses-start

pub loop-k-preserved : goal.loop-k-preserved
loop-k-preserved c = search misses-next

pub returns-then-not-is_among : goal.returns-then-not-is_among
returns-then-not-is_among c = search misses-here

pub returns : goal.returns
returns c = search misses-end
