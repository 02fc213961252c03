-- `words::compare_words` meets its contract: what is left of the two words compares as the whole does. Assumes nothing.
use Rattle.abnf_tables.proofs.WordLaws.{compares-start, compares-less, compares-more, compares-none, compares-next, compares-both, compares-first}
use Rattle.abnf_tables.proofs.words.compare_words.Goals as goal

pub loop-i-init : goal.loop-i-init
loop-i-init c = search compares-start

pub returns-then-x-y : goal.returns-then-x-y
returns-then-x-y c = search compares-less

pub returns-then-y-x : goal.returns-then-y-x
returns-then-y-x c = search compares-more

pub returns-then-x-eq0 : goal.returns-then-x-eq0
returns-then-x-eq0 c = search compares-none

pub loop-i-preserved : goal.loop-i-preserved
loop-i-preserved c = search compares-next

pub returns-then-head_of-eq0 : goal.returns-then-head_of-eq0
returns-then-head_of-eq0 c = search compares-both

pub returns : goal.returns
returns c = search compares-first
