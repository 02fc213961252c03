-- `words::find_word` meets its contract: the places passed hold other words. Assumes nothing.
use Rattle.abnf_tables.proofs.WordLaws.{finds-start, finds-here, finds-next, finds-end}
use Rattle.abnf_tables.proofs.words.find_word.Goals as goal

pub loop-k-init : goal.loop-k-init
loop-k-init c = search finds-start

pub returns-then-is_eq-clause-finds : goal.returns-then-is_eq-clause-finds
returns-then-is_eq-clause-finds c = search finds-here

pub loop-k-preserved : goal.loop-k-preserved
loop-k-preserved c = search finds-next

pub returns-clause-finds : goal.returns-clause-finds
returns-clause-finds c = search finds-end
