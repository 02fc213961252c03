-- `words::head_of` meets its contract. Assumes nothing.
use Rattle.abnf_tables.proofs.WordLaws.{head-ended, head_byte, head-none}
use Rattle.abnf_tables.proofs.words.head_of.Goals as goal

pub returns-then-text-at : goal.returns-then-text-at
returns-then-text-at c = search head-ended

pub returns-then-is_part : goal.returns-then-is_part
returns-then-is_part c = search head_byte

pub returns : goal.returns
returns c = search head-none
