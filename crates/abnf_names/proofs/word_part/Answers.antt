-- `word_part` meets its contract. Assumes nothing.
use Rattle.abnf_names.proofs.PartLaws.{word-inside, word-outside}
use Rattle.abnf_names.proofs.word_part.Goals as goal

pub returns-then-text-end : goal.returns-then-text-end
returns-then-text-end c = search word-outside

pub returns : goal.returns
returns c = search word-inside
