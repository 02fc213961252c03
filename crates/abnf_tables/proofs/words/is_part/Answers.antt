-- `words::is_part` meets its contract. Assumes nothing.
use Rattle.abnf_tables.proofs.WordLaws.{part-quoted, part-named}
use Rattle.abnf_tables.proofs.words.is_part.Goals as goal

pub returns-then-quoted : goal.returns-then-quoted
returns-then-quoted c = search part-quoted

pub returns : goal.returns
returns c = search part-named
