-- `words::find_in` meets its contract. Assumes nothing.
use Rattle.abnf_tables.proofs.TableLaws.{found-few, found-same}
use Rattle.abnf_tables.proofs.words.find_in.Goals as goal

pub returns-clause-finds : goal.returns-clause-finds
returns-clause-finds c = search found-same

pub returns-clause-inside : goal.returns-clause-inside
returns-clause-inside c = search found-few
