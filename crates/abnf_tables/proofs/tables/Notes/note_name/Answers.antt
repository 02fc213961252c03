-- `tables::Notes::note_name` meets its contract. Assumes nothing.
use Rattle.abnf_tables.proofs.TableLaws.{noted-old, noted-full, noted-new}
use borrow.Author.Rules.{rules}
use Rattle.abnf_tables.proofs.tables.Notes.note_name.Goals as goal

pub returns-then-k-self-clause-says : goal.returns-then-k-self-clause-says
returns-then-k-self-clause-says c = search noted-old

pub returns-then-k-self-clause-sane : goal.returns-then-k-self-clause-sane
returns-then-k-self-clause-sane c = λ s w. w

pub returns-then-self-ge128-clause-says : goal.returns-then-self-ge128-clause-says
returns-then-self-ge128-clause-says c = search noted-full

pub returns-clause-says : goal.returns-clause-says
returns-clause-says c = search noted-new

pub returns-clause-sane : goal.returns-clause-sane
returns-clause-sane c = λ s w. search rules
