-- `tables::Notes::note_literal` meets its contract. Assumes nothing.
use Rattle.abnf_tables.proofs.TableLaws.{listed-old, listed-full, listed-new}
use borrow.Author.Rules.{rules}
use Rattle.abnf_tables.proofs.tables.Notes.note_literal.Goals as goal

pub returns-then-x-self-clause-says : goal.returns-then-x-self-clause-says
returns-then-x-self-clause-says c = search listed-old

pub returns-then-x-self-clause-sane : goal.returns-then-x-self-clause-sane
returns-then-x-self-clause-sane c = λ s w. w

pub returns-then-self-ge4089-clause-says : goal.returns-then-self-ge4089-clause-says
returns-then-self-ge4089-clause-says c = search listed-full

pub returns-clause-says : goal.returns-clause-says
returns-clause-says c = search listed-new

pub returns-clause-sane : goal.returns-clause-sane
returns-clause-sane c = λ s w. search rules
