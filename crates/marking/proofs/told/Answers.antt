-- `told` meets its contract. Assumes nothing.
use Rattle.marking.proofs.Ending.{told-row, told-string}
use Rattle.marking.proofs.told.Goals as goal

pub returns-then-f-words-clause-told : goal.returns-then-f-words-clause-told
returns-then-f-words-clause-told c = told-row _ _ c.if-f-words.true

pub returns-in-Some-clause-told : goal.returns-in-Some-clause-told
returns-in-Some-clause-told c = told-string _ _ c.if-f-words.false c.in-Some.is

pub returns-clause-told : goal.returns-clause-told
returns-clause-told c = told-string _ _ c.if-f-words.false c.in_default.is
