-- `grammar::put_empty` meets its contract. Assumes nothing.
use Rattle.abnf.proofs.GrammarLaws.{empty-none, empty-one, empty-room}
use Rattle.abnf.proofs.grammar.put_empty.Goals as goal

pub returns-then-side-lt128 : goal.returns-then-side-lt128
returns-then-side-lt128 c = search empty-none

pub put_head-requires : goal.put_head-requires
put_head-requires c = search empty-room

pub returns : goal.returns
returns c = search empty-one
