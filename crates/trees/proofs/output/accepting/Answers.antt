-- `trees::output::accepting` meets its contract. Assumes nothing.
use Rattle.trees.proofs.Writing.{accept-none, accept-inside, accept-ends, accept-on}
use Rattle.trees.proofs.output.accepting.Goals as goal

pub returns-then-n-eq0 : goal.returns-then-n-eq0
returns-then-n-eq0 c = search accept-none

pub string-requires : goal.string-requires
string-requires c = (c.requires.0, search accept-inside)

pub returns-then-l-state : goal.returns-then-l-state
returns-then-l-state c = search accept-ends

pub returns : goal.returns
returns c = search accept-on
