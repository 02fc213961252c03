-- `look::seek_in` meets its contract. Assumes nothing.
use Rattle.marking.proofs.Numbers.{is-there, is-not, past_all}
use Rattle.marking.proofs.look.seek_in.Goals as goal

pub returns-then-same : goal.returns-then-same
returns-then-same c = search is-there

pub returns-else-same : goal.returns-else-same
returns-else-same c = search is-not

pub returns-else-p-count : goal.returns-else-p-count
returns-else-p-count c = search past_all
