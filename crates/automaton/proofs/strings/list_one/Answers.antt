-- `strings::list_one` meets its contract. Assumes nothing.
use Rattle.automaton.proofs.Listing.{one-asks, one-listed}
use Rattle.automaton.proofs.strings.list_one.Goals as goal

pub add-requires : goal.add-requires
add-requires c = let s = c.requires in one-asks s.0.0 s.0.1 s.1.0 _ s.1.1

pub returns : goal.returns
returns c = let s = c.requires in one-listed s.0.0 s.0.1 s.1.0 s.1.1 c.add.ensures
