-- `first::round::add_due` meets its contract. Assumes nothing.
use Rattle.first.proofs.Rounds.{add_none}
use Rattle.first.proofs.round.add_due.Goals as goal

pub returns-then-due : goal.returns-then-due
returns-then-due c = rw c.if-due.true c.add_production.ensures

pub returns : goal.returns
returns c = rw c.if-due.false (add_none c.args.at c.requires.0.0)
