-- `k_tuples::set::has` meets its contract. Assumes nothing.
use mathlib.Core.Path.{◌∙◌}
use borrow.Author.Tests.{le-ltb}
use Rattle.k_tuples.proofs.Inserting.{has-at, has-not}
use Rattle.k_tuples.proofs.set.has.Goals as goal

pub returns-then-p-count : goal.returns-then-p-count
returns-then-p-count c = search has-at

pub returns-else-p-count : goal.returns-else-p-count
returns-else-p-count c = le-ltb _ _ c.if-p-count.false ∙ search has-not
