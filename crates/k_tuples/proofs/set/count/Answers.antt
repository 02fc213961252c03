-- `k_tuples::set::count` meets its contract. Assumes nothing.
use mathlib.Core.Path.{sym, ◌∙◌}
use Rattle.k_tuples.proofs.Words.{set-some, length-decode}
use borrow.Author.Rules.{rules}
use Rattle.k_tuples.proofs.set.count.Goals as goal

pub counted-requires : goal.counted-requires
counted-requires c = search (rules, set-some)

pub returns : goal.returns
returns c = c.counted.ensures ∙ sym (length-decode c.args.set.now)
