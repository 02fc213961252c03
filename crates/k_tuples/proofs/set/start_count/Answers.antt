-- `k_tuples::set::start_count` meets its contract. Assumes nothing.
use mathlib.Core.Path.{ap}
use native.Mathlib.Omega.{arith}
use lib.ListN.{set}
use Rattle.k_tuples.specs.Words.{count_word}
use Rattle.k_tuples.proofs.set.start_count.Goals as goal

pub returns : goal.returns
unfolding count_word
returns c = ap (set c.args.set.now 0) (omega arith)
