-- `k_tuple::well::end` meets its contract. Assumes nothing.
use native.Mathlib.Omega.{arith}
use mathlib.Core.Path.{ap, ◌∙◌}
use lib.Dec.{lit<}
use Rattle.k_tuple.specs.Packed.{words}
use Rattle.k_tuple.proofs.Words.{word_value}
use Rattle.k_tuple.proofs.Pushing.{end_is}
use Rattle.k_tuple.proofs.well.end.Goals as goal

pub sealed-requires : goal.sealed-requires
sealed-requires c = (omega arith, omega arith, rw (word_value 0) (lit< tt))

pub returns : goal.returns
returns c = c.sealed.ensures ∙ ap words (end_is c.args.w)
