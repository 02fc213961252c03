-- `k_tuple::parts::slots` meets its contract. Assumes nothing.
use native.Mathlib.Omega.{arith}
use Rattle.k_tuple.specs.Strings.{slots_field}
use Rattle.k_tuple.proofs.Words.{low_word}
use Rattle.k_tuple.proofs.parts.slots.Goals as goal

pub returns : goal.returns
unfolding slots_field
returns c = low_word c.args.t.lo c.args.t.hi (omega arith) 56
