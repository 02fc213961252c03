-- `k_tuple::parts::width` meets its contract. Assumes nothing.
use native.Mathlib.Omega.{arith}
use Rattle.k_tuple.specs.Strings.{width_field}
use Rattle.k_tuple.proofs.Words.{high_word}
use Rattle.k_tuple.proofs.parts.width.Goals as goal

pub returns : goal.returns
unfolding width_field
returns c = high_word c.args.t.lo c.args.t.hi (omega arith) 60
