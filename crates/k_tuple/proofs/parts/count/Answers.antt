-- `k_tuple::parts::count` meets its contract. Assumes nothing.
use native.Mathlib.Omega.{arith}
use Prim.Native.Nat.{ℕ, ◌%◌}
use mathlib.Core.Path.{ap}
use Rattle.k_tuple.specs.Strings.{count_field}
use Rattle.k_tuple.proofs.Words.{high_word}
use Rattle.k_tuple.proofs.parts.count.Goals as goal

pub returns : goal.returns
unfolding count_field
returns c = ap (λ (n : ℕ). n % 16) (high_word c.args.t.lo c.args.t.hi (omega arith) 56)
