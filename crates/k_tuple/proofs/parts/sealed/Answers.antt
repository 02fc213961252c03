-- `k_tuple::parts::sealed` meets its contract. Assumes nothing.
use native.Mathlib.Omega.{arith}
use Prim.Native.Nat.{◌+◌, ◌*◌}
use Rattle.k_tuple.specs.Strings.{fields}
use Rattle.k_tuple.proofs.Words.{words_of, header}
use Rattle.k_tuple.proofs.parts.sealed.Goals as goal

pub returns : goal.returns
unfolding fields
returns c =
    let a = c.args in
    words_of _ _ (omega arith) (header (a.w * 16 + a.l) a.s.lo a.s.hi (omega arith) (omega arith) c.requires.2)
