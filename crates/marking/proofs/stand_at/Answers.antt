-- `stand_at` meets its contract. Assumes nothing.
use Rattle.marking.proofs.Finding.{zero-made, level-made}
use native.Mathlib.Omega.{arith}
use Rattle.marking.proofs.stand_at.Goals as goal

pub returns-then-k-eq0 : goal.returns-then-k-eq0
returns-then-k-eq0 c = zero-made c.requires.0.0.0 c.requires.0.1 c.requires.1 c.if-k-eq0.true

pub join_k-requires : goal.join_k-requires
join_k-requires c = let n = c.if-k-eq0.false in ((c.requires.0.0.0, (omega arith, c.requires.0.0.1)), c.requires.0.1)

pub returns : goal.returns
returns c = let n = c.if-k-eq0.false in level-made c.requires.0.0.0 c.requires.0.1 c.requires.1 (omega arith) c.join_k.ensures
