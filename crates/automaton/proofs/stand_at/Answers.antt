-- `stand_at` meets its contract. Assumes nothing.
use native.Mathlib.Omega.{arith}
use Rattle.automaton.proofs.Passes.{none-stand, joined-stand}
use Rattle.automaton.proofs.stand_at.Goals as goal

pub returns-then-k-eq0 : goal.returns-then-k-eq0
returns-then-k-eq0 c = none-stand _ _ c.requires.0 c.if-k-eq0.true

pub join_k-requires : goal.join_k-requires
join_k-requires c = let s = c.requires in let n = c.if-k-eq0.false in ((s.0.given, (omega arith, s.1)), s.0.known)

pub returns : goal.returns
returns c = joined-stand _ _ c.requires.0 c.join_k.ensures
