-- `strings::list_for` meets its contract. Assumes nothing.
use native.Mathlib.Omega.{arith}
use Rattle.automaton.proofs.Sizing.{stands-zero}
use Rattle.automaton.proofs.strings.list_for.Goals as goal

pub list_one-requires : goal.list_one-requires
list_one-requires c = let s = c.requires in ((s.0.0, stands-zero s.0.1 c.if-k-eq0.true), s.1)

pub list_own-requires : goal.list_own-requires
list_own-requires c = let s = c.requires in let n = c.if-k-eq0.false in (s.0, ((omega arith, s.1.0), s.1.1))
