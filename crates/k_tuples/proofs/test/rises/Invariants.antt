-- What the loop of `k_tuples::test::rises` keeps.
use mathlib.Core.Path.{◌≡◌}
use Prim.Native.Nat.{◌-◌}
use lib.ListN.{drop}
use Rattle.k_tuples.specs.Members.{rising}
use Rattle.k_tuples.specs.Words.{count_in, decode}
use Rattle.k_tuples.proofs.test.rises.Given as goal

abbrev pub invariant-loop-i : goal.invariant-loop-i
invariant-loop-i l = (l.i-end ≡ count_in l.words) × (rising (decode l.words) ≡ rising (drop (l.i - 1) (decode l.words)))
