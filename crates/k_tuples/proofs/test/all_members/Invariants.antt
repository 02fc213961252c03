-- What the loop of `k_tuples::test::all_members` keeps.
use mathlib.Core.Path.{◌≡◌}
use lib.ListN.{drop}
use Rattle.k_tuples.specs.Words.{count_in, decode}
use Rattle.k_tuples.specs.Held.{all_members}
use Rattle.k_tuples.proofs.test.all_members.Given as goal

abbrev pub invariant-loop-i : goal.invariant-loop-i
invariant-loop-i l = (l.i-end ≡ count_in l.words) × (all_members l.k l.w (decode l.words) ≡ all_members l.k l.w (drop l.i (decode l.words)))
