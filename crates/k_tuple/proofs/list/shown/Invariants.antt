-- What the loop of `k_tuple::list::shown` keeps.
use Prim.Native.Nat.{ℕ, ◌≤◌, ◌<◌}
use mathlib.Core.Path.{◌≡◌}
use lib.ListN.{length, get_or}
use Rattle.k_tuple.specs.Packed.{reads, stored_in}
use Rattle.k_tuple.proofs.list.shown.Given as goal

abbrev pub invariant-loop-i : goal.invariant-loop-i
invariant-loop-i l = (l.i ≤ 10) × (length l.all ≡ 10) × ((j : ℕ) → j < l.i → get_or l.all j 0 ≡ get_or (stored_in (reads l.t)) j 0)
