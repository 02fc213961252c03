-- What the loop of `k_tuple::list::made` keeps.
use Prim.Native.Nat.{◌≤◌}
use mathlib.Core.List.{[]}
use mathlib.Core.Path.{◌≡◌}
use lib.ListN.{length, take}
use Rattle.k_tuple.specs.Strings.{slots, push_all}
use Rattle.k_tuple.specs.Packed.{packed}
use Rattle.k_tuple.proofs.list.made.Given as goal

abbrev pub invariant-loop-t : goal.invariant-loop-t
invariant-loop-t l = (l.t-index ≤ length l.ts) × (l.s ≡ packed l.w (slots (push_all [] (take l.t-index l.ts))))
