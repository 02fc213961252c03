-- What the loop of `first::right::run_string` keeps.
use mathlib.Core.Path.{◌≡◌}
use mathlib.Core.List.{map}
use lib.ListN.{take}
use Rattle.k_tuple.specs.Strings.{slots}
use Rattle.k_tuple.specs.Packed.{packed}
use Rattle.first.specs.Codes.{half}
use Rattle.first.proofs.right.run_string.Given as goal

abbrev pub invariant-loop-i : goal.invariant-loop-i
invariant-loop-i l = l.s ≡ packed l.w (slots (take l.i (map half l.run)))
