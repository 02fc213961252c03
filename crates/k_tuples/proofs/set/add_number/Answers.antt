-- `k_tuples::set::add_number` meets its contract. Assumes nothing.
use mathlib.Core.Path.{ap, ◌∙◌}
use Prim.Native.Nat.{ℕ, ◌+◌}
use native.Mathlib.Omega.{arith}
use lib.ListN.{set}
use Rattle.k_tuples.specs.Words.{number_in}
use Rattle.k_tuples.proofs.Words.{set-some, number-added, renumbered, number_fits}
use Rattle.k_tuples.proofs.set.add_number.Goals as goal

pub bounds-set-0 : goal.bounds-set-0
bounds-set-0 c = omega (arith, set-some c.requires.0)

pub overflow_mul-set : goal.overflow_mul-set
overflow_mul-set c = omega (arith, c.requires.1)

pub overflow_add-set : goal.overflow_add-set
overflow_add-set c = omega (arith, number_fits c.args.set.now c.args.more c.requires.1)

pub bounds-set-0-2 : goal.bounds-set-0-2
bounds-set-0-2 c = omega (arith, set-some c.requires.0)

pub returns : goal.returns
returns c =
    let a = c.args in
    let ws = a.set.now in
    ap (λ (n : ℕ). set ws 0 n) (number-added ws a.more) ∙ renumbered (number_in ws + a.more) c.requires.0
