-- `first::level::next_level` meets its contract. Assumes nothing.
use mathlib.Core.Path.{◌≡◌, subst}
use Prim.Native.Nat.{ℕ}
use native.Mathlib.Omega.{arith}
use Rattle.first.specs.Steps.{Ready}
use Rattle.first.proofs.Levels.{ready-raised, level-raised}
use Rattle.first.proofs.level.next_level.Goals as goal

-- level 1 is the lowest
pub first_level-requires : goal.first_level-requires
first_level-requires c =
    let r = c.requires.0.0 in
    let lowest : r.j ≡ c.args.k = omega (arith, r.low, r.ready.least, c.if-k-eq1.true) in
    ((subst (λ (k : ℕ). Ready c.args.u k c.args.res.now c.args.scratch.now) lowest r.ready, c.requires.0.1), c.requires.1)

pub returns-then-k-eq1 : goal.returns-then-k-eq1
returns-then-k-eq1 c = c.first_level.ensures

pub raise-requires : goal.raise-requires
raise-requires c = let r = c.requires.0.0 in record { j = r.j; width = _; low = r.low; store = r.ready.result-store }

pub raise-requires-2 : goal.raise-requires-2
raise-requires-2 c = let r = c.requires.0.0 in record { j = r.j; width = _; low = r.low; store = r.ready.scratch-store }

pub first_level-requires-2 : goal.first_level-requires-2
first_level-requires-2 c =
    ((ready-raised c.requires.0.0 c.raise.ensures c.raise-2.ensures, c.requires.0.1), c.requires.1)

pub returns : goal.returns
returns c =
    level-raised c.requires.0.0 c.raise.ensures c.raise-2.ensures c.args.words.now c.first_level-2.ensures
