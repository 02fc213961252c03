-- `k_tuples::test::is_set` meets its contract. Assumes nothing.
use mathlib.Core.Path.{refl}
use native.Mathlib.Omega.{arith}
use Rattle.k_tuples.proofs.Held.{some-held}
use Rattle.k_tuples.proofs.Testing.{failed-test, tested}
use Rattle.k_tuples.specs.Held.{first_width, strings}
use Rattle.k_tuples.specs.Cores.{HoldsAny}
use Rattle.k_tuples.specs.Words.{decode}
use Rattle.k_tuples.proofs.test.is_set.Goals as goal
use Rattle.k_tuples.proofs.test.is_set.Goals.{Else-not-is_counted}

-- past the first test
held : (c : Else-not-is_counted) → let a = c.args in let ws = a.words.now in HoldsAny a.k (first_width (decode ws)) (strings (decode ws)) ws
held c = c.is_counted.ensures.holds c.if-not-is_counted.false

pub returns-then-not-is_counted : goal.returns-then-not-is_counted
returns-then-not-is_counted c = failed-test c.is_counted.ensures c.if-not-is_counted.true

pub number-requires : goal.number-requires
number-requires c = omega (arith, (held (goal.at.number-requires c).Else-not-is_counted).room)

pub unfinished-requires : goal.unfinished-requires
unfinished-requires c = some-held (held (goal.at.unfinished-requires c).Else-not-is_counted)

pub returns : goal.returns
returns c =
    tested c.is_counted.ensures c.if-not-is_counted.false c.number.ensures c.unfinished.ensures refl
