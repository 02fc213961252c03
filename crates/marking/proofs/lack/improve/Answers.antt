-- `lack::improve` meets its contract. Assumes nothing.
use Rattle.marking.proofs.Lacking.{none_free, found-at, first_found, better-found, worse-found}
use Rattle.marking.proofs.Looking.{block-rise, block_room}
use native.Mathlib.Omega.{arith}
use Rattle.marking.proofs.lack.improve.Goals as goal

pub first_free-requires : goal.first_free-requires
first_free-requires c = (c.requires.1.1, omega (arith, c.size.ensures, block_room c.requires.0.0 _ c.requires.1.0, c.requires.0.1))

pub returns-in_default : goal.returns-in_default
returns-in_default c = none_free c.size.ensures c.first_free.ensures c.in_default.is

pub returns-then-not-lower : goal.returns-then-not-lower
returns-then-not-lower c =
    let up = block-rise c.requires.0.0 _ c.requires.1.0 in
    let at = found-at c.first_free.ensures c.in-Some.is in
    let y = c.in-Some-best.is in
    rw (← y) (worse-found up c.size.ensures at _ c.string_at-x.ensures y c.lower.ensures c.if-not-lower.true)

pub returns-else-not-lower : goal.returns-else-not-lower
returns-else-not-lower c =
    let up = block-rise c.requires.0.0 _ c.requires.1.0 in
    let at = found-at c.first_free.ensures c.in-Some.is in
    better-found up c.size.ensures at _ c.string_at-x.ensures c.in-Some-best.is c.lower.ensures c.if-not-lower.false

pub returns-in_default-best : goal.returns-in_default-best
returns-in_default-best c =
    let up = block-rise c.requires.0.0 _ c.requires.1.0 in
    let at = found-at c.first_free.ensures c.in-Some.is in
    first_found up c.size.ensures at _ c.string_at-x.ensures c.in_default-best.is
