-- `k_tuple::well::slot` meets its contract. Assumes nothing.
use native.Mathlib.Omega.{arith}
use native.Mathlib.Nat.{le_of_lt}
use Rattle.k_tuple.specs.Wide.{value}
use Rattle.k_tuple.proofs.Held.{width-le, bits-le, slot_read}
use Rattle.k_tuple.proofs.well.slot.Goals as goal

pub overflow_mul-i : goal.overflow_mul-i
overflow_mul-i c =
    let h = bits-le c.args.t c.requires.0 c.width-w.result c.args.i c.width-w.ensures (le_of_lt c.requires.1) in
    omega arith

pub high_part-requires : goal.high_part-requires
high_part-requires c =
    let h = bits-le c.args.t c.requires.0 c.width-w.result c.args.i c.width-w.ensures (le_of_lt c.requires.1) in
    omega arith

pub ones-requires : goal.ones-requires
ones-requires c =
    omega (arith, width-le c.args.t c.requires.0 c.width-w.result c.width-w.ensures)

pub returns : goal.returns
returns c =
    let n = c.slots in
    let w = c.width-w in
    slot_read c.args.t c.requires.0 w.result c.ones.result c.args.i (value n.result.lo n.result.hi) c.high_part.result.lo c.high_part.result.hi
    w.ensures c.ones.ensures n.ensures c.high_part.ensures (omega arith)
