-- `k_tuples::set::longer` meets its contract. Assumes nothing.
use mathlib.Core.Path.{◌∙◌}
use native.Mathlib.Omega.{arith}
use lib.Dec.{lit<}
use Rattle.k_tuple.proofs.Words.{zero-value}
use Rattle.k_tuple.proofs.Held.{seen}
use Rattle.k_tuples.proofs.set.longer.Goals as goal

pub overflow_add-l : goal.overflow_add-l
overflow_add-l c =
    let v = seen c.args.x c.requires in
    omega (arith, c.count-l.ensures, v.count, v.fine.short)

pub sealed-requires : goal.sealed-requires
sealed-requires c =
    let v = seen c.args.x c.requires in
    (omega (arith, c.width.ensures, v.width, v.fine.narrow), omega (arith, c.count-l.ensures, v.count, v.fine.short), rw zero-value (lit< tt))

pub returns : goal.returns
returns c =
    c.sealed.ensures ∙ rw (c.width.ensures, c.count-l.ensures, zero-value)
