-- `k_tuple::well::is_ended` meets its contract. Assumes nothing.
use borrow.Author.Tests.{eq-eqb}
use native.Mathlib.Omega.{arith}
use mathlib.Core.Bool.{not}
use Prim.Native.Nat.{ℕ}
use mathlib.Core.Path.{sym, ap, ◌∙◌}
use lib.Dec.{eqb}
use Rattle.k_tuple.specs.Packed.{reads, stored_in}
use Rattle.k_tuple.proofs.Held.{count-le, length-is, ended_at, not-ended}
use Rattle.k_tuple.proofs.well.is_ended.Goals as goal

pub slot-requires : goal.slot-requires
slot-requires c =
    let h = count-le c.args.t c.requires c.count-l.result c.count-l.ensures in
    (c.requires, omega arith)

pub returns-then-l-ne0 : goal.returns-then-l-ne0
returns-then-l-ne0 c =
    let l = c.count-l in
    let some = c.if-l-ne0.true in
    sym (ended_at (stored_in (reads c.args.t)) l.result (length-is c.args.t c.requires l.result l.ensures) (omega arith)
    ∙ ap (λ (x : ℕ). eqb x 0) (sym c.slot.ensures))

pub returns-else-l-ne0 : goal.returns-else-l-ne0
returns-else-l-ne0 c =
    let l = c.count-l in
    ap not (eq-eqb l.result 0 c.if-l-ne0.false) ∙ sym (not-ended (stored_in (reads c.args.t)) (length-is c.args.t c.requires l.result l.ensures ∙ c.if-l-ne0.false))
