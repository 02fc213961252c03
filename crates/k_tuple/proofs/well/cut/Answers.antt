-- `k_tuple::well::cut` meets its contract. The invariant: the slots are the first l of those that the string has. Assumes nothing.
use native.Mathlib.Omega.{arith}
use native.Mathlib.Nat.{lt_of_le_of_lt, le_of_lt}
use Prim.Native.Nat.{ℕ, ◌+◌, ◌-◌, ◌*◌, ◌%◌, ◌^◌, ◌≤◌}
use mathlib.Core.Path.{◌≡◌, ap, ◌∙◌}
use lib.Dec.{lit<}
use mir.Facts.{Fits-below}
use Rattle.k_tuple.specs.Wide.{value}
use Rattle.k_tuple.specs.Strings.{fields}
use Rattle.k_tuple.specs.Packed.{words}
use Rattle.k_tuple.proofs.Held.{width-le, count-le, bits-le}
use Rattle.k_tuple.proofs.Pushing.{cut-stays, cut-none, cut-top, cut-falls, cut-lt}
use Rattle.k_tuple.proofs.well.cut.Goals as goal
use Rattle.k_tuple.proofs.well.cut.Goals.{After-loop-l, In-loop-l}

pub returns-then-n-k : goal.returns-then-n-k
returns-then-n-k c =
    let l = c.count-n in
    cut-stays c.args.t c.requires.0 c.args.k (omega arith) l.result l.ensures c.if-n-k.true

pub loop-l-init : goal.loop-l-init
loop-l-init c =
    let n = c.slots-s in
    (le_of_lt c.if-n-k.false, (omega arith, cut-none c.args.t c.requires.0 c.width-w.result c.count-n.result (value n.result.lo n.result.hi) c.width-w.ensures c.count-n.ensures n.ensures))

-- the slots that are left fit
bits : (c : In-loop-l) → (c.loop-l.l - 1) * c.width-w.result ≤ 120
bits c =
    let most = count-le c.args.t c.requires.0 c.count-n.result c.count-n.ensures in
    let less = c.loop-l.invariant.1.0 in
    bits-le c.args.t c.requires.0 c.width-w.result (c.loop-l.l - 1) c.width-w.ensures (omega arith)

pub overflow_mul-l : goal.overflow_mul-l
overflow_mul-l c = Fits-below {n = 120} tt (bits (goal.at.overflow_mul-l c).In-loop-l)

pub low_part-s-requires : goal.low_part-s-requires
low_part-s-requires c = lt_of_le_of_lt (bits (goal.at.low_part-s-requires c).In-loop-l) (lit< tt)

pub loop-l-preserved : goal.loop-l-preserved
loop-l-preserved c =
    let v = c.loop-l.s in
    let m = c.loop-l.l - 1 in
    let w = c.width-w.result in
    let n = c.slots-s.result in
    let one : c.loop-l.l ≡ m + 1 = omega arith in (
      omega arith,
      (omega arith, cut-top w m (value v.lo v.hi) _ (value n.lo n.hi) (c.loop-l.invariant.1.1 ∙ ap (λ (i : ℕ). value n.lo n.hi % 2 ^ (i * w)) one) c.low_part-s.ensures),
    )

-- where the loop ends, the first k are left
first-k : (c : After-loop-l) → let n = c.slots-s.result in
    value c.loop-l.s.lo c.loop-l.s.hi ≡ value n.lo n.hi % 2 ^ (c.args.k * c.width-w.result)
first-k c =
    let n = c.slots-s.result in
    let at = c.loop-l.invariant.0 in
    let all : c.loop-l.l ≡ c.args.k = omega arith in
    c.loop-l.invariant.1.1 ∙ ap (λ (i : ℕ). value n.lo n.hi % 2 ^ (i * c.width-w.result)) all

pub sealed-requires : goal.sealed-requires
sealed-requires c =
    let h = width-le c.args.t c.requires.0 c.width-w.result c.width-w.ensures in
    (omega arith, lt_of_le_of_lt c.requires.1 (lit< tt), rw (first-k (goal.at.sealed-requires c).After-loop-l) (cut-lt c.args.t c.requires.0 c.args.k c.width-w.result _ c.width-w.ensures c.requires.1))

pub returns : goal.returns
returns c =
    c.sealed.ensures
    ∙ ap (λ (v : ℕ). words (fields c.width-w.result c.args.k v)) (first-k (goal.at.returns c).After-loop-l)
    ∙ cut-falls c.args.t c.requires.0 c.args.k c.width-w.result c.count-n.result (value c.slots-s.result.lo c.slots-s.result.hi) c.width-w.ensures c.count-n.ensures c.slots-s.ensures c.if-n-k.false
