-- `k_tuples::test::rises` meets its contract: what is left has the same answer. Assumes nothing.
use mathlib.Core.Path.{◌≡◌, refl, sym, ap, ap₂, ◌∙◌}
use mathlib.Core.Bool.{Bool, ◌&&◌}
use Prim.Native.Nat.{◌+◌, ◌-◌, ◌*◌}
use native.Mathlib.Omega.{arith}
use lib.ListN.{drop, length-drop}
use Rattle.k_tuple.specs.Packed.{less_of}
use Rattle.k_tuples.specs.Members.{before, rising}
use Rattle.k_tuples.specs.Words.{decode, member_at}
use Rattle.k_tuples.proofs.Rising.{rising-short}
use Rattle.k_tuples.proofs.Words.{length-decode, rest-member}
use Rattle.k_tuples.proofs.test.rises.Goals as goal
use Rattle.k_tuples.proofs.test.rises.Goals.{After-lower}

pub loop-i-init : goal.loop-i-init
loop-i-init c = (c.counted-i-end.ensures, refl)

-- the member before i, and those from i on
turn : (c : After-lower) →
    let ms = decode c.args.words.now in
    rising ms ≡ (c.lower.result && rising (drop c.loop-i.i ms))
unfolding rising before
turn c =
    let ws = c.args.words.now in
    let i = c.loop-i.i in
    let first : 2 * (i - 1) + 1 ≡ 2 * i - 1 = omega arith in
    let back : i - 1 + 1 ≡ i = omega arith in
    let before_i = rest-member ws (i - 1) (omega arith) in
    c.loop-i.invariant.1
    ∙ ap rising (rw (back, first) at before_i)
    ∙ ap (λ (t : Bool). t && rising (drop i (decode ws)))
    (ap (before (member_at ws (2 * i - 1))) (rest-member ws i (omega arith)) ∙ ap₂ less_of (sym c.read.ensures) (sym c.read-in-loop-i.ensures) ∙ sym c.lower.ensures)

pub returns-then-not-lower : goal.returns-then-not-lower
returns-then-not-lower c = sym (turn (goal.at.returns-then-not-lower c).After-lower ∙ rw c.if-not-lower.true)

pub loop-i-preserved : goal.loop-i-preserved
loop-i-preserved c =
    let i = c.loop-i.i in
    let on : i + 1 - 1 ≡ i = omega arith in
    (c.loop-i.invariant.0, turn (goal.at.loop-i-preserved c).After-lower ∙ rw (c.if-not-lower.false, on))

pub returns : goal.returns
returns c =
    let l = c.loop-i in
    let ws = c.args.words.now in
    sym (l.invariant.1 ∙ rising-short (drop (l.i - 1) (decode ws)) (simp length-drop (omega (arith, length-decode ws))))
