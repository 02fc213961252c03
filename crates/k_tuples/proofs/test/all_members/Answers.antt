-- `k_tuples::test::all_members` meets its contract: what is left has the same answer. Assumes nothing.
use mathlib.Core.Path.{◌≡◌, refl, sym, ap, ◌∙◌}
use mathlib.Core.Bool.{Bool, ◌&&◌}
use Prim.Native.Nat.{◌+◌}
use native.Mathlib.Omega.{arith}
use lib.ListN.{drop}
use Rattle.k_tuple.specs.Packed.{reads}
use Rattle.k_tuple.specs.declared.Terminals.{Terminals}
use Rattle.k_tuples.specs.Words.{decode}
use Rattle.k_tuples.specs.Held.{is_member, all_members}
use Rattle.k_tuples.proofs.Words.{rest-member, rest-none}
use Rattle.k_tuples.proofs.test.all_members.Goals as goal
use Rattle.k_tuples.proofs.test.all_members.Goals.{After-is_member}

pub loop-i-init : goal.loop-i-init
loop-i-init c = (c.counted-i-end.ensures, refl)

-- the member at i, and those after it
turn : (c : After-is_member) →
    let a = c.args in
    let ms = decode a.words.now in
    all_members a.k a.w ms ≡ (c.is_member.result && all_members a.k a.w (drop (c.loop-i.i + 1) ms))
turn c =
    let a = c.args in
    let ws = a.words.now in
    let i = c.loop-i.i in
    c.loop-i.invariant.1
    ∙ ap (all_members a.k a.w) (rest-member ws i (omega arith))
    ∙ ap (λ (t : Bool). t && all_members a.k a.w (drop (i + 1) (decode ws)))
    (ap (λ (t : Terminals). is_member a.k a.w (reads t)) (sym c.read.ensures) ∙ sym c.is_member.ensures)

pub returns-then-not-is_member : goal.returns-then-not-is_member
returns-then-not-is_member c = sym (turn (goal.at.returns-then-not-is_member c).After-is_member ∙ rw (c.if-not-is_member.true))

pub loop-i-preserved : goal.loop-i-preserved
loop-i-preserved c =
    let inv = c.loop-i.invariant in
    (inv.0, turn (goal.at.loop-i-preserved c).After-is_member ∙ rw (c.if-not-is_member.false))

pub returns : goal.returns
returns c =
    let l = c.loop-i in
    let a = c.args in
    sym (l.invariant.1 ∙ ap (all_members a.k a.w) (rest-none a.words.now l.i (omega arith)))
