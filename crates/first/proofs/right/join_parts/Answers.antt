-- `first::right::join_parts` meets its contract. The loop's invariant is `Walking`. Assumes nothing.
use mathlib.Core.Path.{◌≡◌, sym, subst, ◌∙◌}
use Prim.Native.Nat.{ℕ, ◌-◌}
use native.Mathlib.Omega.{arith}
use lib.ListN.{take, drop, length-take, length-drop}
use Rattle.first.specs.Codes.{part_of, part_length}
use Rattle.first.specs.Steps.{Ready, PartIn}
use Rattle.std.specs.Prelude.{Err}
use borrow.Author.Rules.{rules}
use Rattle.first.proofs.Codes.{part_in}
use Rattle.first.proofs.Walk.{placed-ready, walk_start, walk_end, walk-stop, walk-over, walk_more}
use Rattle.first.proofs.right.join_parts.Goals as goal
use Rattle.first.proofs.right.join_parts.Goals.{At-loop-j}

-- the buffers hold sets in every turn
ready : (c : At-loop-j) → let a = c.args in Ready a.u a.k c.loop-j.res c.loop-j.scratch
ready c = placed-ready c.loop-j.invariant.placed c.requires.0.0

pub loop-j-init : goal.loop-j-init
loop-j-init c = walk_start c.args.at c.args.right.now c.requires.0.0

pub is_complete-requires : goal.is_complete-requires
is_complete-requires c =
    (record { k = c.args.k; width = c.args.u.w; store = (ready (goal.at.is_complete-requires c).At-loop-j).result-store }, c.requires.0.1.within)

pub returns-then-is_complete : goal.returns-then-is_complete
returns-then-is_complete c =
    walk-stop c.loop-j.invariant c.requires.0.0 c.requires.0.1
    (sym (c.is_complete.ensures.step c.args.u.w (ready (goal.at.returns-then-is_complete c).At-loop-j).result-store) ∙ c.if-is_complete.true)

pub join_part-requires : goal.join_part-requires
join_part-requires c =
    let l = c.loop-j in
    let right = c.args.right.now in
    let end = c.part_end-end in
    let size : part_length (drop l.j right) ≡ end.result - l.j = omega (arith, end.ensures) in (
      (ready (goal.at.join_part-requires c).At-loop-j, c.requires.0.1),
      (
        simp (length-take, length-drop) (omega (arith, end.ensures)),
        subst (λ (n : ℕ). PartIn c.args.u (part_of (take n (drop l.j right)))) size (part_in c.args.u right l.j c.loop-j-test.true c.requires.1),
      ),
    )

pub returns-in_err-join_part : goal.returns-in_err-join_part
returns-in_err-join_part c =
    let end = c.part_end-end in
    let e : c.from_residual.result ≡ Err c.in_err-join_part.field-0.0 = search rules in
    rw e (walk-over c.loop-j.invariant c.requires.0.0 c.requires.0.1 c.loop-j-test.true end.result end.ensures.0 c.in_err-join_part.ensures)

pub loop-j-preserved : goal.loop-j-preserved
loop-j-preserved c =
    let end = c.part_end-end in
    walk_more c.loop-j.invariant c.requires.0.0 c.requires.0.1 c.loop-j-test.true end.result end.ensures.0 c.in_ok-join_part.ensures end.ensures.1.1

pub returns : goal.returns
returns c = walk_end c.loop-j.invariant c.loop-j-test.false
