-- `first::right::first_of_parts` meets its contract. Assumes nothing.
use mathlib.Core.Path.{◌≡◌, subst}
use mathlib.Core.List.{List}
use Prim.Native.Nat.{ℕ, ◌-◌}
use native.Mathlib.Omega.{arith}
use lib.ListN.{length, take, drop, length-take, length-drop}
use lib.Seq.{take_all}
use Rattle.first.specs.Codes.{part_of, part_length}
use Rattle.first.specs.Steps.{PartIn}
use Rattle.first.proofs.Codes.{part_in, symbols-from}
use Rattle.first.proofs.Walk.{placed-ready, parts-made}
use Rattle.first.proofs.right.first_of_parts.Goals as goal

-- what `&right[end..]` is
behind : (end : ℕ) (right : List ℕ) → take (length right - end) (drop end right) ≡ drop end right
behind end right = take_all (length right - end) (drop end right) (simp length-drop (omega arith))

pub put_codes-requires : goal.put_codes-requires
put_codes-requires c =
    let right = c.args.right.now in
    let end = c.part_end-end in
    let size : part_length right ≡ end.result = omega (arith, end.ensures) in (
      c.requires.0,
      (
        simp length-take (omega (arith, end.ensures)),
        subst (λ (n : ℕ). PartIn c.args.u (part_of (take n right))) size (part_in c.args.u right 0 c.requires.1.1 c.requires.1.0),
      ),
    )

pub join_parts-requires : goal.join_parts-requires
join_parts-requires c =
    let right = c.args.right.now in
    let end = c.part_end-end.result in (
      (placed-ready c.put_codes.ensures c.requires.0.0, c.requires.0.1),
      rw (behind end right) (symbols-from c.args.u right end c.requires.1.0),
    )

pub returns : goal.returns
returns c =
    let right = c.args.right.now in
    let end = c.part_end-end in
    let ends : end.result ≡ part_length right = omega (arith, end.ensures) in
    parts-made right (take (length right - end.result) (drop end.result right)) c.requires.0.0 c.requires.0.1 c.requires.1.1 ends (behind end.result right)
    c.put_codes.ensures c.join_parts.ensures
