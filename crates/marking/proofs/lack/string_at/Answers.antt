-- `lack::string_at` meets its contract. Assumes nothing.
use Rattle.marking.proofs.Numbers.{inside-members, number_at, member-fits}
use native.Mathlib.Omega.{arith}
use Rattle.k_tuples.proofs.Held.{holds-set}
use Rattle.decision.proofs.Apart.{set_room, set_holds}
use Prim.Native.Nat.{◌^◌, ◌<◌}
use mathlib.Core.Path.{sym, ap, ◌∙◌, subst}
use Rattle.k_tuple.specs.declared.Terminals.{Terminals}
use Rattle.k_tuple.specs.Packed.{number_of}
use Rattle.marking.proofs.lack.string_at.Goals as goal

pub overflow_mul-at : goal.overflow_mul-at
overflow_mul-at c = omega (arith, set_room c.requires.0 _ c.requires.1.0)

pub overflow_add-end : goal.overflow_add-end
overflow_add-end c = omega (arith, set_room c.requires.0 _ c.requires.1.0)

pub offset_bounds-res-at : goal.offset_bounds-res-at
offset_bounds-res-at c = omega (arith, set_room c.requires.0 _ c.requires.1.0)

pub slice_bounds-member-end : goal.slice_bounds-member-end
slice_bounds-member-end c = omega (arith, set_room c.requires.0 _ c.requires.1.0)

pub member-requires : goal.member-requires
member-requires c = (holds-set (set_holds c.requires.0 _ c.requires.1.0), inside-members _ c.requires.1.1)

pub returns : goal.returns
returns c = (
  ap number_of c.member.ensures ∙ sym (number_at _ _ (inside-members _ c.requires.1.1)),
  subst (λ (t : Terminals). t.lo < 2 ^ 64) (sym c.member.ensures) (member-fits (set_holds c.requires.0 _ c.requires.1.0) _ (inside-members _ c.requires.1.1)),
)
