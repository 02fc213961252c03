-- A part that is returned is known by what it says: any two results that meet the contract are equal. Assumes nothing.
use Prim.Native.Nat.{◌+◌, ◌<◌}
use native.Mathlib.Omega.{arith}
use mathlib.Core.Path.{◌≡◌, refl, sym, ap, subst}
use Rattle.std.specs.Prelude.{Option, Some, None}
use Rattle.abnf_names.specs.declared.TextPart.{TextPart}
use Rattle.abnf_names.specs.Parts.{no_part}
use Rattle.abnf_names.specs.Noted.{part_says, Given}

-- no part that is given is that of none
not_none : (p : TextPart) → 0 < p.start + p.end → p ≡ no_part → ⊥
not_none p g e = let z : 0 < no_part.start + no_part.end = subst (λ (x : TextPart). 0 < x.start + x.end) e g in omega (arith, z)

pub part-known : (p q : Option TextPart) → Given p → Given q → part_says p ≡ part_says q → p ≡ q
part-known None None g h e = refl
part-known None (Some q) g h e = absurd (not_none q h (sym e))
part-known (Some p) None g h e = absurd (not_none p g e)
part-known (Some p) (Some q) g h e = ap (λ (x : TextPart). Some x) e
