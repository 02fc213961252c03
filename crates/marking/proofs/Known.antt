-- What the call returns is known by its record: any two results that meet the contract are equal. Assumes nothing.
use Prim.Native.Nat.{ℕ}
use native.Mathlib.Omega.{arith}
use mathlib.Core.Path.{◌≡◌, refl, sym, ap, ◌∙◌}
use mathlib.Core.Bool.{cond}
use mathlib.Core.List.{List}
use borrow.Author.Tests.{ne_eqb}
use lib.Dec.{eqb}
use Rattle.std.specs.Prelude.{Result, Ok, Err}
use Rattle.refusals.specs.Numbers.{number}
use Rattle.refusals.specs.declared.Refusal.{Refusal}
use Rattle.refusals.proofs.Numbers.{named, named-number, number-positive}
use Rattle.marking.specs.declared.answer.MarkError.{MarkError}
use Rattle.marking.specs.declared.answer.MarkError.TheVariants.{Refused, BadRow, Missing}
use Rattle.marking.specs.Call.{Record, recorded, PassedOn, Promised}

abbrev refused-by : Refusal → Result (Unit {0}) MarkError
refused-by d = Err (Refused d)

abbrev returned : Record → Result (Unit {0}) MarkError
returned d =
    cond (eqb d.refusal 0) (Ok tt)
    (cond (eqb d.refusal 24) (Err (BadRow d.row))
    (cond (eqb d.refusal 25) (Err (Missing d.nonterminal (record { lo = d.lo; hi = d.hi })))
    (Err (Refused (named d.refusal)))))

returned-record : (r : Result (Unit {0}) MarkError) → PassedOn r → returned (recorded r) ≡ r
returned-record (Ok x) p = refl
returned-record (Err (Refused e)) p =
    rw (ne_eqb (number e) 0 (λ (z : number e ≡ 0). omega (arith, number-positive e)), ne_eqb (number e) 24 (λ (z : number e ≡ 24). omega (arith, p)), ne_eqb (number e) 25 (λ (z : number e ≡ 25). omega (arith, p)))
    (ap refused-by (named-number e))
returned-record (Err (BadRow i)) p = refl
returned-record (Err (Missing A z)) p = refl

pub recorded-known : (r s : Result (Unit {0}) MarkError) → PassedOn r → PassedOn s → recorded r ≡ recorded s → r ≡ s
recorded-known r s p q e = sym (returned-record r p) ∙ ap returned e ∙ returned-record s q

pub result-one : (limit c : ℕ) (table rows result scratch : List ℕ) (r s : Result (Unit {0}) MarkError) {R S R' S' : List ℕ} → PassedOn r → PassedOn s
    → Promised limit c table rows result scratch (recorded r) R S → Promised limit c table rows result scratch (recorded s) R' S' → r ≡ s
result-one limit c table rows result scratch r s p q x y = recorded-known r s p q (x.answer ∙ sym y.answer)
