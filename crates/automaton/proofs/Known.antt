-- What the call returns is known by its record: any two results that meet the contract are equal. Assumes nothing.
use Prim.Native.Nat.{ℕ}
use native.Mathlib.Omega.{arith}
use mathlib.Core.Path.{◌≡◌, refl, sym, ap, ◌∙◌}
use mathlib.Core.Bool.{cond}
use mathlib.Core.List.{List}
use borrow.Author.Tests.{ne_eqb}
use lib.Dec.{eqb}
use Rattle.std.specs.Prelude.{Result, Ok, Err}
use Rattle.refusals.specs.Numbers.{number}
use Rattle.refusals.specs.declared.Refusal.{Refusal}
use Rattle.refusals.proofs.Numbers.{named, named-number, number-positive}
use Rattle.automaton.specs.Call.{Automata, recorded, Promised}

abbrev refused-by : Refusal → Result ℕ Refusal
refused-by d = Err d

abbrev returned : Automata → Result ℕ Refusal
returned d = cond (eqb d.refusal 0) (Ok d.bytes) (Err (named d.refusal))

returned-record : (r : Result ℕ Refusal) → returned (recorded r) ≡ r
returned-record (Ok n) = refl
returned-record (Err e) =
    rw (ne_eqb (number e) 0 (λ (z : number e ≡ 0). omega (arith, number-positive e))) (ap refused-by (named-number e))

pub recorded-known : (r s : Result ℕ Refusal) → recorded r ≡ recorded s → r ≡ s
recorded-known r s e = sym (returned-record r) ∙ ap returned e ∙ returned-record s

pub result-one : (limit c : ℕ) (table out result scratch : List ℕ) (r s : Result ℕ Refusal) {O R S O' R' S' : List ℕ}
    → Promised limit c table out result scratch (recorded r) O R S → Promised limit c table out result scratch (recorded s) O' R' S' → r ≡ s
result-one limit c table out result scratch r s p q = recorded-known r s (p.answer ∙ sym q.answer)
