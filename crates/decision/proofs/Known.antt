-- What the call returns is known by its record: any two results that meet the contract are equal. Assumes nothing.
use Prim.Native.Nat.{ℕ}
use native.Mathlib.Omega.{arith}
use mathlib.Core.Path.{◌≡◌, refl, sym, ap, ap₂, ◌∙◌}
use mathlib.Core.Bool.{cond}
use mathlib.Core.List.{List, [], ◌∷◌}
use borrow.Author.Tests.{ne_eqb}
use lib.Dec.{eqb}
use Rattle.std.specs.Prelude.{Result, Ok, Err}
use Rattle.refusals.specs.Numbers.{number}
use Rattle.refusals.specs.declared.Refusal.{Refusal}
use Rattle.refusals.proofs.Numbers.{named, named-number, number-positive}
use Rattle.decision.specs.declared.Needed.{Needed}
use Rattle.decision.specs.Call.{Record, refusals_in, ks_in, refusal_in, k_in, recorded, Promised}

abbrev refused-by : {A : Type 0} → Refusal → Result A Refusal
refused-by d = Err d

-- the answer of two numbers, a refusal or 0, and a k
abbrev told-by : ℕ → ℕ → Result ℕ Refusal
told-by r k = cond (eqb r 0) (Ok k) (Err (named r))

told-numbers : (x : Result ℕ Refusal) → told-by (refusal_in x) (k_in x) ≡ x
told-numbers (Ok k) = refl
told-numbers (Err e) =
    rw (ne_eqb (number e) 0 (λ (z : number e ≡ 0). omega (arith, number-positive e))) (ap refused-by (named-number e))

abbrev told-each : List ℕ → List ℕ → List (Result ℕ Refusal)
told-each [] ks = []
told-each (r ∷ rs) [] = []
told-each (r ∷ rs) (k ∷ ks) = told-by r k ∷ told-each rs ks

told-lists : (xs : List (Result ℕ Refusal)) → told-each (refusals_in xs) (ks_in xs) ≡ xs
told-lists [] = refl
told-lists (x ∷ xs) = ap₂ (λ (y : Result ℕ Refusal) (ys : List (Result ℕ Refusal)). y ∷ ys) (told-numbers x) (told-lists xs)

abbrev returned : Record → Result Needed Refusal
returned d = cond (eqb d.refusal 0) (Ok (record { n = d.n; answers = told-each d.refusals d.ks })) (Err (named d.refusal))

returned-record : (r : Result Needed Refusal) → returned (recorded r) ≡ r
returned-record (Ok a) = ap (λ (xs : List (Result ℕ Refusal)). Ok (record a { answers = xs })) (told-lists a.answers)
returned-record (Err e) =
    rw (ne_eqb (number e) 0 (λ (z : number e ≡ 0). omega (arith, number-positive e))) (ap refused-by (named-number e))

pub recorded-known : (r s : Result Needed Refusal) → recorded r ≡ recorded s → r ≡ s
recorded-known r s e = sym (returned-record r) ∙ ap returned e ∙ returned-record s

pub result-one : (limit c : ℕ) (table result scratch : List ℕ) (r s : Result Needed Refusal) {R S R' S' : List ℕ} → Promised limit c table result scratch (recorded r) R S
    → Promised limit c table result scratch (recorded s) R' S' → r ≡ s
result-one limit c table result scratch r s p q = recorded-known r s (p.answer ∙ sym q.answer)
