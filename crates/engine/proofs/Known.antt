-- What the call returns is known by its record: any two results that meet the contract are equal. Assumes nothing.
use Prim.Native.Nat.{ℕ}
use native.Mathlib.Omega.{arith}
use mathlib.Core.Path.{◌≡◌, refl, sym, ap, ◌∙◌}
use mathlib.Core.Bool.{cond}
use mathlib.Core.List.{List}
use borrow.Author.Tests.{ne_eqb}
use lib.Dec.{eqb}
use Rattle.std.specs.Prelude.{Result, Ok, Err}
use Rattle.refusals.specs.Numbers.{number}
use Rattle.refusals.specs.declared.Refusal.{Refusal}
use Rattle.refusals.proofs.Numbers.{named, named-number, number-positive}
use Rattle.engine.specs.declared.Lookahead.{Lookahead}
use Rattle.engine.specs.Call.{Record, record_of, Promised}
use Rattle.engine.proofs.Demands.{call-one}

abbrev refused-by : Refusal → Result Lookahead Refusal
refused-by d = Err d

abbrev returned : Record → Result Lookahead Refusal
returned d =
    cond (eqb d.refusal 0)
    (Ok (record { n = d.n; p = d.p; q = d.q; width = d.width; rounds = d.rounds; follow = d.follow }))
    (Err (named d.refusal))

returned-record : (r : Result Lookahead Refusal) → returned (record_of r) ≡ r
returned-record (Ok a) = refl
returned-record (Err e) =
    rw (ne_eqb (number e) 0 (λ (z : number e ≡ 0). omega (arith, number-positive e))) (ap refused-by (named-number e))

pub record-known : (r s : Result Lookahead Refusal) → record_of r ≡ record_of s → r ≡ s
record-known r s e = sym (returned-record r) ∙ ap returned e ∙ returned-record s

pub result-one : (k c : ℕ) (table result scratch : List ℕ) (r s : Result Lookahead Refusal) {R S R' S' : List ℕ} → Promised k c table result scratch (record_of r) R S
    → Promised k c table result scratch (record_of s) R' S' → r ≡ s
result-one k c table result scratch r s p q = record-known r s (call-one k c table result scratch p q).0
