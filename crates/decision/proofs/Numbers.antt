-- The answers as two lists of numbers, at a place and after a write. Assumes nothing.
use Prim.Native.Nat.{ℕ}
use native.Mathlib.Omega.{arith}
use mathlib.Core.Path.{◌≡◌, refl, sym, ◌∙◌}
use mathlib.Core.Bool.{Bool}
use mathlib.Core.List.{List}
use lib.ListN.{length, get_or, set, length-map, get_or-map}
use Rattle.std.specs.Prelude.{Result, Ok, Err}
use Rattle.std.proofs.lemmas.List.{map-set}
use Rattle.std.proofs.Math.Seq.{map-set_same}
use Rattle.refusals.specs.declared.Refusal.{Refusal}
use Rattle.decision.specs.Call.{refusal_in, k_in, refusals_in, ks_in}
use Rattle.decision.specs.Steps.{Says}

-- what is open has k = 0
pub open-k : (x : Result ℕ Refusal) → refusal_in x ≡ 22 → k_in x ≡ 0
open-k (Ok k) e = absurd (let z : ◌≡◌ {A = ℕ} 0 22 = e in omega arith)
open-k (Err e) _ = refl

module _ (xs : List (Result ℕ Refusal)) where
  -- there are as many numbers as answers
  pub refusals-length : length (refusals_in xs) ≡ length xs
  refusals-length = length-map xs refusal_in

  pub ks-length : length (ks_in xs) ≡ length xs
  ks-length = length-map xs k_in

  module _ (a : ℕ) where
    -- the numbers of one
    pub refusal-at : get_or (refusals_in xs) a 0 ≡ refusal_in (get_or xs a (Ok 0))
    refusal-at = get_or-map refusal_in xs a (Ok 0)

    pub k-at : get_or (ks_in xs) a 0 ≡ k_in (get_or xs a (Ok 0))
    k-at = get_or-map k_in xs a (Ok 0)

    -- whether one is open, by its number
    pub open-at : {r : Bool} → Says r (refusal_in (get_or xs a (Ok 0)) ≡ 22) → Says r (get_or (refusals_in xs) a 0 ≡ 22)
    open-at s = record { yes = λ e. refusal-at ∙ s.yes e; no = λ e o. s.no e (sym refusal-at ∙ o) }

    -- one answer is written
    pub refusals-set : (x : Result ℕ Refusal) → refusals_in (set xs a x) ≡ set (refusals_in xs) a (refusal_in x)
    refusals-set x = map-set refusal_in xs a x

    pub ks-set : (x : Result ℕ Refusal) → ks_in (set xs a x) ≡ set (ks_in xs) a (k_in x)
    ks-set x = map-set k_in xs a x

    -- which has the k that stood there
    pub ks-same : (x : Result ℕ Refusal) → k_in x ≡ get_or (ks_in xs) a 0 → ks_in (set xs a x) ≡ ks_in xs
    ks-same x e = map-set_same k_in xs a x (Ok 0) (e ∙ k-at)

    -- a refusal for an open one changes no k
    pub ks-refused : (e : Refusal) → get_or (refusals_in xs) a 0 ≡ 22 → ks_in (set xs a (Err e)) ≡ ks_in xs
    ks-refused e o = ks-same (Err e) (sym (k-at ∙ open-k (get_or xs a (Ok 0)) (sym refusal-at ∙ o)))
