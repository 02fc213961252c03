-- A number for each nonterminal, and 0 behind them. Assumes nothing.
use Prim.Native.Nat.{ℕ, zero, suc, ◌+◌, ◌-◌, ◌≤◌, ◌<◌}
use native.Mathlib.Omega.{arith}
use native.Mathlib.Decide.{dec_lt}
use mathlib.Core.Path.{◌≡◌, refl, sym, ap, ◌∙◌, subst}
use mathlib.Core.List.{List, map}
use lib.ListN.{length, get_or, replicate, length-map, length-append, length-replicate, get_or-append, get_or-map}
use lib.Seq.{ext_get_or, get_or-append-add}
use Rattle.k_tuples.specs.Work.{Answer, refused}
use Rattle.decision.specs.Call.{padded}

-- zeros have 0 at every place
pub zeros-at : (m i : ℕ) → ◌≡◌ {A = ℕ} (get_or (replicate m 0) i 0) 0
zeros-at zero i = refl
zeros-at (suc m) zero = refl
zeros-at (suc m) (suc i) = zeros-at m i

module _ (f : Answer ℕ → ℕ) (none : f (refused 0) ≡ 0) (xs : List (Answer ℕ)) where
  -- the number of each
  pub padded-at : (A : ℕ) → A < length xs → get_or (padded (map f xs)) A 0 ≡ f (get_or xs A (refused 0))
  padded-at A h =
      get_or-append (map f xs) (replicate (128 - length (map f xs)) 0) 0 A (omega (arith, length-map xs f))
      ∙ subst (λ (z : ℕ). get_or (map f xs) A z ≡ f (get_or xs A (refused 0))) none (get_or-map f xs A (refused 0))

  -- and behind them
  pub padded-behind : (A : ℕ) → length xs ≤ A → get_or (padded (map f xs)) A 0 ≡ 0
  padded-behind A h =
      let past : length (map f xs) + (A - length (map f xs)) ≡ A = omega (arith, length-map xs f) in
      ap (λ (j : ℕ). get_or (padded (map f xs)) j 0) (sym past) ∙ get_or-append-add (map f xs) (replicate (128 - length (map f xs)) 0) (A - length (map f xs)) 0
      ∙ zeros-at (128 - length (map f xs)) (A - length (map f xs))

  -- 128 numbers that are these
  pub padded-is : (ρ : List ℕ) → length ρ ≡ 128 → length xs ≤ 128 → ((A : ℕ) → A < length xs → get_or ρ A 0 ≡ f (get_or xs A (refused 0))) → ((A : ℕ) → length xs ≤ A → get_or ρ A 0 ≡ 0)
      → ρ ≡ padded (map f xs)
  padded-is ρ long few each others =
      let size : length (map f xs) ≡ length xs = length-map xs f in
      let all : length (padded (map f xs)) ≡ 128 = length-append (map f xs) (replicate (128 - length (map f xs)) 0)
      ∙ ap (λ (n : ℕ). length (map f xs) + n) (length-replicate {A = ℕ} (128 - length (map f xs)) 0) ∙ omega arith in
      ext_get_or 0 ρ (padded (map f xs)) (long ∙ sym all) (λ A h. by A (dec_lt A (length xs)))
    where
      by : (A : ℕ) → Dec (A < length xs) → get_or ρ A 0 ≡ get_or (padded (map f xs)) A 0
      by A (yes l) = each A l ∙ sym (padded-at A l)
      by A (no n) = others A (omega arith) ∙ sym (padded-behind A (omega arith))
