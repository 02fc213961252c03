-- A search for a number below n of which a test holds. Assumes nothing.
use Prim.Native.Nat.{ℕ, ◌+◌, ◌≤◌, ◌<◌}
use native.Mathlib.Numerals.{add-one}
use native.Mathlib.Omega.{arith}
use mathlib.Core.Path.{◌≡◌, refl, sym}
use mathlib.Core.Bool.{Bool, true, false}
use Rattle.cfg.specs.Marks.{any_below}
use Rattle.cfg.proofs.Marks.{any_here}

-- the test holds of no number below i
pub record Searched (n : ℕ) (test : ℕ → Bool) (i : ℕ) : Type 0 where
  pub below : i ≤ n
  pub none : any_below i test ≡ false

module _ (n : ℕ) (test : ℕ → Bool) where
  pub searched-start : Searched n test 0
  unfolding any_below
  searched-start = record { below = omega arith; none = refl }

  module _ (i : ℕ) (w : Searched n test i) where
    pub searched-found : i < n → test i ≡ true → true ≡ any_below n test
    searched-found h t = sym (any_here n test i h t)

    pub searched-more : i < n → test i ≡ false → Searched n test (i + 1)
    unfolding any_below
    searched-more h t = record { below = omega arith; none = rw (add-one, t) w.none }

    pub searched-done : n ≤ i → false ≡ any_below n test
    searched-done h =
        let end : n ≡ i = omega (arith, w.below) in
        rw end (sym w.none)
