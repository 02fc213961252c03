-- The first production of words that are sound, and those behind it. Assumes nothing.
use Prim.Native.Nat.{ℕ, suc, ◌+◌, ◌-◌, ◌<◌}
use native.Mathlib.Omega.{arith}
use mathlib.Core.Path.{◌≡◌, ap, ◌∙◌}
use mathlib.Core.List.{List, ◌∷◌, map}
use lib.ListN.{length, get_or, take, drop}
use Rattle.std.proofs.lemmas.List.{take_rest}
use Rattle.cfg.specs.Words.{Below, Sound, SoundHead}
use Rattle.cfg.specs.Written.{productions_of, symbol_of}

-- it ends where k words of symbols behind its first two words end
module _ (p : ℕ) (ws : List ℕ) (some : p ≡ 0 → ⊥) (k : ℕ) (size : k ≡ get_or ws 1 0) where
  -- one, and those behind it
  one_and : p ≡ suc (p - 1)
  one_and = omega arith

  -- the words of its symbols, and those behind it
  symbols : take (2 + k - 2) (drop 2 ws) ≡ take (get_or ws 1 0) (drop 2 ws)
  symbols =
      let same : 2 + k - 2 ≡ get_or ws 1 0 = omega arith in
      rw same

  behind : take (length ws - (2 + k)) (drop (2 + k) ws) ≡ drop (2 + get_or ws 1 0) ws
  behind = rw (take_rest ws (2 + k), size)

  module _ (sound : Sound 128 p ws) where
    both : SoundHead 128 ws × Sound 128 (p - 1) (drop (2 + get_or ws 1 0) ws)
    both = rw one_and at sound

    -- its sides and what is behind it are below 128
    pub first-below : Below 128 (map symbol_of (take (2 + k - 2) (drop 2 ws)))
    first-below = rw symbols both.0.right

    pub first-left : get_or ws 0 0 < 128
    first-left = both.0.left

    pub rest-sound : Sound 128 (p - 1) (take (length ws - (2 + k)) (drop (2 + k) ws))
    rest-sound = rw behind both.1

  -- it is the first of the productions
  pub first-of : productions_of p ws
      ≡ record { left = get_or ws 0 0; right = map symbol_of (take (2 + k - 2) (drop 2 ws)) } ∷ productions_of (p - 1) (take (length ws - (2 + k)) (drop (2 + k) ws))
  first-of = ap (λ (n : ℕ). productions_of n ws) one_and ∙ rw (symbols, behind)
