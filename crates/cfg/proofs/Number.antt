-- The cases of `number`, each from the tests that lead to it. Assumes nothing.
use Prim.Native.Nat.{ℕ, ◌+◌, ◌*◌, ◌-◌, ◌≤◌, ◌<◌}
use mathlib.Core.Path.{◌≡◌}
use mathlib.Core.List.{List}
use mathlib.Core.Bool.{Bool, true, false, not, ◌&&◌}
use lib.ListN.{length, get_or}
use lib.Dec.{ltb, leb}
use borrow.Author.Tests.{lt-ltb, le-ltb, not-true, not-false}
use Rattle.cfg.specs.Reading.{got, refused}
use Rattle.cfg.specs.Number.{number}

module _ (b : List ℕ) (at : ℕ) where
  pub ended : length b ≤ at → refused 3 ≡ number b at
  ended h = simp (le-ltb at (length b) h)

  pub one-group : (low : ℕ) → low ≡ get_or b at 0 → at < length b → low < 128 → got low (at + 1) ≡ number b at
  one-group low e h l = simp (lt-ltb at (length b) h, ← e, lt-ltb low 128 l)

  module _ (low : ℕ) (e : low ≡ get_or b at 0) (h : at < length b) (l : 128 ≤ low) where
    pub ended-second : length b ≤ at + 1 → refused 3 ≡ number b at
    ended-second s = simp (lt-ltb at (length b) h, ← e, le-ltb low 128 l, le-ltb (at + 1) (length b) s)

    module _ (high : ℕ) (f : high ≡ get_or b (at + 1) 0) (s : at + 1 < length b) where
      module _ (last : Bool) (g : last ≡ (leb 1 high && ltb high 128)) where
        pub not_last : not last ≡ true → refused 4 ≡ number b at
        not_last z = simp (lt-ltb at (length b) h, ← e, le-ltb low 128 l, lt-ltb (at + 1) (length b) s, ← f, ← g, not-true last z)

        pub two-groups : not last ≡ false → got (low - 128 + high * 128) (at + 1 + 1) ≡ number b at
        two-groups z = simp (lt-ltb at (length b) h, ← e, le-ltb low 128 l, lt-ltb (at + 1) (length b) s, ← f, ← g, not-false last z)
