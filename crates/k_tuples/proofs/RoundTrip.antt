-- Words and the set that they hold, both ways: words that are read as a set are the words of its members, and the words of a set are read as it. Assumes nothing.
use mathlib.Core.Path.{◌≡◌, refl, sym, ap, ◌∙◌, subst}
use mathlib.Core.Bool.{Bool, true, false, cond}
use mathlib.Core.List.Memᴰ.{head as here}
use mathlib.Core.List.{List, [], ◌∷◌}
use mathlib.Core.Logic.{◌↔◌}
use Prim.Native.Nat.{ℕ, ◌+◌, ◌*◌, ◌^◌, ◌≤◌, ◌<◌}
use native.Mathlib.Omega.{arith}
use lib.ListN.{length, get_or}
use Rattle.k_tuple.specs.Strings.{Str}
use Rattle.k_tuple.proofs.Round.{fine}
use Rattle.k_tuples.specs.Sets.{Sorted}
use Rattle.k_tuples.specs.Words.{decode}
use Rattle.k_tuples.specs.Held.{DecodedSet, bad, good, set_words, AllFit, Holds, first_width, strings, holds_set, set_in, width_for}
use Rattle.k_tuples.proofs.Held.{holds-words}
use Rattle.k_tuples.proofs.Testing.{holds_read}
use Rattle.k_tuples.proofs.Answers.{any_width}
use Rattle.k_tuples.proofs.Reading.{read_back}

-- written and read back: a sorted set of fitting members, in words that have room for it
pub written_read : (k n w : ℕ) (a : List Str) → 2 * length a + 1 ≤ n → length a < 4294967296 → Sorted a → AllFit k w a → set_in k (set_words k n w a) ≡ good (width_for w a) a
written_read k n w a room counted sorted fit = read_back (holds-words k n w a room counted sorted fit)

at-any-width : {k : ℕ} (w : ℕ) (a : List Str) {ws : List ℕ} → Holds k (width_for w a) a ws → Holds k w a ws
at-any-width w [] h = any_width w h
at-any-width w (x ∷ a) h = h

-- words of 64 bits
module _ (k : ℕ) (ws : List ℕ) (low : (i : ℕ) → get_or ws i 0 < 2 ^ 64) where
  pub read-holds : (w : ℕ) (a : List Str) → set_in k ws ≡ good w a → Holds k w a ws
  unfolding set_in
  read-holds w a = by (holds_set k ws) refl
    where
      by : (t : Bool) → holds_set k ws ≡ t → cond t (good (first_width (decode ws)) (strings (decode ws))) bad ≡ good w a → Holds k w a ws
      by true t e =
          let width : first_width (decode ws) ≡ w = cc in
          let set : strings (decode ws) ≡ a = cc in
          subst (λ (b : List Str). Holds k w b ws) set (subst (λ (v : ℕ). Holds k v (strings (decode ws)) ws) width (holds_read k ws low t))
      by false t e = absurd (let z : ◌≡◌ {A = ℕ} 0 1 = cc in omega arith)

  -- read and written back: the words are those of the set, which is sorted, of fitting members, and has room
  pub read-written : (w : ℕ) (a : List Str) → set_in k ws ≡ good w a → ws ≡ set_words k (length ws) w a
  read-written w a e = (read-holds w a e).words

  pub read_set : (w : ℕ) (a : List Str) → set_in k ws ≡ good w a → (2 * length a + 1 ≤ length ws) × Sorted a × AllFit k w a
  read_set w a e = let h = read-holds w a e in (h.room, h.sorted, h.fit)

  -- both in one: words hold a set exactly when they are read as it
  pub holds-exactly : (w : ℕ) (a : List Str) → Holds k w a ws ↔ (set_in k ws ≡ good (width_for w a) a)
  holds-exactly w a = (read_back, λ e. at-any-width w a (read-holds (width_for w a) a e))

  -- and hold none exactly when they are read as none, which is refused 13
  pub none-exactly : ((w : ℕ) (a : List Str) → Holds k w a ws → ⊥) ↔ (set_in k ws ≡ bad)
  none-exactly = (by (set_in k ws) refl, λ e w a h. absurd (let f = read_back h in let z : ◌≡◌ {A = ℕ} 0 1 = cc in omega arith))
    where
      by : (d : DecodedSet) → set_in k ws ≡ d → ((w : ℕ) (a : List Str) → Holds k w a ws → ⊥) → set_in k ws ≡ bad
      by bad e h = e
      by (good w a) e h = absurd (h w a (read-holds w a e))

  -- the width that is read is 0 exactly where there are no members
  pub no-members : (w : ℕ) (a : List Str) → set_in k ws ≡ good w a → (w ≡ 0) ↔ (a ≡ [])
  no-members w a e = (none a (read-holds w a e), λ z. width ∙ ap (width_for w) z)
    where
      width : w ≡ width_for w a
      width = let f = sym e ∙ read_back (read-holds w a e) in cc

      none : (b : List Str) → Holds k w b ws → w ≡ 0 → b ≡ []
      none [] h z = refl
      none (x ∷ b) h z = absurd (let f = (fine w x (h.fit x (here refl)).well).wide in omega arith)
