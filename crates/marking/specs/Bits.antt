-- Marks in words, 64 a word, from the low bit on. Assumes nothing.
use Rattle.std.specs.Prelude.{ℕ, ◌/◌, ◌%◌, ◌^◌, ◌≡◌, Bool, true, List, eqb, length, get_or}

-- bit s of a word
abbrev pub bit_of : ℕ → ℕ → Bool
bit_of word s = eqb (word / 2 ^ s % 2) 1

-- mark e is set
unfoldable pub is_marked : List ℕ → ℕ → Bool
is_marked marks e = bit_of (get_or marks (e / 64) 0) (e % 64)

-- mark e was set, and no other changed
pub record MarkedAt (marks : List ℕ) (e : ℕ) (marks' : List ℕ) : Type 0 where
  pub here : is_marked marks' e ≡ true
  pub others : (f : ℕ) → ¬ f ≡ e → is_marked marks' f ≡ is_marked marks f
  pub long : length marks' ≡ length marks
