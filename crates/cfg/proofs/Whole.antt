-- The cases of `read_table`. Assumes nothing.
use Prim.Native.Nat.{ℕ, ◌+◌, ◌*◌, ◌≤◌}
use native.Mathlib.Omega.{arith}
use mathlib.Core.Path.{◌≡◌, sym}
use mathlib.Core.List.{List, []}
use lib.ListN.{length, take}
use borrow.Author.Tests.{eq-eqb, ne_eqb}
use Rattle.cfg.specs.Reading.{got, refused}
use Rattle.cfg.specs.Table.{Header, header, productions, read_table, grammar_of, GrammarSound}
use Rattle.cfg.proofs.Sound.{productions-sound}

module _ (b : List ℕ) where
  pub header_refused : (r : ℕ) → refused r ≡ header b → refused r ≡ read_table b
  unfolding read_table
  header_refused r s = rw (← s)

  module _ (h : Header) (next : ℕ) (s : got h next ≡ header b) where
    pub productions-refused : (r : ℕ) → refused r ≡ productions b h.n h.t 0 h.p [] next → refused r ≡ read_table b
    unfolding read_table
    productions-refused r s' = rw (← s, ← s')

    module _ (words : List ℕ) (used end : ℕ) (s' : got (take used words) end ≡ productions b h.n h.t 0 h.p [] next) where
      pub table-read : end ≡ length b → got (grammar_of h (take used words)) (length b) ≡ read_table b
      unfolding read_table
      table-read z = rw (← s, ← s', eq-eqb end (length b) z, z)

      pub table-longer : (end ≡ length b → ⊥) → refused 7 ≡ read_table b
      unfolding read_table
      table-longer z = rw (← s, ← s', ne_eqb end (length b) z)

-- what is read is sound
pub table-sound : (b : List ℕ) (n t p next : ℕ) → 1 ≤ n → n ≤ 128 → p ≤ 512 → (words : List ℕ) (used end : ℕ)
    → got (take used words) end ≡ productions b n t 0 p [] next → used ≤ 2 * p + 4096 → 5120 ≤ length words → GrammarSound n p used words
table-sound b n t p next some limit few words used end s most room = record {
  nonterminals = limit;
  productions = few;
  inside = omega arith;
  sound = (productions-sound b n t some p next (take used words) end (sym s)).0;
}
