-- The strings of sets, with their productions. Assumes nothing.
use Rattle.std.specs.Prelude.{ℕ, ◌+◌, ◌*◌, ◌≤◌, ◌<◌, ◌≡◌, List, ◌++◌, map, length}
use Rattle.k_tuple.specs.Packed.{reads, terminals_in}
use Rattle.k_tuple.specs.declared.Terminals.{Terminals}
use Rattle.k_tuples.specs.Words.{member_at, decode, IsSet}
use Rattle.decision_theory.specs.Automaton.{Entry}
use Rattle.std.specs.Prelude.{Result, Ok, Err}
use Rattle.refusals.specs.declared.Refusal.{Refusal}
use Rattle.refusals.specs.declared.Refusal.TheVariants.{TooManyStates}
use Rattle.trees.specs.Listed.{Listed, Plain, SameWidth, entries}

-- Packed strings for one production.
abbrev pub entries_for : ℕ → List Terminals → List Entry
entries_for production ts = map (λ (t : Terminals). record { word = terminals_in (reads t); production = production }) ts

-- A set whose members can be put behind the n strings that there are.
pub record Collect (list : List ℕ) (n : ℕ) (set : List ℕ) (production : ℕ) : Type 0 where
  pub listed : Listed list n
  pub few : n ≤ 2048
  pub room : 6144 ≤ length list
  pub is_set : IsSet set
  pub plain : (i : ℕ) → i < length (decode set) → Plain listed.width (member_at set (2 * i + 1))
  pub small : production < 16383

-- They stand behind those, or there are too many.
pub data Collected (n production : ℕ) (set before after : List ℕ) (r : Result ℕ Refusal) : Type 0 where
  over : r ≡ Err TooManyStates → 2048 < n + length (decode set) → length after ≡ length before → Collected n production set before after r
  collected :
      r ≡ Ok (n + length (decode set)) → n + length (decode set) ≤ 2048 → ((l : Listed before n) → ((i : ℕ) → i < length (decode set) → Plain l.width (member_at set (2 * i + 1))) → SameWidth after (n + length (decode set)) l.width) → length after ≡ length before
      → entries after (n + length (decode set)) ≡ entries before n ++ entries_for production (decode set)
      → Collected n production set before after r
