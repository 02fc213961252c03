-- One tree is measured or written from the list of its strings. Assumes nothing.
use Prim.Native.Nat.{ℕ, ◌+◌, ◌≤◌, ◌<◌}
use native.Mathlib.Omega.{arith}
use mathlib.Core.Path.{◌≡◌, sym, ap, ◌∙◌, subst}
use mathlib.Core.List.{List, ◌++◌}
use lib.ListN.{length, take, drop}
use Rattle.cfg.specs.Grammar.{Grammar}
use Rattle.decision_theory.specs.Automaton.{Entry, State, entries_of, automaton}
use Rattle.std.specs.Prelude.{Result, Ok, Err}
use Rattle.refusals.specs.declared.Refusal.{Refusal}
use Rattle.refusals.specs.declared.Refusal.TheVariants.{TooManyStates}
use Rattle.trees.specs.Listed.{Listed, entries}
use Rattle.trees.specs.Answer as A
use Rattle.trees.specs.Answer.{Strings, SizeTold, Wrote, bytes_of}
use Rattle.trees.proofs.Kept.{strings-apart, decided-measured, decided-written, decided-many}
use Rattle.decision.specs.Steps.{grammar_of}
use Rattle.automaton.specs.declared.task.Task.{Task}
use Rattle.automaton.specs.Steps.{Planned, Stands, strings_by, tree_by, Gathered, SizeIs, Writes, trees_of, strings_of}
use Rattle.automaton.proofs.Listing.{Right, rightly, ok}

-- one that needs k needs 0 where that is 0
pub stands-zero : {task : Task} {k a : ℕ} {result : List ℕ} → Stands task k a result → k ≡ 0 → Stands task 0 a result
stands-zero {task} {k} {a} {result} s e = subst (λ (j : ℕ). Stands task j a result) e s

module _ {task : Task} {k a : ℕ} {result : List ℕ} (planned : Planned task) (stands : Stands task k a result) where
  abbrev G : Grammar
  G = grammar_of task.table.now

  -- what was decided
  right : Right task.limit task.c G a k
  right = rightly planned stands

  -- its automaton is the tree
  tree_is : trees_of task a ≡ automaton right.d
  tree_is = ap tree_by right.is

  -- its strings are those listed
  strings-are : strings_of task a ≡ entries_of right.d.choices
  strings-are = ap strings_by right.is

  module _ {list : List ℕ} {r : Result ℕ Refusal} (told : Gathered (strings_of task a) list r) where
    -- too many strings are too many states
    many-strings : (e : Refusal) → r ≡ Err e → (e ≡ TooManyStates) × (2048 < length (trees_of task a))
    many-strings e z = by told
      where
        by : Gathered (strings_of task a) list r → (e ≡ TooManyStates) × (2048 < length (trees_of task a))
        by (Gathered.over q b) = (
          let x : Err e ≡ Err TooManyStates = sym z ∙ q in cc,
          subst (λ (S : List State). 2048 < length S) (sym tree_is) (decided-many G (ok planned) a right.d right.right (subst (λ (R : List Entry). 2048 < length R) strings-are b)),
        )
        by (Gathered.gathered m q b l p) = let x : Ok m ≡ Err e = sym q ∙ z in let y : ◌≡◌ {A = ℕ} 0 1 = cc in absurd (omega arith)

    -- such a tree has no size
    pub listed-over : (e : Refusal) → r ≡ Err e → SizeTold (trees_of task a) (Err e)
    listed-over e z = let (k, b) = many-strings e z in SizeTold.over (ap Err k) b

    module _ (m : ℕ) (z : r ≡ Ok m) where
      -- what is listed are the strings of the decision
      same : entries list m ≡ entries_of right.d.choices
      same = by told
        where
          by : Gathered (strings_of task a) list r → entries list m ≡ entries_of right.d.choices
          by (Gathered.over q b) = let x : Err TooManyStates ≡ Ok m = sym q ∙ z in let y : ◌≡◌ {A = ℕ} 0 1 = cc in absurd (omega arith)
          by (Gathered.gathered j q b l e) = let x : Ok j ≡ Ok m = sym q ∙ z in let n : j ≡ m = cc in ap (entries list) (sym n) ∙ e ∙ strings-are

      -- they are apart, as the tree needs them
      pub listed-strings : Strings list m
      listed-strings = by told
        where
          by : Gathered (strings_of task a) list r → Strings list m
          by (Gathered.over q b) = let x : Err TooManyStates ≡ Ok m = sym q ∙ z in let y : ◌≡◌ {A = ℕ} 0 1 = cc in absurd (omega arith)
          by (Gathered.gathered j q b l e) =
              let x : Ok j ≡ Ok m = sym q ∙ z in
              let n : j ≡ m = cc in
              record { listed = subst (Listed list) n l; few = omega arith; apart = strings-apart G (ok planned) a right.d right.right list m same }

      module _ {s : Result ℕ Refusal} (size : A.Measured list m s) where
        -- the size that is told is its automaton's
        pub measured-is : SizeTold (trees_of task a) s
        measured-is = subst (λ (S : List State). SizeTold S s) (sym tree_is) (decided-measured G (ok planned) a right.d right.right list m same s size)

      -- what is written is the tree
      pub tree-written : {at : ℕ} {before after : List ℕ} {t : Result ℕ Refusal} → A.Written list m at before after t → Writes (trees_of task a) at before after
      tree-written {at} {before} {after} {t} w = subst (λ (S : List State). Writes S at before after) (sym tree_is) (record { done = λ few room. by few room (decided-written G (ok planned) a right.d right.right list m same at before after t w) })
        where
          by : length (automaton right.d) ≤ 2048 → at + length (bytes_of (automaton right.d)) ≤ length before → Wrote (automaton right.d) at before after t
              → after ≡ take at before ++ bytes_of (automaton right.d) ++ drop (at + length (bytes_of (automaton right.d))) before
          by few room (Wrote.too_many q b e) = absurd (omega arith)
          by few room (Wrote.no_room b q l e) = absurd (omega arith)
          by few room (Wrote.wrote b q l e) = e

    -- of a tree with too many strings nothing is written
    pub none_written : (e : Refusal) → r ≡ Err e → (at : ℕ) (before : List ℕ) → Writes (trees_of task a) at before before
    none_written e z at before = record { done = λ few room. absurd (let b = (many-strings e z).1 in omega arith) }

-- a size that is told is that of a small tree
pub size-is : {S : List State} {r : Result ℕ Refusal} → SizeTold S r → (size : ℕ) → r ≡ Ok size → SizeIs S size
size-is (SizeTold.over q b) size z = let x : Err TooManyStates ≡ Ok size = sym q ∙ z in let y : ◌≡◌ {A = ℕ} 0 1 = cc in absurd (omega arith)
size-is {S} (SizeTold.sized b q) size z = let x : Ok (length (bytes_of S)) ≡ Ok size = sym q ∙ z in record { few = b; is = cc }

-- where none is told, the tree has too many states
pub size-over : {S : List State} {r : Result ℕ Refusal} → SizeTold S r → (e : Refusal) → r ≡ Err e → (e ≡ TooManyStates) × (2048 < length S)
size-over (SizeTold.over q b) e z = (let x : Err e ≡ Err TooManyStates = sym z ∙ q in cc, b)
size-over {S} (SizeTold.sized b q) e z = let x : Ok (length (bytes_of S)) ≡ Err e = sym q ∙ z in let y : ◌≡◌ {A = ℕ} 0 1 = cc in absurd (omega arith)
