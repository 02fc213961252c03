-- The sets FIRST(β) of the occurrences B in A → αBβ, made once. Assumes nothing.
use Rattle.std.specs.Prelude.{ℕ, List, ◌≡◌}
use Rattle.k_tuple.specs.Strings.{Str}
use Rattle.k_tuples.specs.States.{State, Each}
use Rattle.k_tuples.specs.Work.{got}
use Rattle.first_theory.specs.Compute.{right_side}
use Rattle.follow_theory.specs.Follow.{Occurrence}

-- S has FIRST(β) for each occurrence in turn; X are the FIRST sets of the nonterminals, c the room of a set
abbrev pub Suffixes : ℕ → ℕ → State → List Occurrence → State → Type 0
Suffixes c k X = Each (λ (o : Occurrence) (a : List Str). right_side c k X o.rest ≡ got a)
