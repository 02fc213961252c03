-- The pass that makes the suffix sets. Assumes nothing.
use Prim.Native.Nat.{ℕ, ◌+◌, ◌-◌, ◌≤◌}
use mathlib.Core.Path.{◌≡◌, sym, ap, ◌∙◌}
use Rattle.std.specs.Prelude.{Result, Ok, Err}
use Rattle.refusals.specs.declared.Refusal.{Refusal}
use mathlib.Core.List.{List}
use Rattle.k_tuples.specs.States.{State}
use Rattle.k_tuples.specs.Work.{refused}
use Rattle.first.specs.declared.Setup.{Setup}
use Rattle.first.specs.Steps.{old_sets, room, Ready, Made}
use Rattle.first_theory.specs.Compute.{right_side}
use Rattle.follow_theory.specs.Follow.{follow}
use Rattle.follow.specs.declared.walk.Walk.{Walk}
use Rattle.follow.specs.Suffixes.{Suffixes}
use Rattle.follow.specs.Walk.{symbols_left, Met, start_of}
use Rattle.first.specs.Rounds.{grammar_in}
use Rattle.follow.specs.Steps.{places_at, place_sets, occurrences, Grammatical, Passed}
use Rattle.follow.proofs.Suffixes.{follow-refuses}
use Rattle.follow.proofs.Passes.{Making, making-start, making-end, making-over, making-more}
use Rattle.follow.proofs.Standing.{row_old}
use Rattle.follow.proofs.Passing.{Passing, passing-start, passing-end, passing-here, passing-short, passing-over, passing-next}

module _ (u : Setup) (k : ℕ) (words result₀ scratch₀ : List ℕ) where
  abbrev pub Suffixing : Walk → ℕ → (result scratch : List ℕ) → Type 0
  Suffixing = Passing u k words result₀ scratch₀ (Making (room u) k (old_sets u result₀) (occurrences u words))

  abbrev Ends : Result (Unit {0}) Refusal → (result scratch : List ℕ) → Type 0
  Ends r result scratch =
      Passed u k (follow (room u) k (grammar_in u words) (old_sets u result₀) ≡ refused 11) (Suffixes (room u) k (old_sets u result₀) (occurrences u words)) r result₀ scratch₀ result scratch

  pub suffixing-start : Ready u k result₀ scratch₀ → Grammatical u words → Suffixing (start_of u.p) 0 result₀ scratch₀
  suffixing-start r g = passing-start u k words result₀ scratch₀ _ r g (making-start (room u) k (old_sets u result₀) (occurrences u words) (place_sets u result₀))

  module _ (ready : Ready u k result₀ scratch₀) {w : Walk} {i : ℕ} {result scratch : List ℕ} (h : Suffixing w i result scratch) where
    pub suffixing-end : u.rsets - places_at u ≤ i → Ends (Ok tt) result scratch
    suffixing-end l = passing-end u k words result₀ scratch₀ _ ready h l (making-end (room u) k (old_sets u result₀) (occurrences u words) i)

    module _ {w' : Walk} (m : Met words w w') where
      -- over the sets of the nonterminals at entry
      here : right_side (room u) k (old_sets u result₀) (symbols_left words w') ≡ right_side (room u) k (old_sets u result) (symbols_left words w')
      here = ap (λ (X : State). right_side (room u) k X (symbols_left words w')) (sym (row_old h.row))

      pub suffixing-over : {e : Refusal} {result' scratch' : List ℕ} → Made u (places_at u + i) k (right_side (room u) k (old_sets u result) (symbols_left words w')) (Err e) result scratch result' scratch' → Ends (Err e) result' scratch'
      suffixing-over t =
          passing-over u k words result₀ scratch₀ _ ready h m t
          (follow-refuses (room u) k (old_sets u result₀) (grammar_in u words)
          (making-over (room u) k (old_sets u result₀) (occurrences u words) _ _ i h.places (passing-here u k words result₀ scratch₀ _ ready h m) (here ∙ t.ends.0)))

      pub suffixing-more : {result' scratch' : List ℕ} → Made u (places_at u + i) k (right_side (room u) k (old_sets u result) (symbols_left words w')) (Ok tt) result scratch result' scratch' → Suffixing w' (i + 1) result' scratch'
      suffixing-more t =
          passing-next u k words result₀ scratch₀ _ ready h m t
          (making-more (room u) k (old_sets u result₀) (occurrences u words) _ _ i h.places (passing-here u k words result₀ scratch₀ _ ready h m) (passing-short u k words result₀ scratch₀ _ ready h m) _ (here ∙ t.ends.made))
