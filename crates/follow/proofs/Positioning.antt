-- The pass that makes the sets of the positions. Assumes nothing.
use Prim.Native.Nat.{ℕ, ◌+◌, ◌-◌, ◌≤◌}
use mathlib.Core.Path.{◌≡◌, sym, ap, ap₂, ◌∙◌}
use Rattle.std.specs.Prelude.{Result, Ok, Err}
use Rattle.refusals.specs.declared.Refusal.{Refusal}
use mathlib.Core.List.{List}
use Rattle.k_tuple.specs.Strings.{Str}
use Rattle.k_tuples.specs.Sets.{join_sets}
use Rattle.k_tuples.specs.States.{State, set_of}
use Rattle.k_tuples.specs.Work.{Answer, refused, got, within}
use Rattle.first.specs.declared.Setup.{Setup}
use Rattle.first.specs.Steps.{result_sets, old_sets, room, Ready, Made}
use Rattle.follow_theory.specs.Follow.{position_sets}
use Rattle.follow.specs.declared.walk.Walk.{Walk}
use Rattle.follow.specs.Walk.{Met, start_of}
use Rattle.follow.specs.Steps.{follow_at, places_at, first_sets, follow_sets, place_sets, occurrences, Suffixed, Passed}
use Rattle.follow.proofs.Passes.{Placing, placing-start, placing-end, placing-over, placing-more}
use Rattle.follow.proofs.Standing.{row-sets}
use Rattle.follow.proofs.Way.{met_at}
use Rattle.follow.proofs.Zones.{second_at, third_at}
use Rattle.follow.proofs.Passing.{Passing, passing-start, passing-end, passing-here, passing-short, passing-over, passing-next}

module _ (u : Setup) (k : ℕ) (words result₀ scratch₀ : List ℕ) where
  abbrev pub Positioning : Walk → ℕ → (result scratch : List ℕ) → Type 0
  Positioning = Passing u k words result₀ scratch₀ (Placing (room u) k (old_sets u result₀) (occurrences u words) (follow_sets u result₀))

  abbrev answer : Answer State
  answer = position_sets (room u) k (old_sets u result₀) (occurrences u words) (follow_sets u result₀)

  abbrev Ends : Result (Unit {0}) Refusal → (result scratch : List ℕ) → Type 0
  Ends r result scratch = Passed u k (answer ≡ refused 11) (λ Z. answer ≡ got Z) r result₀ scratch₀ result scratch

  pub positioning-start : Ready u k result₀ scratch₀ → Suffixed u k words result₀ → Positioning (start_of u.p) 0 result₀ scratch₀
  positioning-start r s =
      passing-start u k words result₀ scratch₀ _ r s.grammatical
      (placing-start (room u) k (old_sets u result₀) (occurrences u words) (follow_sets u result₀) (place_sets u result₀) s.suffixes)

  module _ (ready : Ready u k result₀ scratch₀) {w : Walk} {i : ℕ} {result scratch : List ℕ} (h : Positioning w i result scratch) where
    pub positioning-end : u.rsets - places_at u ≤ i → Ends (Ok tt) result scratch
    positioning-end l = passing-end u k words result₀ scratch₀ _ ready h l (placing-end (room u) k (old_sets u result₀) (occurrences u words) (follow_sets u result₀) i)

    module _ {w' : Walk} (m : Met words w w') where
      -- the join
      abbrev joined : Answer (List Str)
      joined = within (room u) (join_sets k (set_of (result_sets u result) (places_at u + i)) (set_of (result_sets u result) (follow_at u + w'.source)))

      -- the suffix set and the source's set are the two that were joined
      here : within (room u) (join_sets k (set_of h.places i) (set_of (follow_sets u result₀) w'.source))
          ≡ joined
      here =
          let A = first_sets u result₀ in
          let F = follow_sets u result₀ in
          ap₂ (λ (a b : List Str). within (room u) (join_sets k a b))
          (sym (ap (λ (R : State). set_of R (places_at u + i)) (row-sets h.row) ∙ third_at A F h.places h.row.before h.row.many i))
          (sym (ap (λ (R : State). set_of R (follow_at u + w'.source)) (row-sets h.row) ∙ second_at A F h.places h.row.before h.row.many w'.source (met_at h.way m).from))

      pub positioning-over : {e : Refusal} {result' scratch' : List ℕ} → Made u (places_at u + i) k joined (Err e) result scratch result' scratch' → Ends (Err e) result' scratch'
      positioning-over t =
          passing-over u k words result₀ scratch₀ _ ready h m t
          (placing-over (room u) k (old_sets u result₀) (occurrences u words) (passing-here u k words result₀ scratch₀ _ ready h m) (here ∙ t.ends.0))

      pub positioning-more : {result' scratch' : List ℕ} → Made u (places_at u + i) k joined (Ok tt) result scratch result' scratch' → Positioning w' (i + 1) result' scratch'
      positioning-more t =
          passing-next u k words result₀ scratch₀ _ ready h m t
          (placing-more (room u) k (old_sets u result₀) (occurrences u words) (passing-here u k words result₀ scratch₀ _ ready h m) (passing-short u k words result₀ scratch₀ _ ready h m) _ (here ∙ t.ends.made))
