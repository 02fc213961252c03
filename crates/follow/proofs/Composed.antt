-- The whole work, from its four steps: the suffix sets, the start, the rounds, the positions. Assumes nothing.
use Prim.Native.Nat.{ℕ, suc, ◌*◌}
use native.Mathlib.Omega.{arith}
use mathlib.Core.Path.{◌≡◌, sym, ap₂, ◌∙◌}
use Rattle.std.specs.Prelude.{Result, Ok, Err}
use Rattle.refusals.specs.declared.Refusal.{Refusal}
use mathlib.Core.List.{List}
use Rattle.k_tuples.specs.States.{State}
use Rattle.k_tuples.specs.Work.{refused, got, settle}
use Rattle.blocks.proofs.Stores.{turned-store, turned-beyond}
use Rattle.first.specs.declared.Setup.{Setup}
use Rattle.first.specs.Steps.{old_sets, room, Ready, OrTooLarge}
use Rattle.first.proofs.Walk.{still-ready}
use Rattle.follow_theory.specs.Equations.{start}
use Rattle.follow_theory.specs.Follow.{take_all, follow, position_sets}
use Rattle.follow.specs.Suffixes.{Suffixes}
use Rattle.follow.specs.Steps.{first_sets, follow_sets, place_sets, occurrences, Grammatical, InRow, Stands, Suffixed, Running, Begins, Started, Ended, Passed}
use Rattle.follow.specs.Whole.{follow_of, positions_of, FollowDone, Followed, Positioned}
use Rattle.follow.proofs.Standing.{row_first, row-follow, row-places, row_old, row-then, stands-ready, stands-copied}

-- a row over the sets as they were before another row
row-over : {u : Setup} {k : ℕ} {F Z G : State} {result₀ result result' : List ℕ}
    → InRow u k (first_sets u result₀) F Z result₀ result → InRow u k (first_sets u result) G (place_sets u result) result result' → InRow u k (first_sets u result₀) G Z result₀ result'
row-over s t = row-then s (rw (← row_first s, ← row-places s) t)

module _ {u : Setup} {k : ℕ} {words result₀ scratch₀ : List ℕ} (ready : Ready u k result₀ scratch₀) (g : Grammatical u words) where
  abbrev X : State
  X = old_sets u result₀

  module _ {result₁ scratch₁ : List ℕ} where
    pub suffixes-over : {e : Refusal} → Passed u k (follow_of u k words result₀ ≡ refused 11) (Suffixes (room u) k X (occurrences u words)) (Err e) result₀ scratch₀ result₁ scratch₁
        → Followed u k words (Err e) result₀ scratch₀ result₁ scratch₁
    suffixes-over s = record { ends = s.ends; result-beyond = s.result-beyond; scratch-beyond = s.scratch-beyond }

    module _ (s : Passed u k (follow_of u k words result₀ ≡ refused 11) (Suffixes (room u) k X (occurrences u words)) (Ok tt) result₀ scratch₀ result₁ scratch₁) where
      abbrev Z : State
      Z = s.ends.places

      abbrev row₁ : InRow u k (first_sets u result₀) (follow_sets u result₀) Z result₀ result₁
      row₁ = s.ends.row

      ready₁ : Ready u k result₁ scratch₁
      ready₁ = still-ready ready (turned-store row₁.turned) s.ends.store

      pub suffixes-begin : Begins u k result₁ scratch₁
      suffixes-begin = record { ready = ready₁; room = omega (arith, g.places); first = g.rules.ranged.start }

      module _ {result₂ scratch₂ : List ℕ} (b : Started u k result₁ scratch₁ result₂ scratch₂) where
        stands₂ : Stands u k (first_sets u result₁) (start u.n u.start) (place_sets u result₁) result₁ scratch₁ result₂ scratch₂
        stands₂ = b.step ready₁

        row₂ : InRow u k (first_sets u result₀) (start u.n u.start) Z result₀ result₂
        row₂ = row-over row₁ stands₂.row

        pub start-running : Running u k words result₂ scratch₂
        start-running = record {
          ready = stands-ready stands₂ ready₁;
          suffixed = record { grammatical = g; suffixes = rw (row_old row₂, row-places row₂) s.ends.good };
          copied = stands-copied stands₂;
        }

        module _ {r : Result ℕ Refusal} {result₃ scratch₃ : List ℕ}
            (t : Ended u k (settle (take_all (room u) k (old_sets u result₂) (occurrences u words)) 11 (suc (u.n * room u)) 0 (follow_sets u result₂)) r result₂ scratch₂ result₃ scratch₃) where
          -- the rounds are those of the theory
          rounds-here : settle (take_all (room u) k (old_sets u result₂) (occurrences u words)) 11 (suc (u.n * room u)) 0 (follow_sets u result₂) ≡ follow_of u k words result₀
          unfolding follow
          rounds-here = ap₂ (λ (X F : State). settle (take_all (room u) k X (occurrences u words)) 11 (suc (u.n * room u)) 0 F) (row_old row₂) (row-follow row₂)

          ends : (r : Result ℕ Refusal) → Ended u k (settle (take_all (room u) k (old_sets u result₂) (occurrences u words)) 11 (suc (u.n * room u)) 0 (follow_sets u result₂)) r result₂ scratch₂ result₃ scratch₃
              → OrTooLarge r (follow_of u k words result₀ ≡ refused 11) (λ rounds. FollowDone u k words rounds result₀ result₃ scratch₃)
          ends (Ok rounds) t =
              let d = t.ends in
              record {
                sets = d.sets;
                places = Z;
                made = sym rounds-here ∙ d.made;
                suffixes = s.ends.good;
                row = row-over row₂ d.stands.row;
                store = turned-store d.stands.in-scratch;
              }
          ends (Err n) t = (sym rounds-here ∙ t.ends.0, t.ends.1)

          pub rounds-followed : Followed u k words r result₀ scratch₀ result₃ scratch₃
          rounds-followed = record {
            ends = ends r t;
            result-beyond = t.result-beyond ∙ turned-beyond stands₂.row.turned ∙ s.result-beyond;
            scratch-beyond = t.scratch-beyond ∙ turned-beyond stands₂.in-scratch ∙ s.scratch-beyond;
          }

  -- ---- the positions

  module _ {result₃ scratch₃ : List ℕ} where
    pub follow-refused : {e : Refusal} → Followed u k words (Err e) result₀ scratch₀ result₃ scratch₃ → Positioned u k words (Err e) result₀ scratch₀ result₃ scratch₃
    follow-refused f =
        record {
          ends = (rw f.ends.0, f.ends.1);
          result-beyond = f.result-beyond;
          scratch-beyond = f.scratch-beyond;
        }

    module _ {rounds : ℕ} (f : Followed u k words (Ok rounds) result₀ scratch₀ result₃ scratch₃) where
      abbrev followed : FollowDone u k words rounds result₀ result₃ scratch₃
      followed = f.ends

      pub follow-ready : Ready u k result₃ scratch₃
      follow-ready = still-ready ready (turned-store followed.row.turned) followed.store

      pub follow-suffixed : Suffixed u k words result₃
      follow-suffixed = record { grammatical = g; suffixes = rw (row_old followed.row, row-places followed.row) followed.suffixes }

      here : positions_of u k words result₀ followed.sets ≡ positions_of u k words result₃ (follow_sets u result₃)
      here = ap₂ (λ (X F : State). position_sets (room u) k X (occurrences u words) F) (sym (row_old followed.row)) (sym (row-follow followed.row))

      -- the pass over the positions
      abbrev Pass : Result (Unit {0}) Refusal → (result scratch : List ℕ) → Type 0
      Pass r result scratch =
          Passed u k (positions_of u k words result₃ (follow_sets u result₃) ≡ refused 11) (λ Z. positions_of u k words result₃ (follow_sets u result₃) ≡ got Z) r result₃ scratch₃ result scratch

      pub positions-refused : {e : Refusal} {result₄ scratch₄ : List ℕ} → Pass (Err e) result₄ scratch₄ → Positioned u k words (Err e) result₀ scratch₀ result₄ scratch₄
      positions-refused p = record {
        ends = (rw followed.made (here ∙ p.ends.0), p.ends.1);
        result-beyond = p.result-beyond ∙ f.result-beyond;
        scratch-beyond = p.scratch-beyond ∙ f.scratch-beyond;
      }

      pub positions-done : {result₄ scratch₄ : List ℕ} → Pass (Ok tt) result₄ scratch₄ → Positioned u k words (Ok rounds) result₀ scratch₀ result₄ scratch₄
      positions-done p =
          let d = p.ends in
          record {
            ends = record {
              sets = followed.sets;
              places = d.places;
              made = followed.made;
              placed = here ∙ d.good;
              row = row-then followed.row (rw (← row_first followed.row, ← row-follow followed.row) d.row);
              store = d.store;
            };
            result-beyond = p.result-beyond ∙ f.result-beyond;
            scratch-beyond = p.scratch-beyond ∙ f.scratch-beyond;
          }
