-- A pass that gives each position its set, one after the other. The invariant is `Passing`, in which P says what the sets of the positions are
-- worth: some are as they shall be, and those of the occurrences to come are as they were. Assumes nothing.
use Prim.Native.Nat.{ℕ, ◌+◌, ◌-◌, ◌≤◌, ◌<◌}
use native.Mathlib.Omega.{arith}
use mathlib.Core.Path.{◌≡◌, refl, ◌∙◌, subst}
use mathlib.Core.List.{List, [], ◌∷◌}
use lib.ListN.{length, set}
use Rattle.k_tuple.specs.Strings.{Str}
use Rattle.k_tuples.specs.States.{State}
use Rattle.k_tuples.specs.Blocks.{IsStored}
use Rattle.k_tuples.specs.Work.{Answer}
use Rattle.std.specs.Prelude.{Ok, Err}
use Rattle.refusals.specs.declared.Refusal.{Refusal}
use Rattle.blocks.specs.Stores.{Turned}
use Rattle.blocks.proofs.Stores.{turned-store, turned-beyond, turned-length, turned_then, same-long}
use Rattle.first.specs.declared.Setup.{Setup}
use Rattle.first.specs.Steps.{past_scratch, Ready, Free, Made}
use Rattle.first.proofs.Walk.{still-ready}
use Rattle.follow_theory.specs.Follow.{Occurrence}
use Rattle.follow.specs.declared.walk.Walk.{Walk}
use Rattle.follow.specs.Walk.{to_come, Met, start_of}
use Rattle.follow.specs.Steps.{places_at, first_sets, follow_sets, place_sets, occurrences, Grammatical, InRow, Passed}
use Rattle.follow.proofs.Seeking.{start-come}
use Rattle.follow.proofs.Standing.{row-start, row-length}
use Rattle.follow.proofs.Way.{Way, way-start, way_end, way_next, met, met_at}
use Rattle.follow.proofs.Zones.{third-set}

module _ (u : Setup) (k : ℕ) (words result₀ scratch₀ : List ℕ) (P : List Occurrence → ℕ → State → Type 0) where
  pub record Passing (w : Walk) (i : ℕ) (result scratch : List ℕ) : Type 0 where
    pub way : Way u words w i
    pub places : State
    pub worth : P (to_come words w) i places
    pub row : InRow u k (first_sets u result₀) (follow_sets u result₀) places result₀ result
    pub store : IsStored k u.w u.b u.ssets scratch
    pub beyond : past_scratch u scratch ≡ past_scratch u scratch₀

  pub passing-start : Ready u k result₀ scratch₀ → Grammatical u words → P (occurrences u words) 0 (place_sets u result₀) → Passing (start_of u.p) 0 result₀ scratch₀
  passing-start r g p = record {
    way = way-start g;
    places = place_sets u result₀;
    worth = rw (start-come u.p words) p;
    row = row-start g r;
    store = r.scratch-store;
    beyond = refl;
  }

  module _ (ready : Ready u k result₀ scratch₀) {w : Walk} {i : ℕ} {result scratch : List ℕ} (h : Passing w i result scratch) where
    pub passing-ready : Ready u k result scratch
    passing-ready = still-ready ready (turned-store h.row.turned) h.store

    -- as long as at entry
    pub result-length : length result ≡ length result₀
    result-length = turned-length h.row.turned ready.result-store

    pub scratch-length : length scratch ≡ length scratch₀
    scratch-length = same-long ready.scratch-store h.store h.beyond

    module _ {Over : Type 0} {Good : State → Type 0} where
      -- no position more
      pub passing-end : u.rsets - places_at u ≤ i → ((Z : State) → length Z ≤ i → P [] i Z → Good Z) → Passed u k Over Good (Ok tt) result₀ scratch₀ result scratch
      passing-end l good = record {
        ends = record {
          places = h.places;
          good = good h.places (omega (arith, row-length h.row)) (subst (λ (os : List Occurrence). P os i h.places) (way_end h.way l) h.worth);
          row = h.row;
          store = h.store;
        };
        result-beyond = turned-beyond h.row.turned;
        scratch-beyond = h.beyond;
      }

    -- one position more
    module _ {w' : Walk} (m : Met words w w') where
      pub passing-free : Free u (places_at u + i)
      passing-free = record { after = omega arith; within = (met_at h.way m).place }

      pub passing-here : P (met h.way m ∷ to_come words w') i h.places
      passing-here = subst (λ (os : List Occurrence). P os i h.places) m.passed h.worth

      pub passing-short : i < length h.places
      passing-short = omega (arith, (met_at h.way m).place, row-length h.row)

      module _ {answer : Answer (List Str)} {result' scratch' : List ℕ} where
        pub passing-over : {e : Refusal} → Made u (places_at u + i) k answer (Err e) result scratch result' scratch' → {Over : Type 0} {Good : State → Type 0} → Over → Passed u k Over Good (Err e) result₀ scratch₀ result' scratch'
        passing-over t o = record {
          ends = (o, t.ends.1);
          result-beyond = t.result-beyond ∙ turned-beyond h.row.turned;
          scratch-beyond = t.scratch-beyond ∙ h.beyond;
        }

        pub passing-next : (t : Made u (places_at u + i) k answer (Ok tt) result scratch result' scratch') → P (to_come words w') (i + 1) (set h.places i t.ends.product) → Passing w' (i + 1) result' scratch'
        passing-next t p =
            let d = t.ends in
            let A = first_sets u result₀ in
            let F = follow_sets u result₀ in
            record {
              way = way_next h.way m;
              places = set h.places i d.product;
              worth = p;
              row = record {
                before = h.row.before;
                many = h.row.many;
                turned =
                    subst (λ (R : State). Turned k u.w u.b u.rsets R result₀ result') (third-set A F h.places h.row.before h.row.many i d.product)
                    (turned_then h.row.turned (λ R. set R (places_at u + i) d.product) d.placed.held);
              };
              store = turned-store d.placed.worked;
              beyond = t.scratch-beyond ∙ h.beyond;
            }
