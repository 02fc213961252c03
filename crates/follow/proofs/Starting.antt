-- The sets at the start: made in the scratch, and copied to the FOLLOW sets of the result. Assumes nothing.
use Prim.Native.Nat.{ℕ, ◌+◌, ◌≤◌, ◌<◌}
use native.Mathlib.Omega.{arith}
use mathlib.Core.Path.{◌≡◌, ap, ◌∙◌, subst}
use mathlib.Core.List.{List, [], ◌∷◌, ◌++◌, append-nil}
use borrow.Author.Tests.{le-leb, lt-ltb}
use lib.ListN.{length, take, drop, set, replicate, length-append, length-drop, length-replicate, drop_of_length-le}
use lib.Seq.{length-take-le, set-append_left, take_at}
use Rattle.k_tuple.specs.Strings.{well_formed, ones}
use Rattle.k_tuple.specs.Packed.{packed}
use Rattle.k_tuple.specs.declared.Terminals.{Terminals}
use Rattle.k_tuples.specs.States.{State, set_of}
use Rattle.k_tuples.specs.Held.{Fits}
use Rattle.k_tuples.specs.Blocks.{IsStored}
use Rattle.k_tuples.proofs.Blocks.{length-sets}
use Rattle.k_tuples.proofs.Lists.{set_next}
use Rattle.blocks.specs.Stores.{Turned, Both, CopiedBlock, WithString, EmptiedFirst, PutSingle}
use Rattle.blocks.proofs.Stores.{as-turned, turned-store, turned-sets, turned_then, turned-length}
use Rattle.first.specs.declared.Setup.{Setup}
use Rattle.first.specs.Steps.{result_sets, scratch_sets, Ready}
use Rattle.follow_theory.specs.Equations.{marker, start}
use Rattle.follow_theory.proofs.Steps.{start-length}
use Rattle.follow.specs.Steps.{follow_at, first_sets, follow_sets, place_sets, Laid, CopiedFollow, Begins, Started}
use Rattle.follow.proofs.Zones.{zones, second-set}

-- ---- the copy

module _ (u : Setup) (result₀ scratch : List ℕ) where
  -- the first i FOLLOW sets are those of the scratch
  abbrev mixed : ℕ → State
  mixed i = take i (scratch_sets u scratch) ++ drop i (follow_sets u result₀)

  pub record Copying (i : ℕ) (result : List ℕ) : Type 0 where
    pub below : i ≤ u.n
    pub turned : (k : ℕ) → IsStored k u.w u.b u.rsets result₀ → IsStored k u.w u.b u.ssets scratch
        → Turned k u.w u.b u.rsets (first_sets u result₀ ++ (mixed i ++ place_sets u result₀)) result₀ result

  pub copying-start : Copying 0 result₀
  copying-start = record {
    below = omega arith;
    turned = λ k r s. subst (λ (F : State). Turned k u.w u.b u.rsets F result₀ result₀) (zones (follow_at u) u.n (result_sets u result₀)) (as-turned r);
  }

  module _ (laid : Laid u result₀ scratch) where
    first-long : length (first_sets u result₀) ≡ follow_at u
    first-long = length-take-le (follow_at u) (result_sets u result₀) (omega (arith, laid.room, length-sets u.b u.rsets result₀))

    follow-long : length (follow_sets u result₀) ≡ u.n
    follow-long =
        length-take-le u.n (drop (follow_at u) (result_sets u result₀))
        (rw (length-drop (follow_at u) (result_sets u result₀), length-sets u.b u.rsets result₀) (omega (arith, laid.room)))

    module _ {i : ℕ} {result : List ℕ} (h : Copying i result) where
      pub copying-both : Both u.b u.rsets u.ssets result scratch
      copying-both = record {
        k = laid.k;
        width = u.w;
        first = turned-store (h.turned laid.k laid.result-store laid.scratch-store);
        second = laid.scratch-store;
      }

      pub copying-length : length result ≡ length result₀
      copying-length = turned-length (h.turned laid.k laid.result-store laid.scratch-store) laid.result-store

      mixed-long : length (mixed i) ≡ u.n
      mixed-long =
          rw (length-append (take i (scratch_sets u scratch)) (drop i (follow_sets u result₀)), length-drop i (follow_sets u result₀), follow-long, length-take-le i (scratch_sets u scratch) (omega (arith, h.below, laid.work, length-sets u.b u.ssets scratch)))
          (omega (arith, h.below))

      pub copying-more : i < u.n → {result' : List ℕ} → CopiedBlock u.b u.rsets u.ssets i (follow_at u + i) scratch result result' → Copying (i + 1) result'
      copying-more l {result'} c = record {
        below = omega arith;
        turned = λ k r s.
            let t = h.turned k r s in
            let S = scratch_sets u scratch in
            subst (λ (F : State). Turned k u.w u.b u.rsets F result₀ result')
            (second-set (first_sets u result₀) (mixed i) (place_sets u result₀) first-long mixed-long i (set_of S i) l
            ∙ ap (λ (F : State). first_sets u result₀ ++ (F ++ place_sets u result₀)) (set_next [] i S (follow_sets u result₀) (omega (arith, laid.work, length-sets u.b u.ssets scratch)) (rw follow-long l)))
            (turned_then t (λ R. set R (follow_at u + i) (set_of S i)) (c.step k u.w (turned-store t) s));
      }

      pub copying-end : u.n ≤ i → CopiedFollow u result₀ scratch result
      copying-end l =
          let all : i ≡ u.n = omega (arith, h.below) in
          let none : drop u.n (follow_sets u result₀) ≡ [] = drop_of_length-le (follow_sets u result₀) {i = u.n} (omega (arith, follow-long)) in
          record { step = λ k r s. rw (all, none, append-nil (take u.n (scratch_sets u scratch))) at (h.turned k r s) }

-- ---- the sets

pub marker-fits : {u : Setup} {k : ℕ} {result scratch : List ℕ} → Ready u k result scratch → Fits k u.w marker
unfolding well_formed
marker-fits {u} r =
    let some : 0 < ones u.w = omega (arith, r.slots) in
    record { well = rw (le-leb 1 u.w r.wide, le-leb u.w 12 r.narrow, lt-ltb 0 (ones u.w) some); some = omega arith; short = r.least }

module _ {u : Setup} {k : ℕ} {result scratch : List ℕ} (begins : Begins u k result scratch) {scratch₁ : List ℕ} (cleared : EmptiedFirst u.b u.ssets u.n scratch scratch₁) where
  pub clear-string : {t : Terminals} → t ≡ packed u.w marker → WithString k u.b u.ssets t scratch₁
  clear-string e =
      let r = begins.ready in
      record { width = u.w; z = marker; store = turned-store (cleared.step k u.w r.scratch-store); is = e; fits = marker-fits r }

  module _ {t : Terminals} (e : t ≡ packed u.w marker) {scratch₂ : List ℕ} (put : PutSingle k u.b u.ssets u.start t scratch₁ scratch₂) where
    started-scratch : Ready u k result scratch → Turned k u.w u.b u.ssets (start u.n u.start ++ drop u.n (scratch_sets u scratch)) scratch scratch₂
    unfolding start
    started-scratch r =
        let c = cleared.step k u.w r.scratch-store in
        subst (λ (F : State). Turned k u.w u.b u.ssets F scratch scratch₂)
        (set-append_left (replicate u.n []) (drop u.n (scratch_sets u scratch)) u.start (marker ∷ []) (rw length-replicate begins.first))
        (turned_then c (λ R. set R u.start (marker ∷ [])) (put.step u.w marker (turned-store c) e (marker-fits r)))

    pub started-laid : Laid u result scratch₂
    started-laid = record {
      k = k;
      result-store = begins.ready.result-store;
      scratch-store = turned-store (started-scratch begins.ready);
      room = begins.room;
      work = omega (arith, begins.ready.work);
    }

    pub started : {result' : List ℕ} → CopiedFollow u result scratch₂ result' → Started u k result scratch result' scratch₂
    started {result'} c = record {
      step = λ r.
          let s = started-scratch r in
          let F = start u.n u.start in
          let copy : take u.n (scratch_sets u scratch₂) ≡ F = ap (take u.n) (turned-sets s) ∙ take_at F (drop u.n (scratch_sets u scratch)) u.n (start-length u.n u.start) in
          record {
            row = record {
              before = first-long u result scratch₂ started-laid;
              many = start-length u.n u.start;
              turned = rw copy at (c.step k r.result-store (turned-store s));
            };
            in-scratch = s;
          };
    }
