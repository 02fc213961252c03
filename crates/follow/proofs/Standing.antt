-- How FOLLOW's sets stand in the two lent buffers: what is read there, and each change of them. Assumes nothing.
use Prim.Native.Nat.{ℕ, ◌+◌, ◌*◌, ◌≤◌, ◌<◌}
use native.Mathlib.Omega.{arith}
use mathlib.Core.Path.{◌≡◌, refl, sym, ap, ap₂, ◌∙◌, subst}
use mathlib.Core.Bool.{false, true≢false}
use mathlib.Core.List.{List, [], ◌++◌}
use lib.ListN.{length, take, drop, set, length-append, length-drop, length-set, take-append-drop}
use lib.Seq.{get_or-take, get_or-drop, set-get_or, get_or-set_same, length-take-le, take_at, drop_at, take-take, set-append_left}
use Rattle.k_tuple.specs.Strings.{Str}
use Rattle.k_tuples.specs.Sets.{Sorted, union, join_sets}
use Rattle.k_tuples.specs.States.{State, set_of}
use Rattle.k_tuples.specs.declared.set.Grown.TheVariants.{Added, Same}
use Rattle.std.specs.Prelude.{Ok, Err}
use Rattle.refusals.specs.declared.Refusal.{Refusal}
use Rattle.k_tuples.proofs.Blocks.{kept_at, in-sets, length-sets, part_room, part-holds}
use Rattle.k_tuples.proofs.Words.{words-room}
use Rattle.k_tuples.specs.Words.{Growth, is_full, grown}
use Rattle.k_tuples.specs.Held.{Holds}
use Rattle.k_tuples.specs.Blocks.{part_at, Kept}
use Rattle.blocks.specs.Stores.{Turned, Filled, Both, CopiedBlock}
use Rattle.blocks.proofs.Stores.{as-turned, turned-store, turned-sets, turned-beyond, turned_then, filled-turned}
use Rattle.first.specs.declared.Setup.{Setup}
use Rattle.first.specs.Steps.{result_sets, scratch_sets, old_sets, room, Ready}
use Rattle.first.proofs.Walk.{still-ready}
use Rattle.follow.proofs.Growing.{union-whole, told_same}
use Rattle.follow.specs.Steps.{follow_at, places_at, first_sets, follow_sets, place_sets, Grammatical, InRow, Stands, Copied, Suffixed, Running, At, joined, JoinedIn, Taken}
use Rattle.follow.proofs.Zones.{zones, first-zone, second-zone, third-zone, second_at, third_at, second-set}

-- set j of the result, lent to a call
module _ {u : Setup} {k : ℕ} {result scratch : List ℕ} (ready : Ready u k result scratch) (j : ℕ) (h : j < u.rsets) where
  pub block_room : j * u.b + u.b ≤ length result
  block_room = part_room ready.result-store.stored j (in-sets ready.result-store h)

  pub block-holds : Holds k u.w (set_of (result_sets u result) j) (part_at u.b j result)
  block-holds = part-holds ready.result-store.stored j (in-sets ready.result-store h)

-- a FOLLOW set, and its copy
pub copy_at : {u : Setup} {result scratch : List ℕ} → Copied u result scratch → (A : ℕ) → A < u.n → set_of (scratch_sets u scratch) A ≡ set_of (result_sets u result) (follow_at u + A)
copy_at {u} {result} {scratch} e A h =
    sym (get_or-take u.n (scratch_sets u scratch) A [] h)
    ∙ ap (λ (F : State). set_of F A) e.same
    ∙ get_or-take u.n (drop (follow_at u) (result_sets u result)) A [] h
    ∙ get_or-drop (follow_at u) (result_sets u result) A []

-- the join was added to the copy, which is as good as the set
pub join-from-copy : (u : Setup) (k i source target : ℕ) {result scratch scratch' : List ℕ} {r : Growth} → Copied u result scratch → target < u.n
    → (let old = set_of (scratch_sets u scratch) target in
    Filled k u.w u.b u.ssets target (length old) (union old (join_sets k (set_of (result_sets u result) (places_at u + i)) (set_of (result_sets u result) (follow_at u + source)))) r scratch scratch')
    → JoinedIn u k i source target r result scratch scratch'
join-from-copy u k i source target {result} {scratch} {scratch'} {r} e h f =
    let x = set_of (result_sets u result) (places_at u + i) in
    let y = set_of (result_sets u result) (follow_at u + source) in
    subst (λ (old : List Str). Filled k u.w u.b u.ssets target (length old) (union old (join_sets k x y)) r scratch scratch') (copy_at e target h) f

-- ---- an equation is taken

module _ (u : Setup) (k i source target : ℕ) {result scratch : List ℕ} (ready : Ready u k result scratch) (at : At u i source target) where
  abbrev old : List Str
  old = set_of (result_sets u result) (follow_at u + target)

  abbrev new : List Str
  new = joined u k i source target result

  module _ {scratch' : List ℕ} where
    pub taken-full : {e : Refusal} → JoinedIn u k i source target (Err e) result scratch scratch' → Taken u k i source target (Err e) result scratch result scratch'
    taken-full f =
        record {
          answer = f.answer;
          in-result = λ n. absurd (true≢false n);
          in-scratch = λ n. absurd (true≢false n);
          result-beyond = refl;
          scratch-beyond = f.step.beyond;
        }

    pub taken-same : JoinedIn u k i source target (Ok Same) result scratch scratch' → Taken u k i source target (Ok Same) result scratch result scratch'
    taken-same f =
        let s = ready.result-store in
        let sorted = (kept_at (result_sets u result) (follow_at u + target) s.stored.kept (in-sets s (omega (arith, at.place, at.to)))).sorted in
        let idle : new ≡ old = sym (union-whole old _ sorted (told_same (room u) (length old) (length new) f.answer).1) in
        record {
          answer = f.answer;
          in-result = λ _. rw (idle, set-get_or (result_sets u result) (follow_at u + target) []) (as-turned s);
          in-scratch = λ n. filled-turned f n;
          result-beyond = refl;
          scratch-beyond = f.step.beyond;
        }

    module _ (f : JoinedIn u k i source target (Ok Added) result scratch scratch') where
      filled : Turned k u.w u.b u.ssets (set (scratch_sets u scratch) target new) scratch scratch'
      filled = filled-turned f refl

      pub added-both : Both u.b u.rsets u.ssets result scratch'
      added-both = record { k = k; width = u.w; first = ready.result-store; second = turned-store filled }

      pub taken-added : {result' : List ℕ} → CopiedBlock u.b u.rsets u.ssets target (follow_at u + target) scratch' result result'
          → Taken u k i source target (Ok Added) result scratch result' scratch'
      taken-added {result'} c =
          let there : set_of (scratch_sets u scratch') target ≡ new =
          ap (λ (F : State). set_of F target) (turned-sets filled) ∙ get_or-set_same (scratch_sets u scratch) target new [] (in-sets ready.scratch-store (omega (arith, at.to, ready.work))) in
          let copied : Turned k u.w u.b u.rsets (set (result_sets u result) (follow_at u + target) new) result result' =
          rw there at (c.step k u.w ready.result-store (turned-store filled)) in
          record { answer = f.answer; in-result = λ _. copied; in-scratch = λ _. filled; result-beyond = turned-beyond copied; scratch-beyond = f.step.beyond }

-- ---- the sets A, F and Z stand in the result, and F in the scratch

pub first-length : (u : Setup) (words ws : List ℕ) → Grammatical u words → length (first_sets u ws) ≡ follow_at u
first-length u words ws g = length-take-le (follow_at u) (result_sets u ws) (omega (arith, g.places, length-sets u.b u.rsets ws))

pub follow-length : (u : Setup) (words ws : List ℕ) → Grammatical u words → length (follow_sets u ws) ≡ u.n
follow-length u words ws g =
    length-take-le u.n (drop (follow_at u) (result_sets u ws)) (rw (length-drop (follow_at u) (result_sets u ws), length-sets u.b u.rsets ws) (omega (arith, g.places)))

-- as they stand before any change
pub row-start : {u : Setup} {k : ℕ} {words result scratch : List ℕ} → Grammatical u words → Ready u k result scratch → InRow u k (first_sets u result) (follow_sets u result) (place_sets u result) result result
row-start {u} {k} {words} {result} g r = record {
  before = first-length u words result g;
  many = follow-length u words result g;
  turned = subst (λ (F : State). Turned k u.w u.b u.rsets F result result) (zones (follow_at u) u.n (result_sets u result)) (as-turned r.result-store);
}

pub stands-start : {u : Setup} {k : ℕ} {words result scratch : List ℕ} → Grammatical u words → Ready u k result scratch → Copied u result scratch
    → Stands u k (first_sets u result) (follow_sets u result) (place_sets u result) result scratch result scratch
stands-start {u} {k} {words} {result} {scratch} g r e =
    let S = scratch_sets u scratch in
    record {
      row = row-start g r;
      in-scratch = subst (λ (F : State). Turned k u.w u.b u.ssets F scratch scratch) (sym (take-append-drop u.n S) ∙ ap (λ (F : State). F ++ drop u.n S) e.same) (as-turned r.scratch-store);
    }

-- the sets of the nonterminals are among the first
first-old : (u : Setup) (ws : List ℕ) → take u.n (first_sets u ws) ≡ old_sets u ws
first-old u ws = take-take u.n (follow_at u) (result_sets u ws) (omega arith)

module _ {u : Setup} {k : ℕ} {A F Z : State} {result₀ result : List ℕ} (s : InRow u k A F Z result₀ result) where
  pub row-sets : result_sets u result ≡ A ++ (F ++ Z)
  row-sets = turned-sets s.turned

  pub row_first : first_sets u result ≡ A
  row_first = ap (take (follow_at u)) row-sets ∙ first-zone A F Z s.before s.many

  pub row-follow : follow_sets u result ≡ F
  row-follow = ap (λ (R : State). take u.n (drop (follow_at u) R)) row-sets ∙ second-zone A F Z s.before s.many

  pub row-places : place_sets u result ≡ Z
  row-places = ap (drop (places_at u)) row-sets ∙ third-zone A F Z s.before s.many

  pub row-length : length Z + places_at u ≡ u.rsets
  row-length = omega (arith, s.turned.count, length-append A (F ++ Z), length-append F Z, s.before, s.many)

-- one change after another
pub row-then : {u : Setup} {k : ℕ} {A F Z A' F' Z' : State} {result₀ result result' : List ℕ}
    → InRow u k A F Z result₀ result → InRow u k A' F' Z' result result' → InRow u k A' F' Z' result₀ result'
row-then {A' = A'} {F' = F'} {Z' = Z'} s t = record { before = t.before; many = t.many; turned = turned_then s.turned (λ R. A' ++ (F' ++ Z')) t.turned }

-- where the FIRST sets are as they were
pub row_old : {u : Setup} {k : ℕ} {F Z : State} {result₀ result : List ℕ} → InRow u k (first_sets u result₀) F Z result₀ result → old_sets u result ≡ old_sets u result₀
row_old {u} {result₀ = result₀} {result = result} s = sym (first-old u result) ∙ ap (take u.n) (row_first s) ∙ first-old u result₀

module _ {u : Setup} {k : ℕ} {A F Z : State} {result₀ scratch₀ result scratch : List ℕ} (s : Stands u k A F Z result₀ scratch₀ result scratch) where
  pub stands-ready : Ready u k result₀ scratch₀ → Ready u k result scratch
  stands-ready r = still-ready r (turned-store s.row.turned) (turned-store s.in-scratch)

  pub stands-copied : Copied u result scratch
  stands-copied = record {
    same = ap (take u.n) (turned-sets s.in-scratch) ∙ take_at F (drop u.n (scratch_sets u scratch₀)) u.n s.row.many ∙ sym (row-follow s.row);
  }

  module _ (target : ℕ) (h : target < u.n) where
    stands-kept : Kept k u.w u.b (set_of F target)
    stands-kept =
        let l : follow_at u + target < length (A ++ (F ++ Z)) = rw (length-append A (F ++ Z), length-append F Z) (omega (arith, s.row.before, s.row.many)) in
        subst (Kept k u.w u.b) (second_at A F Z s.row.before s.row.many target h) (kept_at (A ++ (F ++ Z)) (follow_at u + target) s.row.turned.held.kept l)

    pub stands-sorted : Sorted (set_of F target)
    stands-sorted = stands-kept.sorted

    pub stands-room : length (set_of F target) ≤ room u
    stands-room = words-room (length (set_of F target)) u.b stands-kept.room stands-kept.counted

    module _ (i source : ℕ) (from : source < u.n) where
      -- the set that the equation makes
      abbrev made : List Str
      made = union (set_of F target) (join_sets k (set_of Z i) (set_of F source))

      stands-joined : joined u k i source target result ≡ made
      stands-joined =
          rw (row-sets s.row, second_at A F Z s.row.before s.row.many target h, second_at A F Z s.row.before s.row.many source from, third_at A F Z s.row.before s.row.many i)

      module _ {r : Growth} {result' scratch' : List ℕ} (t : Taken u k i source target r result scratch result' scratch') where
        pub taken-answer : r ≡ grown (room u) (length (set_of F target)) (length made)
        taken-answer =
            t.answer
            ∙ ap₂ (λ (a b : List Str). grown (room u) (length a) (length b))
            (ap (λ (R : State). set_of R (follow_at u + target)) (row-sets s.row) ∙ second_at A F Z s.row.before s.row.many target h) stands-joined

        pub taken-stands : is_full r ≡ false → Stands u k A (set F target made) Z result₀ scratch₀ result' scratch'
        taken-stands e = record {
          row = record {
            before = s.row.before;
            many = length-set F target made ∙ s.row.many;
            turned =
                subst (λ (G : State). Turned k u.w u.b u.rsets G result₀ result') (second-set A F Z s.row.before s.row.many target made h)
                (turned_then s.row.turned (λ R. set R (follow_at u + target) made) (rw stands-joined at (t.in-result e)));
          };
          in-scratch =
              subst (λ (G : State). Turned k u.w u.b u.ssets G scratch₀ scratch') (set-append_left F (drop u.n (scratch_sets u scratch₀)) target made (rw s.row.many h))
              (turned_then s.in-scratch (λ R. set R target made) (rw stands-joined at (t.in-scratch e)));
        }

-- one change after another
pub stands-then : {u : Setup} {k : ℕ} {A F Z A' F' Z' : State} {result₀ scratch₀ result scratch result' scratch' : List ℕ}
    → Stands u k A F Z result₀ scratch₀ result scratch → Stands u k A' F' Z' result scratch result' scratch' → Stands u k A' F' Z' result₀ scratch₀ result' scratch'
stands-then {u} {k} {A} {F} {Z} {A'} {F'} {Z'} {result₀} {scratch₀} {result} {scratch} {result'} {scratch'} s t =
    let others : drop u.n (scratch_sets u scratch) ≡ drop u.n (scratch_sets u scratch₀) =
    ap (drop u.n) (turned-sets s.in-scratch) ∙ drop_at F (drop u.n (scratch_sets u scratch₀)) u.n s.row.many in
    record {
      row = row-then s.row t.row;
      in-scratch = turned_then s.in-scratch (λ R. F' ++ drop u.n (scratch_sets u scratch₀)) (rw others at t.in-scratch);
    }

-- the suffix sets are as they were, and so are the FIRST sets
pub still-suffixed : {u : Setup} {k : ℕ} {F : State} {words result₀ result : List ℕ} → Suffixed u k words result₀
    → InRow u k (first_sets u result₀) F (place_sets u result₀) result₀ result → Suffixed u k words result
still-suffixed h s = record { grammatical = h.grammatical; suffixes = rw (row_old s, row-places s) h.suffixes }

-- FOLLOW still runs
pub still-running : {u : Setup} {k : ℕ} {F : State} {words result₀ scratch₀ result scratch : List ℕ} → Running u k words result₀ scratch₀
    → Stands u k (first_sets u result₀) F (place_sets u result₀) result₀ scratch₀ result scratch → Running u k words result scratch
still-running run s = record { ready = stands-ready s run.ready; suffixed = still-suffixed run.suffixed s.row; copied = stands-copied s }
