-- A product that is made part by part. The invariant of the walk over a right side is `Walking`: the parts still to come, joined to the product
-- in hand, give the right side's product. Assumes nothing.
use mathlib.Core.Path.{◌≡◌, refl, sym, ap, ap₂, ◌∙◌, subst}
use mathlib.Core.Bool.{true}
use mathlib.Core.List.{List, [], ◌∷◌, ◌++◌, map}
use Prim.Native.Nat.{ℕ, ◌+◌, ◌-◌, ◌*◌, ◌≤◌, ◌<◌}
use native.Mathlib.Omega.{arith}
use borrow.Author.Tests.{ltb-true, ltb-false, le-leb, lt-leb}
use lib.Dec.{ltb}
use lib.ListN.{length, set, take, drop, replicate, drop_of_length-le}
use lib.Seq.{get_or-set_same, get_or-take, set-set, set-get_or, take-set-le, drop-drop}
use Rattle.k_tuple.specs.Strings.{Str, eps, ones}
use Rattle.k_tuples.specs.Sets.{join_sets, all_complete}
use Rattle.k_tuples.specs.States.{State, set_of}
use Rattle.k_tuples.specs.Words.{Growth, grown, is_full}
use Rattle.k_tuples.proofs.Words.{words-room}
use Rattle.k_tuples.specs.Blocks.{Kept, IsStored}
use Rattle.k_tuples.specs.Work.{Answer, refused, got, ◌>>=◌, within}
use Rattle.k_tuples.specs.declared.set.Grown.{Grown}
use Rattle.k_tuples.proofs.Inserting.{grown-full}
use Rattle.k_tuples.proofs.Filling.{full-grown}
use Rattle.k_tuples.proofs.Blocks.{in-sets, kept_at}
use Rattle.std.specs.Prelude.{Result, Ok, Err}
use Rattle.refusals.specs.declared.Refusal.{Refusal}
use Rattle.refusals.specs.declared.Refusal.TheVariants.{SetTooLarge}
use Rattle.blocks.specs.Stores.{Turned}
use Rattle.blocks.proofs.Stores.{turned-store, turned-sets, turned-beyond, turned_then, as-turned, filled-turned, zeros-are-stored}
use Rattle.cfg.specs.Written.{symbol_of}
use Rattle.first_theory.specs.First.{Part, parts}
use Rattle.first_theory.specs.Compute.{part_set, join_parts, right_side}
use Rattle.first.specs.declared.Setup.{Setup}
use Rattle.first.specs.Codes.{part_length, part_of}
use Rattle.first.specs.Steps.{result_sets, scratch_sets, old_sets, room, Ready, Free, part_join, InWork, Placed, Done, OrTooLarge, Made}
use Rattle.first.proofs.Codes.{part_at}
use Rattle.first.proofs.Short.{parts-idle, first-idle}

-- ---- room for a set

-- what an operation tells that has put members into a set
module _ (room old new : ℕ) where
  told : {r : Growth} → r ≡ grown room old new → ltb room new ≡ is_full r
  told answer = sym (full-grown room old new) ∙ ap is_full (sym answer)

  pub told-large : {e : Refusal} → Err e ≡ grown room old new → (room < new) × (e ≡ SetTooLarge)
  told-large {e} answer =
      let more : room < new = ltb-true _ _ (told answer) in
      let same : ◌≡◌ {A = Growth} (Err e) (Err SetTooLarge) = answer ∙ grown-full room old new more in
      (more, cc)

  pub told_small : {g : Grown} → Ok g ≡ grown room old new → new ≤ room
  told_small answer = ltb-false _ _ (told answer)

module _ (u : Setup) (new : List Str) where
  within-over : room u < length new → within (room u) new ≡ refused 11
  unfolding within
  within-over h = rw (lt-leb (length new) (room u) h)

  within-fits : length new ≤ room u → within (room u) new ≡ got new
  unfolding within
  within-fits h = rw (le-leb (length new) (room u) h)

  -- as an operation tells it that has put members into a set
  pub told_over : (old : ℕ) {e : Refusal} → Err e ≡ grown (room u) old (length new) → (within (room u) new ≡ refused 11) × (e ≡ SetTooLarge)
  told_over old answer = let large = told-large (room u) old (length new) answer in (within-over large.0, large.1)

  pub told-fits : (old : ℕ) {g : Grown} → Ok g ≡ grown (room u) old (length new) → within (room u) new ≡ got new
  told-fits old answer = within-fits (told_small (room u) old (length new) answer)

-- a set of the buffers has room
pub kept-within : (u : Setup) {k : ℕ} {a : List Str} → Kept k u.w u.b a → within (room u) a ≡ got a
kept-within u {a = a} h = within-fits u a (words-room (length a) u.b h.room h.counted)

-- buffers that hold sets again
pub still-ready : {u : Setup} {k : ℕ} {result scratch result' scratch' : List ℕ} → Ready u k result scratch
    → IsStored k u.w u.b u.rsets result' → IsStored k u.w u.b u.ssets scratch' → Ready u k result' scratch'
still-ready r f g = record {
  result-store = f;
  scratch-store = g;
  work = r.work;
  some = r.some;
  least = r.least;
  most = r.most;
  wide = r.wide;
  narrow = r.narrow;
  slots = r.slots;
}

-- buffers of zeros, at any k
pub zeros-ready : (u : Setup) (k : ℕ) (past-result past-scratch : List ℕ) → u.n < u.ssets → 3 ≤ u.b → (1 ≤ k) × (k ≤ 10) → (1 ≤ u.w) × (u.w ≤ 12) → u.t + 5 < ones u.w
    → Ready u k (replicate (u.rsets * u.b) 0 ++ past-result) (replicate (u.ssets * u.b) 0 ++ past-scratch)
zeros-ready u k past-result past-scratch work some levels widths slots = record {
  result-store = zeros-are-stored k u.w u.b u.rsets past-result (omega arith);
  scratch-store = zeros-are-stored k u.w u.b u.ssets past-scratch (omega arith);
  work = work;
  some = some;
  least = levels.0;
  most = levels.1;
  wide = widths.0;
  narrow = widths.1;
  slots = slots;
}

-- ---- a product has been placed

module _ {u : Setup} {at k : ℕ} {product : List Str} {result scratch result' scratch' : List ℕ} (d : Placed u at k product result scratch result' scratch') where
  pub placed-ready : Ready u k result scratch → Ready u k result' scratch'
  placed-ready r = still-ready r (turned-store d.held) (turned-store d.worked)

  pub placed-old : Free u at → old_sets u result' ≡ old_sets u result
  placed-old f = ap (take u.n) (turned-sets d.held) ∙ take-set-le u.n (result_sets u result) at product f.after

  pub placed-product : Ready u k result scratch → Free u at → set_of (result_sets u result') at ≡ product
  placed-product r f =
      ap (λ (F : State). set_of F at) (turned-sets d.held)
      ∙ get_or-set_same (result_sets u result) at product [] (in-sets r.result-store f.within)

  -- it is a set at k, and has room
  pub placed-kept : Ready u k result scratch → Free u at → Kept k u.w u.b product
  placed-kept r f =
      let store = turned-store d.held in
      subst (Kept k u.w u.b) (placed-product r f) (kept_at (result_sets u result') at store.stored.kept (in-sets store f.within))

  pub placed-then : {next : List Str} {result'' scratch'' : List ℕ} → Placed u at k next result' scratch' result'' scratch'' → Placed u at k next result scratch result'' scratch''
  placed-then {next} {result''} {scratch''} t =
      record {
        held =
            subst (λ (F : State). Turned k u.w u.b u.rsets F result result'') (set-set (result_sets u result) at product next)
            (turned_then d.held (λ F. set F at next) t.held);
        work = t.work;
        worked =
            subst (λ (F : State). Turned k u.w u.b u.ssets F scratch scratch'') (set-set (scratch_sets u scratch) u.n d.work t.work)
            (turned_then d.worked (λ F. set F u.n t.work) t.worked);
      }

-- the result has got a product, the scratch is as it was
pub placed_first : {u : Setup} {at k : ℕ} (product : List Str) {result scratch result' : List ℕ} → Ready u k result scratch
    → Turned k u.w u.b u.rsets (set (result_sets u result) at product) result result' → Placed u at k product result scratch result' scratch
placed_first {u} product {scratch = scratch} ready h = record {
  held = h;
  work = set_of (scratch_sets u scratch) u.n;
  worked = rw (set-get_or (scratch_sets u scratch) u.n []) (as-turned ready.scratch-store);
}

-- ---- one part: a join in the scratch, and then the result takes it over

module _ {u : Setup} {k : ℕ} {new : List Str} {result scratch scratch' : List ℕ} where
  pub join-over : (at : ℕ) {e : Refusal} → InWork u k u.n 0 new (Err e) scratch scratch' → Made u at k (within (room u) new) (Err e) result scratch result scratch'
  join-over at j =
      record {
        ends = told_over u new 0 j.answer;
        result-beyond = refl;
        scratch-beyond = j.step.beyond;
      }

  module _ (ready : Ready u k result scratch) {g : Grown} (j : InWork u k u.n 0 new (Ok g) scratch scratch') where
    pub join-ready : Ready u k result scratch'
    join-ready = still-ready ready ready.result-store (turned-store (filled-turned j refl))

    there : set_of (scratch_sets u scratch') u.n ≡ new
    there =
        ap (λ (F : State). set_of F u.n) (turned-sets (filled-turned j refl))
        ∙ get_or-set_same (scratch_sets u scratch) u.n new [] (in-sets ready.scratch-store ready.work)

    pub join-taken : (at : ℕ) {result' : List ℕ} → Turned k u.w u.b u.rsets (set (result_sets u result) at (set_of (scratch_sets u scratch') u.n)) result result'
        → Made u at k (within (room u) new) (Ok tt) result scratch result' scratch'
    join-taken at {result'} t =
        record {
          ends = record {
            product = new;
            made = told-fits u new 0 j.answer;
            placed = record {
              held = subst (λ (a : List Str). Turned k u.w u.b u.rsets (set (result_sets u result) at a) result result') there t;
              work = new;
              worked = filled-turned j refl;
            };
          };
          result-beyond = turned-beyond t;
          scratch-beyond = j.step.beyond;
        }

-- ---- the walk

-- the parts of some codes joined to a product, over the sets of the result
abbrev pub join_all : Setup → ℕ → List ℕ → List Str → List ℕ → Answer (List Str)
join_all u k result product codes = join_parts (room u) k (old_sets u result) product (parts (map symbol_of codes))

-- the product in hand, and the parts from place j on still to come
pub record Walking (u : Setup) (at k : ℕ) (right result₀ scratch₀ : List ℕ) (j : ℕ) (result scratch : List ℕ) : Type 0 where
  pub below : j ≤ length right
  pub product : List Str
  pub placed : Placed u at k product result₀ scratch₀ result scratch
  pub to-come : join_all u k result₀ product (drop j right) ≡ join_all u k result₀ (set_of (result_sets u result₀) at) right

pub walk_start : {u : Setup} (at : ℕ) {k : ℕ} (right : List ℕ) {result₀ scratch₀ : List ℕ} → Ready u k result₀ scratch₀ → Walking u at k right result₀ scratch₀ 0 result₀ scratch₀
walk_start {u} at right {result₀} ready =
    record {
      below = omega arith;
      product = set_of (result_sets u result₀) at;
      placed = placed_first (set_of (result_sets u result₀) at) ready (rw (set-get_or (result_sets u result₀) at []) (as-turned ready.result-store));
      to-come = refl;
    }

module _ {u : Setup} {at k : ℕ} {right result₀ scratch₀ : List ℕ} {j : ℕ} {result scratch : List ℕ} (walk : Walking u at k right result₀ scratch₀ j result scratch) where
  -- no part more
  pub walk_end : length right ≤ j → Made u at k (join_all u k result₀ (set_of (result_sets u result₀) at) right) (Ok tt) result₀ scratch₀ result scratch
  unfolding join_parts
  walk_end h =
      record {
        ends = record {
          product = walk.product;
          made = sym walk.to-come ∙ rw (drop_of_length-le right {i = j} h);
          placed = walk.placed;
        };
        result-beyond = turned-beyond walk.placed.held;
        scratch-beyond = turned-beyond walk.placed.worked;
      }

  -- everything in hand is complete
  pub walk-stop : Ready u k result₀ scratch₀ → Free u at → all_complete k (set_of (result_sets u result) at) ≡ true
      → Made u at k (join_all u k result₀ (set_of (result_sets u result₀) at) right) (Ok tt) result₀ scratch₀ result scratch
  walk-stop ready free all =
      let kept = placed-kept walk.placed ready free in
      record {
        ends = record {
          product = walk.product;
          made =
              sym walk.to-come
              ∙ parts-idle (room u) k (old_sets u result₀) walk.product kept.sorted (kept-within u kept) (rw (← placed-product walk.placed ready free) all) (parts (map symbol_of (drop j right)));
          placed = walk.placed;
        };
        result-beyond = turned-beyond walk.placed.held;
        scratch-beyond = turned-beyond walk.placed.worked;
      }

  -- one part more
  module _ (ready : Ready u k result₀ scratch₀) (free : Free u at) (more : j < length right) (end : ℕ) (ends : end ≡ j + part_length (drop j right)) where
    next : join_all u k result₀ (set_of (result_sets u result₀) at) right
        ≡ (within (room u) (part_join u at k result (part_of (take (end - j) (drop j right)))) >>= λ b. join_all u k result₀ b (drop end right))
    unfolding join_parts
    next =
        let size : end - j ≡ part_length (drop j right) = omega arith in
        let q = part_of (take (end - j) (drop j right)) in
        let split : parts (map symbol_of (drop j right)) ≡ q ∷ parts (map symbol_of (drop end right)) = part_at right j more ∙ rw (size, ends, drop-drop) in
        sym walk.to-come ∙ ap (join_parts (room u) k (old_sets u result₀) walk.product) split
        ∙ ap₂ (λ (a : List Str) (X : State). within (room u) (join_sets k a (part_set k X q)) >>= λ b. join_all u k result₀ b (drop end right))
        (sym (placed-product walk.placed ready free)) (sym (placed-old walk.placed free))

    -- the part joined
    abbrev joined : Answer (List Str)
    joined = within (room u) (part_join u at k result (part_of (take (end - j) (drop j right))))

    module _ {result' scratch' : List ℕ} where
      pub walk-over : {e : Refusal} → Made u at k joined (Err e) result scratch result' scratch'
          → Made u at k (join_all u k result₀ (set_of (result_sets u result₀) at) right) (Err e) result₀ scratch₀ result' scratch'
      walk-over m =
          record {
            ends = (next ∙ rw m.ends.0, m.ends.1);
            result-beyond = m.result-beyond ∙ turned-beyond walk.placed.held;
            scratch-beyond = m.scratch-beyond ∙ turned-beyond walk.placed.worked;
          }

      pub walk_more : Made u at k joined (Ok tt) result scratch result' scratch' → end ≤ length right → Walking u at k right result₀ scratch₀ end result' scratch'
      walk_more m l =
          let d = m.ends in
          record { below = l; product = d.product; placed = placed-then walk.placed d.placed; to-come = sym (next ∙ rw d.made) }

-- ---- from a first product

-- what is made from a first product is made from the buffers at entry
pub start-made : {u : Setup} {at k : ℕ} {first : List Str} {result scratch result' scratch' : List ℕ} → Ready u k result scratch → Free u at
    → Placed u at k first result scratch result' scratch' → (f : State → List Str → Answer (List Str)) {r : Result (Unit {0}) Refusal} {result'' scratch'' : List ℕ}
    → Made u at k (f (old_sets u result') (set_of (result_sets u result') at)) r result' scratch' result'' scratch'' → Made u at k (f (old_sets u result) first) r result scratch result'' scratch''
start-made {u} {at} {k} {first} {result} {scratch} {result'} {scratch'} ready free started f {r} {result''} {scratch''} m =
    record {
      ends = by r m.ends;
      result-beyond = m.result-beyond ∙ turned-beyond started.held;
      scratch-beyond = m.scratch-beyond ∙ turned-beyond started.worked;
    }
  where
    same : f (old_sets u result') (set_of (result_sets u result') at) ≡ f (old_sets u result) first
    same = ap₂ f (placed-old started free) (placed-product started ready free)

    by : (r : Result (Unit {0}) Refusal)
        → OrTooLarge r (f (old_sets u result') (set_of (result_sets u result') at) ≡ refused 11) (λ _. Done u at k (f (old_sets u result') (set_of (result_sets u result') at)) result' scratch' result'' scratch'')
        → OrTooLarge r (f (old_sets u result) first ≡ refused 11) (λ _. Done u at k (f (old_sets u result) first) result scratch result'' scratch'')
    by (Ok v) d = record { product = d.product; made = sym same ∙ d.made; placed = placed-then started d.placed }
    by (Err e) h = (sym same ∙ h.0, h.1)

-- a product that needs no join is made
pub placed-made : {u : Setup} {at k : ℕ} {product : List Str} {answer : Answer (List Str)} {result scratch result' scratch' : List ℕ} → answer ≡ got product
    → Placed u at k product result scratch result' scratch' → Made u at k answer (Ok tt) result scratch result' scratch'
placed-made {product = product} e d = record {
  ends = record { product = product; made = e; placed = d };
  result-beyond = turned-beyond d.held;
  scratch-beyond = turned-beyond d.worked;
}

-- set i of the result, copied to the scratch and from there, is placed
pub copied_placed : {u : Setup} {at k i : ℕ} {result scratch result' scratch' : List ℕ} → Ready u k result scratch → i < u.n
    → Turned k u.w u.b u.ssets (set (scratch_sets u scratch) u.n (set_of (result_sets u result) i)) scratch scratch'
    → Turned k u.w u.b u.rsets (set (result_sets u result) at (set_of (scratch_sets u scratch') u.n)) result result'
    → Placed u at k (set_of (old_sets u result) i) result scratch result' scratch'
copied_placed {u} {at} {k} {i} {result} {scratch} {result'} ready h first second =
    let x = set_of (result_sets u result) i in
    let there = ap (λ (F : State). set_of F u.n) (turned-sets first) ∙ get_or-set_same (scratch_sets u scratch) u.n x [] (in-sets ready.scratch-store ready.work) in
    record {
      held =
          subst (λ (a : List Str). Turned k u.w u.b u.rsets (set (result_sets u result) at a) result result')
          (there ∙ sym (get_or-take u.n (result_sets u result) i [] h)) second;
      work = x;
      worked = first;
    }

-- the set of a part has been placed, by another name of the part
pub placed-part : {u : Setup} {at k : ℕ} {result scratch result' scratch' : List ℕ} {p q : Part} → p ≡ q
    → Placed u at k (part_set k (old_sets u result) p) result scratch result' scratch' → Placed u at k (part_set k (old_sets u result) q) result scratch result' scratch'
placed-part {u} {at} {k} {result} {scratch} {result'} {scratch'} e d = subst (λ (p : Part). Placed u at k (part_set k (old_sets u result) p) result scratch result' scratch') e d

-- no parts give {ε}
pub no-parts : (c k : ℕ) (X : State) (right : List ℕ) → length right ≤ 0 → right_side c k X (map symbol_of right) ≡ got (eps ∷ [])
unfolding right_side join_parts
no-parts c k X [] none = refl
no-parts c k X (r ∷ right) none = absurd (omega arith)

-- a right side whose first part has been placed, and the others joined to it
pub parts-made : {u : Setup} {at k : ℕ} (right : List ℕ) {end : ℕ} (rest : List ℕ) {r : Result (Unit {0}) Refusal} {result scratch result' scratch' result'' scratch'' : List ℕ}
    → Ready u k result scratch → Free u at → 0 < length right → end ≡ part_length right → rest ≡ drop end right
    → Placed u at k (part_set k (old_sets u result) (part_of (take end right))) result scratch result' scratch'
    → Made u at k (join_all u k result' (set_of (result_sets u result') at) rest) r result' scratch' result'' scratch''
    → Made u at k (right_side (room u) k (old_sets u result) (map symbol_of right)) r result scratch result'' scratch''
unfolding right_side
parts-made {u} {at} {k} right {end} rest {r} {result} {scratch} {result'' = result''} {scratch'' = scratch''} ready free some ends behind first m =
    let X = old_sets u result in
    let q = part_of (take end right) in
    let kept = placed-kept first ready free in
    let split : parts (map symbol_of right) ≡ q ∷ parts (map symbol_of rest) = part_at right 0 some ∙ rw (behind, ends) in
    let same = ap (join_parts (room u) k X (eps ∷ [])) split
    ∙ first-idle (room u) k X q (parts (map symbol_of rest)) kept.sorted (λ y i. ((kept.fit y i).some, (kept.fit y i).short)) (kept-within u kept) in
    subst (λ (a : Answer (List Str)). Made u at k a r result scratch result'' scratch'') (sym same)
    (start-made ready free first (λ X b. join_parts (room u) k X b (parts (map symbol_of rest))) m)
