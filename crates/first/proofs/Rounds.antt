-- A round: the products of the productions one after the other, each added to the new set of its left side. The invariant is `Adding`: the
-- productions still to come, on the new sets as they stand, give the round's sets. Assumes nothing.
use mathlib.Core.Path.{◌≡◌, refl, sym, ap, ap₂, ◌∙◌, subst, subst₂}
use mathlib.Core.Bool.{Bool, true, false}
use mathlib.Core.List.{List, [], ◌∷◌, Memᴰ}
use Prim.Native.Nat.{ℕ, ◌<◌}
use native.Mathlib.Omega.{arith}
use lib.Dec.{T}
use lib.ListN.{length, get_or, set, take, replicate, length-replicate}
use lib.Seq.{length-take-le, take-set-le, get_or-take}
use Rattle.k_tuple.specs.Strings.{Str}
use Rattle.k_tuples.specs.Sets.{union}
use Rattle.k_tuples.specs.States.{State, set_of, same_sets}
use Rattle.k_tuples.specs.Words.{Growth}
use Rattle.k_tuples.specs.Work.{Answer, refused, got, ◌>>=◌, within}
use Rattle.k_tuples.specs.declared.set.Grown.{Grown}
use Rattle.k_tuples.proofs.Blocks.{length-sets}
use Rattle.k_tuples.proofs.Sets.{same_set-sound}
use Rattle.k_tuples.proofs.States.{set_of-replicate}
use Rattle.std.specs.Prelude.{Ok, Err}
use Rattle.refusals.specs.declared.Refusal.{Refusal}
use Rattle.blocks.specs.Stores.{TakenFirst}
use Rattle.blocks.proofs.Stores.{turned-sets, turned-beyond, filled-turned}
use Rattle.blocks.proofs.Fronts.{front-start, front-then, front-free, front-one, front-all}
use Rattle.cfg.specs.Reading.{pick}
use Rattle.cfg.specs.Grammar.{Sym, Production}
use Rattle.cfg.specs.Written.{productions_of}
use Rattle.first_theory.specs.Compute.{right_side, round_from, round}
use Rattle.first.specs.declared.Setup.{Setup}
use Rattle.first.specs.Steps.{Symbols, result_sets, scratch_sets, old_sets, room, Ready, Free, InWork, Done, Made}
use Rattle.first.specs.Rounds.{new_sets, grammar_in, Rules, InResult, InScratch, add_one, Extended, round_told, Rounded}
use Rattle.first.specs.Due.{kept_of, Known, Blanked, Alike}
use Rattle.first.proofs.Known.{Lefts, due-round}
use Rattle.first.proofs.Walk.{told_over, told-fits, still-ready, placed-ready, placed-product}
use Rattle.first.proofs.Passing.{Within, rules-within}

-- ---- one production

-- one that is not due
pub add_none : {u : Setup} (at : ℕ) {k : ℕ} {result scratch : List ℕ} → Ready u k result scratch → Extended u at k (got (new_sets u scratch)) (Ok tt) result scratch result scratch
add_none {u} at {scratch = scratch} ready = record {
  ends = record { new = new_sets u scratch; made = refl; in-result = front-start ready.result-store; in-scratch = front-start ready.scratch-store };
  result-beyond = refl;
  scratch-beyond = refl;
}

module _ {u : Setup} {at k : ℕ} (left : ℕ) (γ : List Sym) {result scratch result' scratch' : List ℕ} where
  pub add-over : {e : Refusal} → Made u at k (right_side (room u) k (old_sets u result) γ) (Err e) result scratch result' scratch'
      → Extended u at k (add_one u k (old_sets u result) (new_sets u scratch) left γ) (Err e) result scratch result' scratch'
  add-over m =
      record {
        ends = (rw m.ends.0, m.ends.1);
        result-beyond = m.result-beyond;
        scratch-beyond = m.scratch-beyond;
      }

  module _ (ready : Ready u k result scratch) (free : Free u at) (m : Made u at k (right_side (room u) k (old_sets u result) γ) (Ok tt) result scratch result' scratch') where
    abbrev product : Done u at k (right_side (room u) k (old_sets u result) γ) result scratch result' scratch'
    product = m.ends

    -- the product has left the new sets as they were
    new-kept : new_sets u scratch' ≡ new_sets u scratch
    new-kept =
        let d = product.placed in
        ap (take u.n) (turned-sets d.worked) ∙ take-set-le u.n (scratch_sets u scratch) u.n d.work (omega arith)

    pub add-ready : Ready u k result' scratch'
    add-ready = placed-ready product.placed ready

    module _ (small : left < u.n) where
      -- the new set
      abbrev old : List Str
      old = set_of (new_sets u scratch) left

      abbrev new : List Str
      new = union old product.product

      -- what was added to the left side's set is the product
      filled : {r : Growth} {scratch'' : List ℕ} → InWork u k left (length (set_of (scratch_sets u scratch') left)) (union (set_of (scratch_sets u scratch') left) (set_of (result_sets u result') at)) r scratch' scratch'' → InWork u k left (length old) new r scratch' scratch''
      filled {r} {scratch''} f =
          let there : set_of (scratch_sets u scratch') left ≡ old = sym (get_or-take u.n (scratch_sets u scratch') left [] small) ∙ ap (λ (F : State). set_of F left) new-kept in
          subst₂ (λ (a b : List Str). InWork u k left (length a) (union a b) r scratch' scratch'') there (placed-product product.placed ready free) f

      pub add-full : {e : Refusal} {scratch'' : List ℕ} → InWork u k left (length (set_of (scratch_sets u scratch') left)) (union (set_of (scratch_sets u scratch') left) (set_of (result_sets u result') at)) (Err e) scratch' scratch''
          → Extended u at k (add_one u k (old_sets u result) (new_sets u scratch) left γ) (Err e) result scratch result' scratch''
      add-full f =
          let large = told_over u new (length old) (filled f).answer in
          record {
            ends = (rw (product.made, large.0), large.1);
            result-beyond = m.result-beyond;
            scratch-beyond = f.step.beyond ∙ m.scratch-beyond;
          }

      pub add-made : {g : Grown} {scratch'' : List ℕ} → InWork u k left (length (set_of (scratch_sets u scratch') left)) (union (set_of (scratch_sets u scratch') left) (set_of (result_sets u result') at)) (Ok g) scratch' scratch''
          → Extended u at k (add_one u k (old_sets u result) (new_sets u scratch) left γ) (Ok tt) result scratch result' scratch''
      add-made {scratch'' = scratch''} f =
          record {
            ends = record {
              new = set (new_sets u scratch) left new;
              made = rw (product.made, told-fits u new (length old) (filled f).answer);
              in-result = front-free u.n at product.product free.after product.placed.held;
              in-scratch =
                  front-then (front-free u.n u.n product.placed.work (omega arith) product.placed.worked)
                  (subst (λ (F : State). InScratch u k (set F left new) scratch' scratch'') new-kept (front-one u.n u.n left new small (filled-turned (filled f) refl)));
            };
            result-beyond = m.result-beyond;
            scratch-beyond = f.step.beyond ∙ m.scratch-beyond;
          }

-- ---- all productions

bind-two : {A B C : Type 0} (m : Answer A) (f : A → Answer B) (g : B → C) (h : C → Answer C) → (m >>= λ a. f a >>= λ b. h (g b)) ≡ ((m >>= λ a. f a >>= λ b. got (g b)) >>= h)
bind-two (refused e) f g h = refl
bind-two {B = B} {C = C} (got a) f g h = go (f a)
  where
    go : (m : Answer B) → (m >>= λ b. h (g b)) ≡ ((m >>= λ b. got (g b)) >>= h)
    go (refused e) = refl
    go (got b) = refl

-- the round's sets, from the productions that some words begin with and whose left sides are due
abbrev pub round_over : Setup → ℕ → List Bool → (old new : State) → ℕ → List ℕ → Answer State
round_over u k due old new p words = round_from (room u) k old new (kept_of due (productions_of p words))

-- some productions have been added; those to come, `rest`, give what is left of the round
pub record Adding (u : Setup) (at k : ℕ) (due : List Bool) (goal : Answer State) (result₀ scratch₀ : List ℕ) (rest : List Production) (result scratch : List ℕ) : Type 0 where
  pub within : Within u rest
  pub in-result : InResult u at k (old_sets u result₀) result₀ result
  pub in-scratch : InScratch u k (new_sets u scratch) scratch₀ scratch
  pub to-come : round_from (room u) k (old_sets u result₀) (new_sets u scratch) (kept_of due rest) ≡ goal

pub adding-start : {u : Setup} (at : ℕ) {k : ℕ} {words : List ℕ} (due : List Bool) {result₀ scratch₀ : List ℕ} (rest : List Production) → rest ≡ productions_of u.p words → Ready u k result₀ scratch₀ → Rules u words
    → Adding u at k due (round_over u k due (old_sets u result₀) (new_sets u scratch₀) u.p words) result₀ scratch₀ rest result₀ scratch₀
adding-start {u} at due rest e ready rules =
    rw e (record { within = rules-within rules; in-result = front-start ready.result-store; in-scratch = front-start ready.scratch-store; to-come = refl })

module _ {u : Setup} {at k : ℕ} {due : List Bool} {goal : Answer State} {result₀ scratch₀ : List ℕ} {rest : List Production} {result scratch : List ℕ} (adding : Adding u at k due goal result₀ scratch₀ rest result scratch) where
  pub adding-ready : Ready u k result₀ scratch₀ → Ready u k result scratch
  adding-ready ready = still-ready ready adding.in-result.store adding.in-scratch.store

  -- no production more
  pub adding-end : rest ≡ [] → Extended u at k goal (Ok tt) result₀ scratch₀ result scratch
  unfolding round_from kept_of
  adding-end none =
      record {
        ends = record { new = new_sets u scratch; made = sym adding.to-come ∙ rw none; in-result = adding.in-result; in-scratch = adding.in-scratch };
        result-beyond = adding.in-result.beyond;
        scratch-beyond = adding.in-scratch.beyond;
      }

  -- one production more
  module _ (q : Production) (behind : List Production) (e : rest ≡ q ∷ behind) where
    -- it lies within the sizes
    pub adding-within : (q.left < u.n) × Symbols u q.right
    adding-within = adding.within q (rw e (Memᴰ.head refl))

    module _ (left : ℕ) (same : left ≡ q.left) where
      -- what it makes of the new sets
      abbrev added : Answer State
      added = pick (get_or due left false) (add_one u k (old_sets u result) (new_sets u scratch) left q.right) (got (new_sets u scratch))

      next : goal ≡ (added >>= λ new. round_from (room u) k (old_sets u result₀) new (kept_of due behind))
      unfolding round_from kept_of
      next =
          sym adding.to-come
          ∙ ap (λ (ps : List Production). round_from (room u) k X new (kept_of due ps)) e
          ∙ by (get_or due q.left false)
          ∙ ap₂ (λ (Y : State) (l : ℕ). pick (get_or due l false) (add_one u k Y new l q.right) (got new) >>= λ F. round_from (room u) k X F ps) (sym adding.in-result.front) (sym same)
        where
          X : State
          X = old_sets u result₀

          new : State
          new = new_sets u scratch

          ps : List Production
          ps = kept_of due behind

          by : (t : Bool) → round_from (room u) k X new (pick t (q ∷ ps) ps) ≡ (pick t (add_one u k X new q.left q.right) (got new) >>= λ F. round_from (room u) k X F ps)
          by true = bind-two (right_side (room u) k X q.right) (λ a. within (room u) (union (set_of new q.left) a)) (set new q.left) (λ F. round_from (room u) k X F ps)
          by false = refl

      module _ {result' scratch' : List ℕ} where
        pub adding-over : {e : Refusal} → Extended u at k added (Err e) result scratch result' scratch' → Extended u at k goal (Err e) result₀ scratch₀ result' scratch'
        adding-over m =
            record {
              ends = (next ∙ rw m.ends.0, m.ends.1);
              result-beyond = m.result-beyond ∙ adding.in-result.beyond;
              scratch-beyond = m.scratch-beyond ∙ adding.in-scratch.beyond;
            }

        pub adding-more : Extended u at k added (Ok tt) result scratch result' scratch' → Adding u at k due goal result₀ scratch₀ behind result' scratch'
        adding-more m =
            let d = m.ends in
            let new : new_sets u scratch' ≡ d.new = d.in-scratch.front in
            record {
              within = λ p m. adding.within p (rw e (Memᴰ.tail m));
              in-result = front-then adding.in-result (rw (← adding.in-result.front) d.in-result);
              in-scratch = front-then adding.in-scratch (rw new d.in-scratch);
              to-come = ap (λ (F : State). round_from (room u) k (old_sets u result₀) F (kept_of due behind)) new ∙ sym (next ∙ rw d.made);
            }

-- ---- a round

-- every left side is in range
lefts-below : {u : Setup} {words : List ℕ} → Rules u words → Lefts u.n (productions_of u.p words)
lefts-below {u} {words} rules = go (productions_of u.p words) (λ p m. (rules.ranged.rules m).0)
  where
    go : (ps : List Production) → ((p : Production) → Memᴰ p ps → p.left < u.n) → Lefts u.n ps
    go [] h = tt
    go (p ∷ ps) h = (h p (Memᴰ.head refl), go ps (λ q m. h q (Memᴰ.tail m)))

module _ {u : Setup} {k : ℕ} {words : List ℕ} {due : List Bool} {result scratch scratch₁ : List ℕ} (ready : Ready u k result scratch) (rules : Rules u words) (known : Known u k words due result scratch)
    (blank : Blanked u k due scratch scratch₁) where
  pub round-ready : Ready u k result scratch₁
  round-ready = still-ready ready ready.result-store blank.front.store

  -- so many sets
  sets-long : (ws : List ℕ) → length (new_sets u ws) ≡ u.n
  sets-long ws = length-take-le u.n (scratch_sets u ws) (omega (arith, length-sets u.b u.ssets ws, ready.work))

  -- what is due begins empty, and the rest stands there already
  begun : round (room u) (grammar_in u words) k (old_sets u result) ≡ round_over u k due (old_sets u result) (new_sets u scratch₁) u.p words
  unfolding round
  begun = sym (due-round (room u) k (old_sets u result) due u.n (productions_of u.p words) (replicate u.n []) (new_sets u scratch₁) (lefts-below rules) (record {
    long = length-replicate u.n [];
    long' = sets-long scratch₁;
    same = λ A h m. blank.empty A h m ∙ sym (set_of-replicate u.n A);
    rest = λ A h m. rw (set_of-replicate u.n A) (known.again A h m ∙ ap got (sym (blank.others A h m ∙ known.stands A h m)));
  }))

  module _ {at : ℕ} {result₂ scratch₂ : List ℕ} where
    pub round-over : {e : Refusal} → Extended u at k (round_over u k due (old_sets u result) (new_sets u scratch₁) u.p words) (Err e) result scratch₁ result₂ scratch₂
        → Rounded u at k (round (room u) (grammar_in u words) k (old_sets u result)) (Err e) result scratch result₂ scratch₂
    round-over m =
        record {
          ends = (begun ∙ m.ends.0, m.ends.1);
          result-beyond = m.result-beyond;
          scratch-beyond = m.scratch-beyond ∙ blank.front.beyond;
        }

    module _ (m : Extended u at k (round_over u k due (old_sets u result) (new_sets u scratch₁) u.p words) (Ok tt) result scratch₁ result₂ scratch₂) where
      pub round-made : Ready u k result₂ scratch₂
      round-made = let d = m.ends in still-ready ready d.in-result.store d.in-scratch.store

      -- the new sets take the place of the old ones
      module _ {alike : Bool} {result₃ : List ℕ} {same : List Bool} (t : TakenFirst u.b u.rsets u.ssets u.n alike scratch₂ result₂ result₃ same) where
        pub round-done : Rounded u at k (round (room u) (grammar_in u words) k (old_sets u result)) (Ok (round_told alike)) result scratch result₃ scratch₂
        round-done =
            let d = m.ends in
            let r = d.in-result.store in
            let taken = t.step k u.w r d.in-scratch.store in
            record {
              ends = record {
                new = new_sets u scratch₂;
                made = begun ∙ d.made ∙ ap got (sym d.in-scratch.front);
                told = ap round_told (t.told k u.w r d.in-scratch.store ∙ ap (same_sets (new_sets u scratch₂)) d.in-result.front);
                in-result = front-then d.in-result (front-all u.n at (new_sets u scratch₂) (sets-long scratch₂) taken);
                in-scratch = front-then blank.front (rw d.in-scratch.front d.in-scratch);
              };
              result-beyond = turned-beyond taken ∙ m.result-beyond;
              scratch-beyond = m.scratch-beyond ∙ blank.front.beyond;
            }

        -- what is marked was there before
        pub round-alike : Alike u same result result₃
        round-alike = record {
          kept = λ A h z.
              let d = m.ends in
              let r = d.in-result.store in
              let s = d.in-scratch.store in
              let there : old_sets u result₃ ≡ new_sets u scratch₂ = (front-all u.n at (new_sets u scratch₂) (sets-long scratch₂) (t.step k u.w r s)).front in
              let old : set_of (old_sets u result₂) A ≡ set_of (old_sets u result) A = ap (λ (F : State). set_of F A) d.in-result.front in
              let same : set_of (scratch_sets u scratch₂) A ≡ set_of (result_sets u result₂) A = same_set-sound _ _ (subst T (sym z ∙ t.marked k u.w r s A h) tt) in
              ap (λ (F : State). set_of F A) there ∙ get_or-take u.n (scratch_sets u scratch₂) A [] h ∙ same ∙ sym (get_or-take u.n (result_sets u result₂) A [] h) ∙ old;
        }
