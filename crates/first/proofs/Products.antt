-- The sets of the productions, one after the other. The invariant is `Producing`. Assumes nothing.
use mathlib.Core.Path.{◌≡◌, refl, sym, ap, ◌∙◌, subst}
use mathlib.Core.List.{List, [], ◌∷◌, ◌++◌, append_assoc, append-nil, map}
use Prim.Native.Nat.{ℕ, suc, ◌+◌, ◌-◌, ◌≤◌, ◌<◌}
use native.Mathlib.Nat.{add-zero}
use native.Mathlib.Omega.{arith}
use lib.ListN.{length, set, take, drop, length-append, take-append-drop}
use lib.Seq.{length-take-le, take_at, set_at, drop-cons}
use Rattle.k_tuple.specs.Strings.{Str}
use Rattle.k_tuples.specs.States.{State, set_of}
use Rattle.k_tuples.specs.Work.{Answer, refused, got, ◌>>=◌}
use Rattle.k_tuples.proofs.Blocks.{length-sets}
use Rattle.std.specs.Prelude.{Ok, Err}
use Rattle.refusals.specs.declared.Refusal.{Refusal}
use Rattle.blocks.specs.Stores.{Turned}
use Rattle.blocks.proofs.Stores.{as-turned, turned-store, turned-sets, turned-beyond, turned_then}
use Rattle.blocks.proofs.Fronts.{front-start, front-then, front-free}
use Rattle.cfg.specs.Grammar.{Production}
use Rattle.cfg.specs.declared.table.Span.{Span}
use Rattle.cfg.specs.Written.{symbol_of, productions_of}
use Rattle.cfg.specs.Words.{SpanAt}
use Rattle.cfg.proofs.Cursor.{span-first}
use Rattle.first_theory.specs.Compute.{right_side, production_sets}
use Rattle.first.specs.declared.Setup.{Setup}
use Rattle.first.specs.Steps.{result_sets, old_sets, room, Ready, Free, Made}
use Rattle.first.specs.Rounds.{new_sets, InScratch, Rules}
use Rattle.first.specs.Levels.{Produced}
use Rattle.first.proofs.Walk.{still-ready}
use Rattle.first.proofs.Passing.{Passing, pass-start, pass-next}

-- behind some items: those of an answer
abbrev behind : {A : Type 0} → List A → Answer (List A) → Answer (List A)
behind xs m = m >>= λ more. got (xs ++ more)

behind-one : {A : Type 0} (xs : List A) (x : A) (m : Answer (List A)) → behind xs (m >>= λ more. got (x ∷ more)) ≡ behind (xs ++ (x ∷ [])) m
behind-one xs x (refused e) = refl
behind-one xs x (got more) = ap got (sym (append_assoc xs (x ∷ []) more))

behind-none : {A : Type 0} (m : Answer (List A)) → m ≡ behind [] m
behind-none (refused e) = refl
behind-none (got xs) = refl

-- one set more in a list of sets
set_next : (n i : ℕ) (F products : State) (x : List Str) → length products ≡ i → n + i < length F
    → set (take n F ++ (products ++ drop (n + i) F)) (n + i) x ≡ take n F ++ ((products ++ (x ∷ [])) ++ drop (n + (i + 1)) F)
set_next n i F products x e h =
    let front = take n F ++ products in
    let long : length front ≡ n + i = simp (length-append, length-take-le n F (omega arith)) (omega arith) in
    let past : n + (i + 1) ≡ suc (n + i) = omega arith in
    ap (λ (l : State). set l (n + i) x)
    (sym (append_assoc (take n F) products (drop (n + i) F)) ∙ ap (λ (l : State). front ++ l) (drop-cons F (n + i) [] h))
    ∙ set_at front (set_of F (n + i)) (drop (suc (n + i)) F) x (n + i) long
    ∙ append_assoc (take n F) products (x ∷ drop (suc (n + i)) F)
    ∙ ap (λ (l : State). take n F ++ l) (sym (append_assoc products (x ∷ []) (drop (suc (n + i)) F)))
    ∙ ap (λ (m : ℕ). take n F ++ ((products ++ (x ∷ [])) ++ drop m F)) (sym past)

-- the sets of the productions that some words begin with
abbrev pub sets_from : Setup → ℕ → State → ℕ → List ℕ → Answer State
sets_from u k X p ws = production_sets (room u) k X (productions_of p ws)

-- i sets have been made, and the next production begins at `place`
pub record Producing (u : Setup) (k : ℕ) (words result₀ scratch₀ : List ℕ) (i place : ℕ) (result scratch : List ℕ) : Type 0 where
  pub pass : Passing u words i place
  pub products : State
  pub count : length products ≡ i
  pub held : Turned k u.w u.b u.rsets (old_sets u result₀ ++ (products ++ drop (u.n + i) (result_sets u result₀))) result₀ result
  pub in-scratch : InScratch u k (new_sets u scratch₀) scratch₀ scratch
  pub to-come : sets_from u k (old_sets u result₀) u.p words ≡ behind products (sets_from u k (old_sets u result₀) (u.p - i) (drop place words))

pub producing-start : {u : Setup} {k : ℕ} {words result₀ scratch₀ : List ℕ} → Ready u k result₀ scratch₀ → Rules u words → Producing u k words result₀ scratch₀ 0 0 result₀ scratch₀
producing-start {u} {k} {words} {result₀} ready rules =
    let all : u.p - 0 ≡ u.p = omega arith in
    record {
      pass = pass-start rules;
      products = [];
      count = refl;
      held =
          subst (λ (F : State). Turned k u.w u.b u.rsets F result₀ result₀)
          (sym (take-append-drop u.n (result_sets u result₀)) ∙ ap (λ (m : ℕ). take u.n (result_sets u result₀) ++ drop m (result_sets u result₀)) (sym (add-zero u.n)))
          (as-turned ready.result-store);
      in-scratch = front-start ready.scratch-store;
      to-come = behind-none (sets_from u k (old_sets u result₀) u.p words) ∙ rw all;
    }

module _ {u : Setup} {k : ℕ} {words result₀ scratch₀ : List ℕ} {i place : ℕ} {result scratch : List ℕ} (prod : Producing u k words result₀ scratch₀ i place result scratch) where
  pub producing-ready : Ready u k result₀ scratch₀ → Ready u k result scratch
  producing-ready ready = still-ready ready (turned-store prod.held) prod.in-scratch.store

  -- no production more
  pub producing-end : u.p ≤ i → Produced u k (sets_from u k (old_sets u result₀) u.p words) (Ok tt) result₀ scratch₀ result scratch
  unfolding production_sets
  producing-end h =
      let none : u.p - i ≡ 0 = omega arith in
      let all : i ≡ u.p = omega (arith, prod.pass.cursor.below) in
      record {
        ends = record {
          products = prod.products;
          made = prod.to-come ∙ rw none (ap got (append-nil prod.products));
          held = rw (← all) prod.held;
          in-scratch = prod.in-scratch;
        };
        result-beyond = turned-beyond prod.held;
        scratch-beyond = prod.in-scratch.beyond;
      }

  -- one production more
  module _ (fits : u.n + u.p ≤ u.rsets) (more : i < u.p) where
    pub producing-free : Free u (u.n + i)
    producing-free = record { after = omega arith; within = omega arith }

    -- the sets of the nonterminals are as they were
    old-kept : old_sets u result ≡ old_sets u result₀
    old-kept =
        ap (take u.n) (turned-sets prod.held)
        ∙ take_at (old_sets u result₀) _ u.n (length-take-le u.n (result_sets u result₀) (omega (arith, length-sets u.b u.rsets result₀)))

    module _ (span : Span) (s : SpanAt words place span) where
      next : sets_from u k (old_sets u result₀) u.p words
          ≡ behind prod.products (right_side (room u) k (old_sets u result) (map symbol_of (take (span.to - span.from) (drop span.from words)))
          >>= λ a. sets_from u k (old_sets u result₀) (u.p - (i + 1)) (drop span.to words) >>= λ more. got (a ∷ more))
      unfolding production_sets
      next =
          let γ = map symbol_of (take (span.to - span.from) (drop span.from words)) in
          let rest = sets_from u k (old_sets u result₀) (u.p - (i + 1)) (drop span.to words) in
          prod.to-come
          ∙ ap (λ (ps : List Production). behind prod.products (production_sets (room u) k (old_sets u result₀) ps)) (span-first u.n u.p words i place prod.pass.cursor more span s)
          ∙ ap (λ (X : State). behind prod.products (right_side (room u) k X γ >>= λ a. rest >>= λ more. got (a ∷ more))) (sym old-kept)

      -- the set of that production
      abbrev product : Answer (List Str)
      product = right_side (room u) k (old_sets u result) (map symbol_of (take (span.to - span.from) (drop span.from words)))

      module _ {result' scratch' : List ℕ} where
        pub producing-over : {e : Refusal} → Made u (u.n + i) k product (Err e) result scratch result' scratch' → Produced u k (sets_from u k (old_sets u result₀) u.p words) (Err e) result₀ scratch₀ result' scratch'
        producing-over m =
            record {
              ends = (next ∙ rw m.ends.0, m.ends.1);
              result-beyond = m.result-beyond ∙ turned-beyond prod.held;
              scratch-beyond = m.scratch-beyond ∙ prod.in-scratch.beyond;
            }

        pub producing-more : Made u (u.n + i) k product (Ok tt) result scratch result' scratch' → Producing u k words result₀ scratch₀ (i + 1) span.to result' scratch'
        producing-more m =
            let d = m.ends in
            let rest = sets_from u k (old_sets u result₀) (u.p - (i + 1)) (drop span.to words) in
            let new-kept : new_sets u scratch ≡ new_sets u scratch₀ = prod.in-scratch.front in
            record {
              pass = pass-next prod.pass more span s;
              products = prod.products ++ (d.product ∷ []);
              count = simp length-append (omega (arith, prod.count));
              held =
                  subst (λ (F : State). Turned k u.w u.b u.rsets F result₀ result')
                  (set_next u.n i (result_sets u result₀) prod.products d.product prod.count (omega (arith, length-sets u.b u.rsets result₀)))
                  (turned_then prod.held (λ F. set F (u.n + i) d.product) d.placed.held);
              in-scratch = front-then prod.in-scratch (rw (← new-kept) (front-free u.n u.n d.placed.work (omega arith) d.placed.worked));
              to-come =
                  next ∙ ap (λ (a : Answer (List Str)). behind prod.products (a >>= λ a. rest >>= λ more. got (a ∷ more))) d.made ∙ behind-one prod.products d.product rest;
            }
