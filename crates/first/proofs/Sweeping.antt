-- One turn of the loops over what is due: the left sides are marked, and the new sets emptied. Assumes nothing.
use mathlib.Core.Path.{◌≡◌, refl, sym, ap, ◌∙◌}
use mathlib.Core.Bool.{Bool, true, false, true≢false}
use mathlib.Core.List.{List, [], ◌∷◌}
use Prim.Native.Nat.{ℕ, ◌+◌, ◌≤◌, ◌<◌}
use native.Mathlib.Omega.{arith}
use borrow.Author.Count.{below_more}
use lib.ListN.{length, get_or, set}
use lib.Seq.{length-take-le, get_or-set_same, get_or-set_other}
use Rattle.k_tuples.specs.States.{set_of}
use Rattle.k_tuples.specs.Blocks.{IsStored}
use Rattle.k_tuples.proofs.Blocks.{length-sets}
use Rattle.blocks.specs.Stores.{Emptied}
use Rattle.blocks.proofs.Fronts.{front-start, front-then, front-one}
use Rattle.cfg.specs.Reading.{pick}
use Rattle.cfg.specs.Grammar.{Sym, Production}
use Rattle.cfg.specs.Marks.{Marked}
use Rattle.cfg.specs.Closure.{all_marked}
use Rattle.first.specs.declared.Setup.{Setup}
use Rattle.first.specs.Steps.{scratch_sets}
use Rattle.first.specs.Rounds.{new_sets, InScratch}
use Rattle.first.specs.Due.{due_from, Blanked}

-- ---- marking

-- the productions to come, `rest`, complete the marks
module _ (same due goal : List Bool) (rest : List Production) (w : due_from same rest due ≡ goal) where
  pub sweep-end : rest ≡ [] → due ≡ goal
  unfolding due_from
  sweep-end e = rw e at w

  module _ (left : ℕ) (right : List Sym) (behind : List Production) (e : rest ≡ record { left = left; right = right } ∷ behind) (test : Bool) (t : test ≡ all_marked true same right) where
    swept : due_from same behind (pick test due (set due left true)) ≡ goal
    unfolding due_from
    swept = rw t (rw e at w)

    -- one with another set
    pub sweep-mark : test ≡ false → (k : ℕ) → k ≡ left → due_from same behind (set due k true) ≡ goal
    sweep-mark z k q = rw q (rw z at swept)

    -- one whose sets are all the same
    pub sweep-pass : test ≡ true → due_from same behind due ≡ goal
    sweep-pass z = rw z at swept

-- ---- emptying

-- the first i sets are passed
pub record Blanking (u : Setup) (k : ℕ) (due : List Bool) (scratch₀ : List ℕ) (i : ℕ) (scratch : List ℕ) : Type 0 where
  pub below : i ≤ u.n
  pub front : InScratch u k (new_sets u scratch) scratch₀ scratch
  pub empty : (A : ℕ) → A < i → Marked due A → set_of (new_sets u scratch) A ≡ []
  pub others : (A : ℕ) → A < u.n → get_or due A false ≡ false → set_of (new_sets u scratch) A ≡ set_of (new_sets u scratch₀) A

pub blank-start : {u : Setup} {k : ℕ} (due : List Bool) {scratch : List ℕ} → IsStored k u.w u.b u.ssets scratch → Blanking u k due scratch 0 scratch
blank-start due s = record { below = omega arith; front = front-start s; empty = λ A h m. absurd (omega arith); others = λ A h m. refl }

module _ {u : Setup} {k : ℕ} {due : List Bool} {scratch₀ : List ℕ} {i : ℕ} {scratch : List ℕ} (w : Blanking u k due scratch₀ i scratch) where
  pub blank-end : u.n ≤ i → Blanked u k due scratch₀ scratch
  blank-end h = record { front = w.front; empty = λ A z m. w.empty A (omega arith) m; others = w.others }

  module _ (h : i < u.n) where
    -- one that is not due
    pub blank-pass : get_or due i false ≡ false → {scratch' : List ℕ} → scratch' ≡ scratch → Blanking u k due scratch₀ (i + 1) scratch'
    blank-pass e q = rw q (record { below = omega arith; front = w.front; empty = below_more _ i w.empty (λ m. absurd (true≢false (sym m ∙ e))); others = w.others })

    -- one that is due
    pub blank-more : u.n < u.ssets → Marked due i → {scratch' : List ℕ} → Emptied u.b u.ssets i scratch scratch' → {scratch'' : List ℕ} → scratch'' ≡ scratch' → Blanking u k due scratch₀ (i + 1) scratch''
    blank-more room e {scratch'} c q = rw q (record {
      below = omega arith;
      front = front-then w.front (rw emptied.front emptied);
      empty = rw emptied.front (below_more _ i
          (λ A z m. get_or-set_other (new_sets u scratch) i A [] [] (λ (q : A ≡ i). omega arith) ∙ w.empty A z m)
          (λ m. get_or-set_same (new_sets u scratch) i [] [] (omega (arith, long))));
      others = λ A z m. rw emptied.front (get_or-set_other (new_sets u scratch) i A [] [] (λ q. true≢false (sym e ∙ ap (λ (B : ℕ). get_or due B false) (sym q) ∙ m)) ∙ w.others A z m);
    })
      where
        emptied : InScratch u k (set (new_sets u scratch) i []) scratch scratch'
        emptied = front-one u.n u.n i [] h (c.step k u.w w.front.store)

        long : length (new_sets u scratch) ≡ u.n
        long = length-take-le u.n (scratch_sets u scratch) (omega (arith, length-sets u.b u.ssets scratch, room))
