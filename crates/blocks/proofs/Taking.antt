-- The first sets of words become those of others, one after the other, each with a mark whether it was that before. Assumes nothing.
use mathlib.Core.Path.{◌≡◌, refl, sym, ap, ◌∙◌, subst}
use mathlib.Core.Bool.{Bool, true, false, ◌&&◌}
use Rattle.std.proofs.Math.Bool.{and_assoc}
use mathlib.Core.List.{List, [], ◌++◌}
use Prim.Native.Nat.{ℕ, ◌+◌, ◌-◌, ◌≤◌, ◌<◌}
use native.Mathlib.Nat.{add-zero}
use native.Mathlib.Omega.{arith}
use lib.Dec.{T}
use borrow.Author.Count.{below_more}
use lib.ListN.{length, get_or, set, take, drop, length-set}
use lib.Seq.{length-take-le, get_or-append-add, get_or-drop, get_or-set_same, get_or-set_other, set-get_or}
use Rattle.k_tuples.specs.Sets.{same_set}
use Rattle.k_tuples.specs.States.{State, set_of, same_sets}
use Rattle.k_tuples.specs.Blocks.{sets_in, IsStored}
use Rattle.k_tuples.proofs.Lists.{set_next}
use Rattle.k_tuples.proofs.Sets.{same_set-sound}
use Rattle.k_tuples.proofs.Blocks.{length-sets, in-sets}
use Rattle.blocks.specs.Stores.{Turned, CopiedBlock, TakenBlock, TakenFirst}
use Rattle.blocks.proofs.Stores.{as-turned, turned-store, turned-sets, turned_then, same_next}

-- ---- one set

module _ {b m l i : ℕ} {r : Bool} {vs ws : List ℕ} (told : (k w : ℕ) → IsStored k w b m ws → IsStored k w b l vs → r ≡ same_set (set_of (sets_in b l vs) i) (set_of (sets_in b m ws) i)) where
  -- it is that already
  pub taken-same : r ≡ true → TakenBlock b m l i r vs ws ws
  taken-same e = record {
    step = λ k w f g.
        let F = sets_in b m ws in
        let same : set_of (sets_in b l vs) i ≡ set_of F i = same_set-sound _ _ (subst T (sym e ∙ told k w f g) tt) in
        rw (same, set-get_or F i []) (as-turned f);
    told = told;
  }

  -- it is copied
  pub taken-copy : {ws' : List ℕ} → CopiedBlock b m l i i vs ws ws' → TakenBlock b m l i r vs ws ws'
  taken-copy c = record { step = c.step; told = told }

-- ---- the first sets

and-end : (a b : Bool) → b ≡ true → (a && b) ≡ a
and-end true b e = e
and-end false b e = refl

-- set i of a list whose first i sets are others
set-behind : (i : ℕ) (F G : State) → i ≤ length F → set_of (take i F ++ drop i G) i ≡ set_of G i
set-behind i F G h =
    let size : length (take i F) ≡ i = length-take-le i F h in
    ap (set_of (take i F ++ drop i G)) (sym (ap (λ (n : ℕ). n + 0) size ∙ add-zero i)) ∙ get_or-append-add (take i F) (drop i G) 0 [] ∙ get_or-drop i G 0 [] ∙ ap (set_of G) (add-zero i)

module _ (b m l n : ℕ) (vs ws₀ : List ℕ) (marks₀ : List Bool) where
  abbrev There : State
  There = sets_in b l vs

  abbrev Here : State
  Here = sets_in b m ws₀

  -- what the sets from i on tell
  abbrev from : ℕ → Bool
  from i = same_sets (take (n - i) (drop i There)) (take (n - i) (drop i Here))

  -- i sets are taken
  pub record Taking (i : ℕ) (all : Bool) (ws : List ℕ) (marks : List Bool) : Type 0 where
    pub below : i ≤ n
    pub long : length marks ≡ length marks₀
    pub step : (k w : ℕ) → IsStored k w b m ws₀ → IsStored k w b l vs → Turned k w b m (take i There ++ drop i Here) ws₀ ws
    pub told : same_sets (take n There) (take n Here) ≡ (all && from i)
    pub marked : (k w : ℕ) → IsStored k w b m ws₀ → IsStored k w b l vs → (j : ℕ) → j < i → get_or marks j false ≡ same_set (set_of There j) (set_of Here j)

  pub taking-start : Taking 0 true ws₀ marks₀
  taking-start =
      let whole : n - 0 ≡ n = omega arith in
      record { below = omega arith; long = refl; step = λ k w f g. as-turned f; told = rw whole; marked = λ k w f g j z. absurd (omega arith) }

  module _ {i : ℕ} {all : Bool} {ws : List ℕ} {marks : List Bool} (t : Taking i all ws marks) where
    -- no set more
    pub taking-end : n ≤ i → TakenFirst b m l n all vs ws₀ ws marks
    unfolding same_sets
    taking-end h =
        let whole : i ≡ n = omega (arith, t.below) in
        let none : n - i ≡ 0 = omega arith in
        record {
          step = rw whole at t.step;
          told = λ k w f g. sym (t.told ∙ and-end all (from i) (rw none));
          marked = λ k w f g j z. t.marked k w f g j (omega arith);
        }

    -- one set more
    module _ {k₀ w₀ : ℕ} (f₀ : IsStored k₀ w₀ b m ws₀) (g₀ : IsStored k₀ w₀ b l vs) (many : n ≤ m) (enough : n ≤ l) (noted : n ≤ length marks₀) (h : i < n) {r : Bool} {ws' : List ℕ} (c : TakenBlock b m l i r vs ws ws') where
      alike : {k w : ℕ} → IsStored k w b m ws₀ → IsStored k w b l vs → r ≡ same_set (set_of There i) (set_of Here i)
      alike {k} {w} f g =
          c.told k w (turned-store (t.step k w f g)) g
          ∙ ap (same_set (set_of There i)) (ap (λ (F : State). set_of F i) (turned-sets (t.step k w f g)) ∙ set-behind i There Here (omega (arith, length-sets b l vs)))

      pub taking-more : {all' : Bool} → all' ≡ (all && r) → Taking (i + 1) all' ws' (set marks i r)
      taking-more e = record {
        below = omega arith;
        long = length-set marks i r ∙ t.long;
        step = λ k w f g.
            let so_far = t.step k w f g in
            subst (λ (F : State). Turned k w b m F ws₀ ws') (set_next [] i There Here (in-sets g (omega arith)) (in-sets f (omega arith)))
            (turned_then so_far (λ F. set F i (set_of There i)) (c.step k w (turned-store so_far) g));
        told =
            t.told
            ∙ ap (λ (x : Bool). all && x) (same_next n i There Here h (omega (arith, length-sets b l vs)) (omega (arith, length-sets b m ws₀)) ∙ ap (λ (x : Bool). x && from (i + 1)) (sym (alike f₀ g₀)))
            ∙ sym (and_assoc all r (from (i + 1))) ∙ ap (λ (x : Bool). x && from (i + 1)) (sym e);
        marked = λ k w f g. below_more _ i
            (λ j z. get_or-set_other marks i j r false (λ (q : j ≡ i). omega arith) ∙ t.marked k w f g j z)
            (get_or-set_same marks i r false (omega (arith, t.long)) ∙ alike f g);
      }
