-- Joins that change nothing: a part joined to {ε} is the part, and a product whose members are all complete stays as it is. Assumes nothing.
use mathlib.Core.Path.{◌≡◌, refl, sym, ap, ◌∙◌}
use mathlib.Core.Bool.{Bool, true, false, true≢false}
use mathlib.Core.List.Memᴰ.{eq_of_singleton as only}
use mathlib.Core.List.Memᴰ.{head as here}
use mathlib.Core.List.{List, [], ◌∷◌}
use Prim.Native.Nat.{ℕ, ◌≤◌}
use lib.Dec.{T}
use Rattle.k_tuple.specs.Strings.{Str, eps, length_of, complete, join}
use Rattle.k_tuples.specs.Sets.{◌∈◌, Sorted, Joined, stays, meets, join_sets, all_complete}
use Rattle.k_tuples.specs.States.{State}
use Rattle.k_tuples.specs.Work.{got, within}
use Rattle.k_tuples.proofs.Sets.{join_sets-only, all_complete-means}
use Rattle.k_tuples.proofs.Joins.{join-eps}
use Rattle.first_theory.specs.First.{Part}
use Rattle.first_theory.specs.Compute.{part_set, join_parts}

-- ---- a product whose members are all complete

-- Complete members stay, and there are no others.
complete-stays : (k : ℕ) (a b : List Str) → Sorted a → ((x : Str) → x ∈ a → complete k x ≡ true) → join_sets k a b ≡ a
complete-stays k a b s all = sym (join_sets-only k a b a s (λ z. (λ m. stays m (all z m), back z)))
  where
    back : (z : Str) → Joined k a (λ y. y ∈ b) z → z ∈ a
    back z (stays m c) = m
    back z (meets {x = x} m c n e) = absurd (true≢false (sym (all x m) ∙ c))

-- a test that says yes
is_true : (b : Bool) → T b → b ≡ true
is_true true t = refl
is_true false t = elim t [ ]

-- So no part behind it changes a product that has room.
pub parts-idle : (c k : ℕ) (X : State) (a : List Str) → Sorted a → within c a ≡ got a → all_complete k a ≡ true → (ps : List Part) → join_parts c k X a ps ≡ got a
unfolding join_parts
parts-idle c k X a s fits all [] = refl
parts-idle c k X a s fits all (p ∷ ps) =
    rw (complete-stays k a (part_set k X p) s (λ x m. is_true (complete k x) ((all_complete-means k a).0 (rw all tt) x m)), fits) (parts-idle c k X a s fits all ps)

-- ---- the first part

-- A set joined to {ε} is the set.
eps-idle : (k : ℕ) (b : List Str) → Sorted b → ((y : Str) → y ∈ b → (1 ≤ length_of y) × (length_of y ≤ k)) → join_sets k (eps ∷ []) b ≡ b
eps-idle k b s fit = sym (join_sets-only k (eps ∷ []) b b s (λ z. (λ m. meets (here refl) refl m (sym (join-eps k z (fit z m).0 (fit z m).1)), back z)))
  where
    back : (z : Str) → Joined k (eps ∷ []) (λ y. y ∈ b) z → z ∈ b
    back z (stays m c) = absurd (true≢false (sym c ∙ ap (complete k) (only m)))
    back z (meets {x = x} {y = y} m c n e) = rw (e ∙ ap (λ (x : Str). join k x y) (only m) ∙ join-eps k y (fit y n).0 (fit y n).1) n

-- So the first part, where it has room, is the first product.
pub first-idle : (c k : ℕ) (X : State) (p : Part) (ps : List Part)
    → Sorted (part_set k X p) → ((y : Str) → y ∈ part_set k X p → (1 ≤ length_of y) × (length_of y ≤ k)) → within c (part_set k X p) ≡ got (part_set k X p)
    → join_parts c k X (eps ∷ []) (p ∷ ps) ≡ join_parts c k X (part_set k X p) ps
unfolding join_parts
first-idle c k X p ps s fit room = rw (eps-idle k (part_set k X p) s fit, room)
