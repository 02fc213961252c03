-- What members of a class give: a string that is not complete takes as much of another as it is cut to. Assumes nothing.
use mathlib.Core.Path.{◌≡◌, refl, sym, ap, ◌∙◌, subst}
use mathlib.Core.Bool.{Bool, true, false, cond}
use mathlib.Core.List.Memᴰ.{head as here}
use mathlib.Core.List.Memᴰ.{not-nil}
use mathlib.Core.List.Memᴰ.{tail as there}
use mathlib.Core.List.{List, [], ◌∷◌, ◌++◌}
use mathlib.Core.Logic.{inr, ⊎_elim}
use Prim.Native.Nat.{ℕ, zero, suc, ◌-◌, ◌<◌}
use native.Mathlib.Omega.{arith}
use lib.ListN.{length, take}
use Rattle.k_tuple.specs.Strings.{Str, eps, slots, terminals, is_eps, length_of, complete, cut, join}
use Rattle.k_tuples.specs.Sets.{◌∈◌, Sorted}
use Rattle.k_tuples.proofs.Sorted.{cases}
use Rattle.k_tuples.proofs.Sets.{mem-union, union-sorted}
use Rattle.k_tuples.proofs.Joins.{incomplete-short}
use Rattle.k_joins.specs.Runs.{follow, cuts, cut_set}
use Rattle.k_joins.proofs.Order.{NoEps}

pub not-both : {t : Bool} → t ≡ true → t ≡ false → ⊥
not-both e f = let z : ◌≡◌ {A = ℕ} 0 1 = cc in omega arith

pub eps-is : (y : Str) → is_eps y ≡ true → y ≡ eps
eps-is eps e = refl
eps-is (slots s) e = absurd (not-both refl (sym e))

-- ---- cuts

cut-slots : (r : ℕ) (s : List ℕ) → 0 < r → cut r (slots s) ≡ slots (take r s)
cut-slots zero s h = absurd (omega arith)
cut-slots (suc r) s h = refl

cut-plain : (r : ℕ) (y : Str) → is_eps y ≡ false → is_eps (cut r y) ≡ false
cut-plain zero y e = refl
cut-plain (suc r) eps e = e
cut-plain (suc r) (slots s) e = refl

pub record CutOf (r : ℕ) (b : List Str) (z : Str) : Type 0 where
  pub whole : Str
  pub inside : whole ∈ b
  pub other : is_eps whole ≡ false
  pub is : z ≡ cut r whole

pub cuts-cases : (r : ℕ) (z : Str) (b : List Str) → z ∈ cuts r b → CutOf r b z
unfolding cuts
cuts-cases r z [] m = absurd (not-nil m)
cuts-cases r z (y ∷ b) m = by (cuts-cases r z b) (is_eps y) refl m
  where
    up : CutOf r b z → CutOf r (y ∷ b) z
    up c = record { whole = c.whole; inside = there c.inside; other = c.other; is = c.is }

    by : (z ∈ cuts r b → CutOf r b z) → (t : Bool) → is_eps y ≡ t → z ∈ cond t (cuts r b) (cut r y ∷ cuts r b) → CutOf r (y ∷ b) z
    by below true e m = up (below m)
    by below false e m = cases m (λ s. record { whole = y; inside = here refl; other = e; is = s }) (λ i. up (below i))

cuts-has : (r : ℕ) (y : Str) (b : List Str) → y ∈ b → is_eps y ≡ false → cut r y ∈ cuts r b
unfolding cuts
cuts-has r y [] m e = absurd (not-nil m)
cuts-has r y (x ∷ b) m e = by (cuts-has r y b) (is_eps x) refl
  where
    by : (y ∈ b → is_eps y ≡ false → cut r y ∈ cuts r b) → (t : Bool) → is_eps x ≡ t → cut r y ∈ cond t (cuts r b) (cut r x ∷ cuts r b)
    by below true f = cases m (λ s. absurd (not-both f (sym (ap is_eps s) ∙ e))) (λ i. below i e)
    by below false f = cases m (λ s. here (ap (cut r) s)) (λ i. there (below i e))

pub cut_set-cases : (r : ℕ) (z : Str) (b : List Str) → z ∈ cut_set r b → CutOf r b z
unfolding cut_set
cut_set-cases r z b m = ⊎_elim (λ i. absurd (not-nil i)) (cuts-cases r z b) ((mem-union z [] (cuts r b)).0 m)

pub cut_set-has : (r : ℕ) (y : Str) (b : List Str) → y ∈ b → is_eps y ≡ false → cut r y ∈ cut_set r b
unfolding cut_set
cut_set-has r y b m e = (mem-union (cut r y) [] (cuts r b)).1 (inr (cuts-has r y b m e))

pub cut_set-sorted : (r : ℕ) (b : List Str) → Sorted (cut_set r b)
unfolding cut_set
cut_set-sorted r b = union-sorted [] (cuts r b) tt

pub cut_set-plain : (r : ℕ) (b : List Str) → NoEps (cut_set r b)
cut_set-plain r b z m = let c = cut_set-cases r z b m in subst (λ (v : Str). is_eps v ≡ false) (sym c.is) (cut-plain r c.whole c.other)

-- ---- what two strings give

abbrev pub Some : List Str → Type 0
Some b = (y : Str) → y ∈ b → 0 < length_of y

pub join-follow : (k l : ℕ) (x y : Str) → 0 < k → complete k x ≡ false → length (terminals x) ≡ l → is_eps y ≡ false → 0 < length_of y → join k x y ≡ follow x (cut (k - l) y)
join-follow k l x eps some c s e p = absurd (not-both refl e)
join-follow k l x (slots []) some c s e p = absurd (omega arith)
join-follow k l x (slots (a ∷ t)) some c s e p =
    let short = incomplete-short k x some c in
    rw c (ap (λ (u : List ℕ). slots (terminals x ++ u)) (ap (λ (n : ℕ). take (k - n) (a ∷ t)) s ∙ sym (ap terminals (cut-slots (k - l) (a ∷ t) (omega arith)))))
