-- Dictionary order: it is told letter by letter, it is kept by merging, and strings that begin alike stand together. Assumes nothing.
use Prim.Native.Nat.{ℕ, zero, suc, ◌≤◌, ◌<◌}
use native.Mathlib.Omega.{arith}
use mathlib.Core.Path.{◌≡◌, refl, sym, ap, ◌∙◌}
use mathlib.Core.Bool.{Bool, true, false, cond}
use mathlib.Core.Logic.{◌↔◌, ◌⊎◌, inl, inr, ⊎_elim}
use mathlib.Core.List.Memᴰ.{head as here}
use mathlib.Core.List.Memᴰ.{not-nil}
use mathlib.Core.List.Memᴰ.{tail as there}
use mathlib.Core.List.{List, [], ◌∷◌}
use lib.Dec.{eqb, eqb→eq, eqb_refl, ltb, ltb→lt, lt→ltb, nltb→le}
use lib.ListN.{length, take, drop}
use Rattle.cfg.specs.Grammar.{Word}
use Rattle.k_tuples.specs.Sets.{◌∈◌}
use Rattle.k_tuples.proofs.Sorted.{cases}
use Rattle.k_tuples.proofs.Tests.{passed, failed, fails, holds, unpassed}
use Rattle.trees.specs.Listed.{word_at, code_at}
use Rattle.trees.specs.Order.{not_after, left_next, merged_with, merged, Sorted}

-- ---- letter by letter

-- Where the letters at a place are the same, those behind them decide.
pub codes_same : (v w : Word) (e : ℕ) → code_at v e ≡ code_at w e → not_after (drop e v) (drop e w) ≡ not_after (drop (suc e) v) (drop (suc e) w)
unfolding code_at not_after
codes_same [] [] zero q = refl
codes_same [] (b ∷ w) zero q = absurd (omega arith)
codes_same (a ∷ v) [] zero q = absurd (omega arith)
codes_same (a ∷ v) (b ∷ w) zero q = let s : a ≡ b = omega arith in rw (s, holds (eqb b b) (eqb_refl b))
codes_same [] [] (suc e) q = refl
codes_same [] (b ∷ w) (suc e) q = refl
codes_same (a ∷ v) [] (suc e) q = past v e (sym q)
  where
    past : (v : Word) (e : ℕ) → 0 ≡ code_at v e → not_after (drop e v) [] ≡ not_after (drop (suc e) v) []
    past [] zero q = refl
    past [] (suc e) q = refl
    past (a ∷ v) zero q = absurd (omega arith)
    past (a ∷ v) (suc e) q = past v e q
codes_same (a ∷ v) (b ∷ w) (suc e) q = codes_same v w e q

-- Where they differ, the lower one decides.
pub codes-differ : (v w : Word) (e : ℕ) → (code_at v e ≡ code_at w e → ⊥) → not_after (drop e v) (drop e w) ≡ ltb (code_at v e) (code_at w e)
unfolding code_at not_after
codes-differ [] [] e n = absurd (n refl)
codes-differ [] (b ∷ w) zero n = sym (holds (ltb 0 (suc b)) (lt→ltb 0 (suc b) (omega arith)))
codes-differ (a ∷ v) [] zero n = sym (unpassed (ltb (suc a) 0) (λ t. omega (arith, ltb→lt (suc a) 0 t)))
codes-differ (a ∷ v) (b ∷ w) zero n =
    rw (unpassed (eqb a b) (λ t. n (ap suc (eqb→eq a b t)))) (by (ltb a b) refl)
  where
    by : (x : Bool) → ltb a b ≡ x → x ≡ ltb (suc a) (suc b)
    by true e = sym (holds (ltb (suc a) (suc b)) (lt→ltb (suc a) (suc b) (let l = ltb→lt a b (passed e) in omega arith)))
    by false e = sym (unpassed (ltb (suc a) (suc b)) (λ t. let l = nltb→le a b (failed e) in omega (arith, ltb→lt (suc a) (suc b) t)))
codes-differ [] (b ∷ w) (suc e) n = ahead w e n
  where
    ahead : (w : Word) (e : ℕ) → (0 ≡ code_at w e → ⊥) → true ≡ ltb 0 (code_at w e)
    ahead [] e n = absurd (n refl)
    ahead (b ∷ w) zero n = sym (holds (ltb 0 (suc b)) (lt→ltb 0 (suc b) (omega arith)))
    ahead (b ∷ w) (suc e) n = ahead w e n
codes-differ (a ∷ v) [] (suc e) n = behind v e n
  where
    behind : (v : Word) (e : ℕ) → (code_at v e ≡ 0 → ⊥) → not_after (drop e v) [] ≡ ltb (code_at v e) 0
    behind [] e n = absurd (n refl)
    behind (a ∷ v) zero n = sym (unpassed (ltb (suc a) 0) (λ t. omega (arith, ltb→lt (suc a) 0 t)))
    behind (a ∷ v) (suc e) n = behind v e n
codes-differ (a ∷ v) (b ∷ w) (suc e) n = codes-differ v w e n

-- ---- the order

-- What the first terminals say.
pub data First (a b : ℕ) (v w : Word) : Type 0 where
  lower : a < b → First a b v w
  same : a ≡ b → not_after v w ≡ true → First a b v w

pub firsts : (a b : ℕ) (v w : Word) → not_after (a ∷ v) (b ∷ w) ≡ true → First a b v w
unfolding not_after
firsts a b v w t = by (eqb a b) refl t
  where
    by : (x : Bool) → eqb a b ≡ x → cond x (not_after v w) (ltb a b) ≡ true → First a b v w
    by true e t = same (eqb→eq a b (passed e)) t
    by false e t = lower (ltb→lt a b (passed t))

first-lower : (a b : ℕ) (v w : Word) → a < b → not_after (a ∷ v) (b ∷ w) ≡ true
unfolding not_after
first-lower a b v w h = rw (unpassed (eqb a b) (λ t. let e = eqb→eq a b t in omega arith)) (holds (ltb a b) (lt→ltb a b h))

first-same : (a b : ℕ) (v w : Word) → a ≡ b → not_after v w ≡ true → not_after (a ∷ v) (b ∷ w) ≡ true
unfolding not_after
first-same a b v w e t = rw (e, holds (eqb b b) (eqb_refl b)) t

no : {P : Type 0} → false ≡ true → P
no e = let z : ◌≡◌ {A = ℕ} 0 1 = cc in absurd (omega arith)

-- One of two comes first.
pub either : (v w : Word) → not_after v w ≡ false → not_after w v ≡ true
unfolding not_after
either [] w e = no (sym e)
either (a ∷ v) [] e = refl
either (a ∷ v) (b ∷ w) e = by (eqb a b) refl e (either v w)
  where
    by : (x : Bool) → eqb a b ≡ x → cond x (not_after v w) (ltb a b) ≡ false → (not_after v w ≡ false → not_after w v ≡ true) → not_after (b ∷ w) (a ∷ v) ≡ true
    by true q e rest = first-same b a w v (sym (eqb→eq a b (passed q))) (rest e)
    by false q e rest = first-lower b a w v (let l = nltb→le a b (failed e) in apart l)
      where
        apart : b ≤ a → b < a
        apart l = let n : a ≡ b → ⊥ = λ s. fails q (rw s (eqb_refl b)) in omega (arith, n)

pub chain : (u v w : Word) → not_after u v ≡ true → not_after v w ≡ true → not_after u w ≡ true
unfolding not_after
chain [] v w s t = refl
chain (a ∷ u) [] w s t = no s
chain (a ∷ u) (b ∷ v) [] s t = no t
chain (a ∷ u) (b ∷ v) (c ∷ w) s t = by (firsts a b u v s) (firsts b c v w t) (chain u v w)
  where
    by : First a b u v → First b c v w → (not_after u v ≡ true → not_after v w ≡ true → not_after u w ≡ true) → not_after (a ∷ u) (c ∷ w) ≡ true
    by (lower h) (lower k) rest = first-lower a c u w (omega arith)
    by (lower h) (same e q) rest = first-lower a c u w (omega arith)
    by (same e p) (lower k) rest = first-lower a c u w (omega arith)
    by (same e p) (same f q) rest = first-same a c u w (e ∙ f) (rest p q)

-- What stands between two that begin alike begins so too.
pub between : (d : ℕ) (u v w : Word) → not_after u v ≡ true → not_after v w ≡ true → take d u ≡ take d w → take d v ≡ take d u
unfolding not_after
between zero u v w s t e = refl
between (suc d) [] [] w s t e = refl
between (suc d) [] (b ∷ v) [] s t e = no t
between (suc d) [] (b ∷ v) (c ∷ w) s t e = absurd (omega (arith, ap length e))
between (suc d) (a ∷ u) v [] s t e = absurd (omega (arith, ap length e))
between (suc d) (a ∷ u) [] (c ∷ w) s t e = no s
between (suc d) (a ∷ u) (b ∷ v) (c ∷ w) s t e = by (firsts a b u v s) (firsts b c v w t) (between d u v w)
  where
    head : a ≡ c
    head = cc

    tail : take d u ≡ take d w
    tail = cc

    by : First a b u v → First b c v w → (not_after u v ≡ true → not_after v w ≡ true → take d u ≡ take d w → take d v ≡ take d u) → b ∷ take d v ≡ a ∷ take d u
    by (lower h) (lower k) rest = let q = head in absurd (omega arith)
    by (lower h) (same f q) rest = let q = head in absurd (omega arith)
    by (same f p) (lower k) rest = let q = head in absurd (omega arith)
    by (same f p) (same g q) rest = rw (f, rest p q tail)

-- Of those that begin alike, the letters behind rise.
pub rises : (d : ℕ) (u w : Word) → not_after u w ≡ true → take d u ≡ take d w → code_at u d ≤ code_at w d
unfolding not_after code_at
rises d [] w s e = omega arith
rises zero (a ∷ u) [] s e = no s
rises (suc d) (a ∷ u) [] s e = no s
rises zero (a ∷ u) (c ∷ w) s e = by (firsts a c u w s)
  where
    by : First a c u w → suc a ≤ suc c
    by (lower h) = omega arith
    by (same f q) = omega arith
rises (suc d) (a ∷ u) (c ∷ w) s e = by (firsts a c u w s) (rises d u w)
  where
    head : a ≡ c
    head = cc

    tail : take d u ≡ take d w
    tail = cc

    by : First a c u w → (not_after u w ≡ true → take d u ≡ take d w → code_at u d ≤ code_at w d) → code_at u d ≤ code_at w d
    by (lower h) rest = let q = head in absurd (omega arith)
    by (same f q) rest = rest q tail

-- ---- merging

module _ (ws : List ℕ) where
  -- The next is from the left,
  pub merge-left : (x : ℕ) (xs ys : List ℕ) → left_next ws (x ∷ xs) ys ≡ true → merged ws (x ∷ xs) ys ≡ x ∷ merged ws xs ys
  unfolding left_next merged merged_with
  merge-left x xs [] t = refl
  merge-left x xs (y ∷ ys) t = rw t

  -- or from the right.
  pub merge-right : (xs : List ℕ) (y : ℕ) (ys : List ℕ) → left_next ws xs (y ∷ ys) ≡ false → merged ws xs (y ∷ ys) ≡ y ∷ merged ws xs ys
  unfolding left_next merged merged_with
  merge-right [] y ys t = refl
  merge-right (x ∷ xs) y ys t = rw t

  -- What a list with x holds.
  with-members : (x : ℕ) (rest : List ℕ → List ℕ) (xs : List ℕ) → ((ys : List ℕ) (j : ℕ) → j ∈ rest ys ↔ (j ∈ xs) ⊎ (j ∈ ys)) → (ys : List ℕ) (j : ℕ) → j ∈ merged_with ws x rest ys ↔ (j ∈ (x ∷ xs)) ⊎ (j ∈ ys)
  unfolding merged_with
  with-members x rest xs is [] j = (
    λ m. cases m (λ e. inl (here e)) (λ n. ⊎_elim (λ i. inl (there i)) inr ((is [] j).0 n)),
    ⊎_elim (λ m. cases m here (λ n. there ((is [] j).1 (inl n)))) (λ m. absurd (not-nil m)),
  )
  with-members x rest xs is (y ∷ ys) j = by (not_after (word_at ws x) (word_at ws y)) (with-members x rest xs is ys j)
    where
      by : (b : Bool) → j ∈ merged_with ws x rest ys ↔ (j ∈ (x ∷ xs)) ⊎ (j ∈ ys) → j ∈ cond b (x ∷ rest (y ∷ ys)) (y ∷ merged_with ws x rest ys) ↔ (j ∈ (x ∷ xs)) ⊎ (j ∈ (y ∷ ys))
      by true more = (
        λ m. cases m (λ e. inl (here e)) (λ n. ⊎_elim (λ i. inl (there i)) inr ((is (y ∷ ys) j).0 n)),
        ⊎_elim (λ m. cases m here (λ n. there ((is (y ∷ ys) j).1 (inl n)))) (λ m. there ((is (y ∷ ys) j).1 (inr m))),
      )
      by false more = (
        λ m. cases m (λ e. inr (here e)) (λ n. ⊎_elim inl (λ i. inr (there i)) (more.0 n)),
        ⊎_elim (λ m. there (more.1 (inl m))) (λ m. cases m here (λ n. there (more.1 (inr n)))),
      )

  -- What two lists as one hold.
  pub merged-members : (xs ys : List ℕ) (j : ℕ) → j ∈ merged ws xs ys ↔ (j ∈ xs) ⊎ (j ∈ ys)
  unfolding merged
  merged-members [] ys j = (inr, ⊎_elim (λ m. absurd (not-nil m)) (λ m. m))
  merged-members (x ∷ xs) ys j = with-members x (merged ws xs) xs (merged-members xs) ys j

  -- A list with x is in order, where the rest is.
  with-sorted : (x : ℕ) (xs : List ℕ) → Sorted ws (x ∷ xs) → ((ys : List ℕ) → Sorted ws ys → Sorted ws (merged ws xs ys)) → (ys : List ℕ) → Sorted ws ys → Sorted ws (merged_with ws x (merged ws xs) ys)
  unfolding merged_with
  with-sorted x xs up rest [] down = (λ y m. ⊎_elim (up.0 y) (λ n. absurd (not-nil n)) ((merged-members xs [] y).0 m), rest [] tt)
  with-sorted x xs up rest (y ∷ ys) down = by (not_after (word_at ws x) (word_at ws y)) refl (with-sorted x xs up rest ys down.1)
    where
      by : (b : Bool) → not_after (word_at ws x) (word_at ws y) ≡ b → Sorted ws (merged_with ws x (merged ws xs) ys) → Sorted ws (cond b (x ∷ merged ws xs (y ∷ ys)) (y ∷ merged_with ws x (merged ws xs) ys))
      by true e more = (
        λ z m. ⊎_elim (up.0 z)
            (λ n. cases n (λ (q : z ≡ y). rw q e) (λ i. chain (word_at ws x) (word_at ws y) (word_at ws z) e (down.0 z i)))
            ((merged-members xs (y ∷ ys) z).0 m),
        rest (y ∷ ys) down,
      )
      by false e more = (
        λ z m. ⊎_elim
            (λ n. cases n (λ (q : z ≡ x). rw q (either (word_at ws x) (word_at ws y) e)) (λ i. chain (word_at ws y) (word_at ws x) (word_at ws z) (either (word_at ws x) (word_at ws y) e) (up.0 z i)))
            (down.0 z)
            ((with-members x (merged ws xs) xs (merged-members xs) ys z).0 m),
        more,
      )

  -- Two lists in order as one are in order.
  pub merged-sorted : (xs ys : List ℕ) → Sorted ws xs → Sorted ws ys → Sorted ws (merged ws xs ys)
  unfolding merged
  merged-sorted [] ys up down = down
  merged-sorted (x ∷ xs) ys up down = with-sorted x xs up (λ zs. merged-sorted xs zs up.1) ys down
