-- Sets in a row: a, then n, then the rest. What is read and stored in the second and the third zone. Assumes nothing.
use Prim.Native.Nat.{ℕ, suc, ◌+◌, ◌<◌}
use native.Mathlib.Omega.{arith}
use mathlib.Core.Path.{◌≡◌, sym, ap, ◌∙◌}
use mathlib.Core.List.{List, [], ◌∷◌, ◌++◌}
use lib.ListN.{length, take, drop, set, take-append-drop, get_or-append}
use lib.Seq.{take_at, drop_at, drop-drop, get_or-append-add, set-append_left}
use Rattle.k_tuple.specs.Strings.{Str}
use Rattle.k_tuples.specs.States.{State, set_of}

set-append-add : (xs ys : State) (i : ℕ) (v : List Str) → set (xs ++ ys) (length xs + i) v ≡ xs ++ set ys i v
set-append-add [] ys i v = let e : 0 + i ≡ i = omega arith in rw e
set-append-add (x ∷ xs) ys i v = let e : suc (length xs) + i ≡ suc (length xs + i) = omega arith in rw e (ap (λ (l : State). x ∷ l) (set-append-add xs ys i v))

pub zones : (a n : ℕ) (R : State) → R ≡ take a R ++ (take n (drop a R) ++ drop (a + n) R)
zones a n R =
    sym (take-append-drop a R)
    ∙ ap (λ (l : State). take a R ++ l) (sym (take-append-drop n (drop a R)) ∙ ap (λ (l : State). take n (drop a R) ++ l) (drop-drop n a R))

module _ {a n : ℕ} (A F Z : State) (la : length A ≡ a) (lf : length F ≡ n) where
  pub first-zone : take a (A ++ (F ++ Z)) ≡ A
  first-zone = take_at A (F ++ Z) a la

  pub second-zone : take n (drop a (A ++ (F ++ Z))) ≡ F
  second-zone = ap (take n) (drop_at A (F ++ Z) a la) ∙ take_at F Z n lf

  pub third-zone : drop (a + n) (A ++ (F ++ Z)) ≡ Z
  third-zone = sym (drop-drop n a (A ++ (F ++ Z))) ∙ ap (drop n) (drop_at A (F ++ Z) a la) ∙ drop_at F Z n lf

  pub second_at : (s : ℕ) → s < n → set_of (A ++ (F ++ Z)) (a + s) ≡ set_of F s
  second_at s h = rw (← la) (get_or-append-add A (F ++ Z) s [] ∙ get_or-append F Z [] s (rw lf h))

  pub third_at : (i : ℕ) → set_of (A ++ (F ++ Z)) (a + n + i) ≡ set_of Z i
  third_at i =
      let past : a + n + i ≡ length A + (length F + i) = omega arith in
      rw past (get_or-append-add A (F ++ Z) (length F + i) [] ∙ get_or-append-add F Z i [])

  pub second-set : (t : ℕ) (v : List Str) → t < n → set (A ++ (F ++ Z)) (a + t) v ≡ A ++ (set F t v ++ Z)
  second-set t v h = rw (← la) (set-append-add A (F ++ Z) t v ∙ ap (λ (l : State). A ++ l) (set-append_left F Z t v (rw lf h)))

  pub third-set : (i : ℕ) (v : List Str) → set (A ++ (F ++ Z)) (a + n + i) v ≡ A ++ (F ++ set Z i v)
  third-set i v =
      let past : a + n + i ≡ length A + (length F + i) = omega arith in
      rw past (set-append-add A (F ++ Z) (length F + i) v ∙ ap (λ (l : State). A ++ l) (set-append-add F Z i v))
