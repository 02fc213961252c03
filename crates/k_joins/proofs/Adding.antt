-- Members put into a set in any order: only which they are matters. Assumes nothing.
use mathlib.Core.Path.{◌≡◌, refl, sym, ap, ◌∙◌}
use mathlib.Core.Bool.{Bool, true, false}
use mathlib.Core.List.Memᴰ.{head as here}
use mathlib.Core.List.Memᴰ.{not-nil}
use mathlib.Core.List.Memᴰ.{tail as there}
use mathlib.Core.List.{List, [], ◌∷◌}
use Prim.Native.Nat.{suc, ◌+◌, ◌≤◌, suc-le-suc}
use native.Mathlib.Nat.{le_refl}
use native.Mathlib.Omega.{arith}
use borrow.Author.Tests.{ltb-true, ltb-false, lt-ltb, le-ltb}
use lib.ListN.{length}
use Rattle.k_tuple.specs.declared.Terminals.{Terminals}
use Rattle.k_tuple.specs.Packed.{words, number_of, less_of}
use Rattle.k_tuples.specs.Sets.{◌∈◌, ◌⊆◌}
use Rattle.k_tuples.specs.Members.{before, adding, add_all}
use Rattle.k_tuples.proofs.Rising.{less-trans, cond-by, before-adding}
use Rattle.k_tuples.proofs.Sorted.{cases}

-- ---- the order of numbers

less-self : (x : Terminals) → less_of x x ≡ false
unfolding less_of
less-self x = le-ltb (number_of x) (number_of x) (le_refl (number_of x))

less-not : (x y : Terminals) → less_of x y ≡ true → less_of y x ≡ false
unfolding less_of
less-not x y e = le-ltb (number_of y) (number_of x) (omega (arith, ltb-true (number_of x) (number_of y) e))

-- a number that is neither below nor above that of x is below what x is below
same-less : (h x y : Terminals) → less_of h x ≡ false → less_of x h ≡ false → less_of x y ≡ true → less_of h y ≡ true
unfolding less_of
same-less h x y e f g =
    lt-ltb (number_of h) (number_of y) (omega (arith, ltb-false (number_of h) (number_of x) e, ltb-false (number_of x) (number_of h) f, ltb-true (number_of x) (number_of y) g))

-- ---- two members in turn

-- a member that comes before all
adding-first : (x : Terminals) (s : List Terminals) → before x s ≡ true → adding x s ≡ x ∷ s
unfolding before adding
adding-first x [] b = refl
adding-first x (h ∷ s) b = rw (less-not x h b, b)

adding-both : (x y : Terminals) (s : List Terminals) → less_of x y ≡ true → before x s ≡ true → adding x (adding y s) ≡ adding y (adding x s)
unfolding adding
adding-both x y s l b = adding-first x (adding y s) (before-adding x y s b l) ∙ sym (ap (adding y) (adding-first x s b) ∙ rw l)

adding-swap : (x y : Terminals) (s : List Terminals) → less_of x y ≡ true → adding x (adding y s) ≡ adding y (adding x s)
unfolding adding before
adding-swap x y [] l = adding-both x y [] l refl
adding-swap x y (h ∷ s) l = by (less_of h x) refl (less_of x h) refl (adding-swap x y s l)
  where
    by : (p : Bool) → less_of h x ≡ p → (q : Bool) → less_of x h ≡ q → adding x (adding y s) ≡ adding y (adding x s) → adding x (adding y (h ∷ s)) ≡ adding y (adding x (h ∷ s))
    by true e q f below = rw (e, less-trans h x y e l, e) (ap (λ (r : List Terminals). h ∷ r) below)
    by false e true f below = adding-both x y (h ∷ s) l f
    by false e false f below = rw (e, f, same-less h x y e f l, e, f)

adding-twice : (x : Terminals) (s : List Terminals) → adding x (adding x s) ≡ adding x s
unfolding adding
adding-twice x [] = rw (less-self x)
adding-twice x (h ∷ s) = by (less_of h x) refl (less_of x h) refl (adding-twice x s)
  where
    by : (p : Bool) → less_of h x ≡ p → (q : Bool) → less_of x h ≡ q → adding x (adding x s) ≡ adding x s → adding x (adding x (h ∷ s)) ≡ adding x (h ∷ s)
    by true e q f below = rw (e, e) (ap (λ (r : List Terminals). h ∷ r) below)
    by false e true f below = rw (e, f, less-self x)
    by false e false f below = rw (e, f, e, f)

-- the words of one number
abbrev pub Low : Terminals → Type 0
Low x = x ≡ words (number_of x)

adding-order : (x y : Terminals) (s : List Terminals) → Low x → Low y → adding x (adding y s) ≡ adding y (adding x s)
unfolding less_of
adding-order x y s p q = by (less_of x y) refl (less_of y x) refl
  where
    same : less_of x y ≡ false → less_of y x ≡ false → x ≡ y
    same e f =
        let n : number_of x ≡ number_of y = omega (arith, ltb-false (number_of x) (number_of y) e, ltb-false (number_of y) (number_of x) f) in
        p ∙ ap words n ∙ sym q

    by : (a : Bool) → less_of x y ≡ a → (b : Bool) → less_of y x ≡ b → adding x (adding y s) ≡ adding y (adding x s)
    by true e b f = adding-swap x y s e
    by false e true f = sym (adding-swap y x s f)
    by false e false f = rw (same e f)

-- ---- lists

abbrev pub AllLow : List Terminals → Type 0
AllLow l = (x : Terminals) → x ∈ l → Low x

add_all-one : (x : Terminals) (p s : List Terminals) → Low x → AllLow p → add_all p (adding x s) ≡ adding x (add_all p s)
unfolding add_all
add_all-one x [] s e h = refl
add_all-one x (y ∷ p) s e h = ap (add_all p) (adding-order y x s (h y (here refl)) e) ∙ add_all-one x p (adding y s) e (λ z m. h z (there m))

add_all-order : (p q s : List Terminals) → AllLow p → AllLow q → add_all p (add_all q s) ≡ add_all q (add_all p s)
unfolding add_all
add_all-order p [] s f g = refl
add_all-order p (x ∷ q) s f g =
    add_all-order p q (adding x s) f (λ z m. g z (there m)) ∙ ap (add_all q) (add_all-one x p s (g x (here refl)) f)

-- what is among the members to come changes nothing
add_all-known : (x : Terminals) (p s : List Terminals) → Low x → AllLow p → x ∈ p → add_all p (adding x s) ≡ add_all p s
unfolding add_all
add_all-known x [] s e h m = absurd (not-nil m)
add_all-known x (y ∷ p) s e h m =
    cases m (λ (q : x ≡ y). ap (add_all p) (ap (λ (z : Terminals). adding y (adding z s)) q ∙ adding-twice y s))
    (λ i. ap (add_all p) (adding-order y x s (h y (here refl)) e) ∙ add_all-known x p (adding y s) e (λ z n. h z (there n)) i)

pub add_all-part : (p q s : List Terminals) → AllLow p → AllLow q → q ⊆ p → add_all p (add_all q s) ≡ add_all p s
unfolding add_all
add_all-part p [] s f g h = refl
add_all-part p (x ∷ q) s f g h =
    add_all-part p q (adding x s) f (λ z m. g z (there m)) (λ z m. h z (there m)) ∙ add_all-known x p s (g x (here refl)) f (h x (here refl))

-- two lists of the same members give the same set
pub add_all-same : (p q s : List Terminals) → AllLow p → AllLow q → p ⊆ q → q ⊆ p → add_all p s ≡ add_all q s
add_all-same p q s f g h i = sym (add_all-part p q s f g i) ∙ add_all-order p q s f g ∙ add_all-part q p s g f h

-- ---- how many there are

adding-most : (x : Terminals) (s : List Terminals) → length (adding x s) ≤ suc (length s)
unfolding adding
adding-most x [] = le_refl 1
adding-most x (y ∷ s) =
    let P : List Terminals → Type 0 = λ l. length l ≤ suc (suc (length s)) in
    let below = adding-most x s in
    cond-by P (less_of y x) _ _ (λ e. suc-le-suc below) (λ e. cond-by P (less_of x y) _ _ (λ f. le_refl (suc (suc (length s)))) (λ f. omega arith))

pub add_all-most : (p s : List Terminals) → length (add_all p s) ≤ length p + length s
unfolding add_all
add_all-most [] s = omega arith
add_all-most (x ∷ p) s = let below = add_all-most p (adding x s) in let one = adding-most x s in omega arith
