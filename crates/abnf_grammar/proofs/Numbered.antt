-- Words by their number among some: a word keeps its number when words are put behind, and two words with one number are the same. Assumes nothing.
use Prim.Native.Nat.{ℕ, suc, ◌≤◌, ◌<◌}
use native.Mathlib.Omega.{arith}
use mathlib.Core.Path.{◌≡◌, refl, sym, ap, ◌∙◌}
use mathlib.Core.List.{List, [], ◌∷◌, ◌++◌, map}
use mathlib.Core.Bool.{Bool, true, false, ◌||◌}
use lib.ListN.{length, length-append}
use lib.Dec.{ltb, eqb}
use borrow.Author.Tests.{ltb-true, ltb-false, le-ltb, eqb-true, eqb-false, ne_eqb}
use Rattle.cfg.specs.Reading.{pick}
use Rattle.abnf_tables.specs.Words.{word_at, compare, position}
use Rattle.abnf_tables.specs.Tables.{among}
use Rattle.abnf_grammar.specs.Subset.{NoneOf, Different}
use Rattle.abnf_grammar.specs.Meaning.{index, with}

-- ---- every member

abbrev pub Every : {A : Type 0} → (A → Type 0) → List A → Type 0
Every P [] = Unit {0}
Every P (x ∷ xs) = P x × Every P xs

-- one member more at the end, and what follows from each
pub every-snoc : {A : Type 0} (P : A → Type 0) (xs : List A) (v : A) → Every P xs → P v → Every P (xs ++ (v ∷ []))
every-snoc P [] v h k = (k, tt)
every-snoc P (x ∷ xs) v h k = (h.0, every-snoc P xs v h.1 k)

pub every_map : {A : Type 0} (P Q : A → Type 0) → ((x : A) → P x → Q x) → (xs : List A) → Every P xs → Every Q xs
every_map P Q f [] h = tt
every_map P Q f (x ∷ xs) h = (f x h.0, every_map P Q f xs h.1)

-- ---- words that compare as the same are the same

-- by their bytes
pub compare_same : (xs : List ℕ) → compare xs xs ≡ 1
unfolding compare
compare_same [] = refl
compare_same (x ∷ xs) = rw (le-ltb x x (omega arith)) (compare_same xs)

pub compare-is : (xs ys : List ℕ) → compare xs ys ≡ 1 → xs ≡ ys
unfolding compare
compare-is [] [] h = refl
compare-is [] (y ∷ ys) h = absurd (omega arith)
compare-is (x ∷ xs) [] h = absurd (omega arith)
compare-is (x ∷ xs) (y ∷ ys) h = by (ltb x y) refl (ltb y x) refl (compare-is xs ys) h
  where
    by : (a : Bool) → ltb x y ≡ a → (b : Bool) → ltb y x ≡ b → (compare xs ys ≡ 1 → xs ≡ ys) → pick a 0 (pick b 2 (compare xs ys)) ≡ 1 → x ∷ xs ≡ y ∷ ys
    by true e b f r k = absurd (omega arith)
    by false e true f r k = absurd (omega arith)
    by false e false f r k = let z : x ≡ y = omega (arith, ltb-false x y e, ltb-false y x f) in rw (z, r k)

-- ---- the number of a word

-- the number of a place's word among places is that of the word among their words
pub position-index : (q : Bool) (text : List ℕ) (from : ℕ) (gs : List ℕ) → position q text from gs ≡ index (word_at q text from) (map (word_at q text) gs)
unfolding position index
position-index q text from [] = refl
position-index q text from (g ∷ gs) = rw (position-index q text from gs)

-- a number is at most the length
pub index-le : (w : List ℕ) (ws : List (List ℕ)) → index w ws ≤ length ws
unfolding index
index-le w [] = omega arith
index-le w (v ∷ vs) = by (eqb (compare v w) 1) (index-le w vs)
  where
    by : (b : Bool) → index w vs ≤ length vs → pick b 0 (suc (index w vs)) ≤ suc (length vs)
    by true h = omega arith
    by false h = omega arith

-- words with one number are the same
pub index_word : (v w : List ℕ) (ws : List (List ℕ)) → index v ws ≡ index w ws → index v ws < length ws → v ≡ w
unfolding index
index_word v w [] e h = absurd (omega arith)
index_word v w (u ∷ us) e h = by (eqb (compare u v) 1) refl (eqb (compare u w) 1) refl (index_word v w us) e h
  where
    by : (a : Bool) → eqb (compare u v) 1 ≡ a → (b : Bool) → eqb (compare u w) 1 ≡ b → (index v us ≡ index w us → index v us < length us → v ≡ w)
        → pick a 0 (suc (index v us)) ≡ pick b 0 (suc (index w us)) → pick a 0 (suc (index v us)) < suc (length us) → v ≡ w
    by true f true g r k l = sym (compare-is u v (eqb-true (compare u v) 1 f)) ∙ compare-is u w (eqb-true (compare u w) 1 g)
    by true f false g r k l = absurd (omega arith)
    by false f true g r k l = absurd (omega arith)
    by false f false g r k l = r (omega arith) (omega arith)

-- words behind change no number
pub index-more : (w : List ℕ) (ws vs : List (List ℕ)) → index w ws < length ws → index w (ws ++ vs) ≡ index w ws
unfolding index
index-more w [] vs h = absurd (omega arith)
index-more w (u ∷ us) vs h = by (eqb (compare u w) 1) (index-more w us vs) h
  where
    by : (a : Bool) → (index w us < length us → index w (us ++ vs) ≡ index w us) → pick a 0 (suc (index w us)) < suc (length us)
        → pick a 0 (suc (index w (us ++ vs))) ≡ pick a 0 (suc (index w us))
    by true r l = refl
    by false r l = ap suc (r (omega arith))

-- a word that is put behind has the length for number
pub index-new : (w : List ℕ) (ws : List (List ℕ)) → length ws ≤ index w ws → index w (ws ++ (w ∷ [])) ≡ length ws
unfolding index
index-new w [] h = rw (compare_same w)
index-new w (u ∷ us) h = by (eqb (compare u w) 1) (index-new w us) h
  where
    by : (a : Bool) → (length us ≤ index w us → index w (us ++ (w ∷ [])) ≡ length us) → suc (length us) ≤ pick a 0 (suc (index w us))
        → pick a 0 (suc (index w (us ++ (w ∷ [])))) ≡ suc (length us)
    by true r l = absurd (omega arith)
    by false r l = ap suc (r (omega arith))

-- the words with w have w, under the number that it has
pub with-index : (w : List ℕ) (ws : List (List ℕ)) → index w (with w ws) ≡ index w ws
unfolding with
with-index w ws = by (ltb (index w ws) (length ws)) refl
  where
    by : (a : Bool) → ltb (index w ws) (length ws) ≡ a → index w (pick a ws (ws ++ (w ∷ []))) ≡ index w ws
    by true e = refl
    by false e = let h = ltb-false (index w ws) (length ws) e in let k = index-new w ws h in omega (arith, index-le w ws)

pub with-known : (w : List ℕ) (ws : List (List ℕ)) → index w ws < length (with w ws)
unfolding with
with-known w ws = by (ltb (index w ws) (length ws)) refl
  where
    by : (a : Bool) → ltb (index w ws) (length ws) ≡ a → index w ws < length (pick a ws (ws ++ (w ∷ [])))
    by true e = ltb-true (index w ws) (length ws) e
    by false e = omega (arith, index-le w ws, length-append ws (w ∷ []))

-- what is known keeps its number
pub with-keeps : (v w : List ℕ) (ws : List (List ℕ)) → index v ws < length ws
    → (index v (with w ws) ≡ index v ws) × (index v (with w ws) < length (with w ws))
unfolding with
with-keeps v w ws h = by (ltb (index w ws) (length ws))
  where
    by : (a : Bool) → (index v (pick a ws (ws ++ (w ∷ []))) ≡ index v ws) × (index v (pick a ws (ws ++ (w ∷ []))) < length (pick a ws (ws ++ (w ∷ []))))
    by true = (refl, h)
    by false = let k = index-more v ws (w ∷ []) h in (k, omega (arith, length-append ws (w ∷ [])))

-- ---- which words are defined

-- the numbers of names among some left sides
unfoldable pub of_names : List ℕ → List ℕ
of_names [] = []
of_names (x ∷ xs) = pick (ltb x 128) (x ∷ of_names xs) (of_names xs)

-- one left side more
pub names-snoc : (xs : List ℕ) (x : ℕ) → of_names (xs ++ (x ∷ [])) ≡ of_names xs ++ pick (ltb x 128) (x ∷ []) []
unfolding of_names
names-snoc [] x = by (ltb x 128)
  where
    by : (a : Bool) → pick a (x ∷ []) [] ≡ pick a (x ∷ []) []
    by true = refl
    by false = refl
names-snoc (y ∷ ys) x = by (ltb y 128) (names-snoc ys x)
  where
    by : (a : Bool) → of_names (ys ++ (x ∷ [])) ≡ of_names ys ++ pick (ltb x 128) (x ∷ []) []
        → pick a (y ∷ of_names (ys ++ (x ∷ []))) (of_names (ys ++ (x ∷ []))) ≡ pick a (y ∷ of_names ys) (of_names ys) ++ pick (ltb x 128) (x ∷ []) []
    by true h = ap {B = List ℕ} (λ r. y ∷ r) h
    by false h = h

-- a number below 128 is among the left sides just where it is among the names
pub among-names : (k : ℕ) (xs : List ℕ) → k < 128 → among k xs ≡ among k (of_names xs)
unfolding among of_names
among-names k [] h = refl
among-names k (x ∷ xs) h = by (ltb x 128) refl (among-names k xs h)
  where
    by : (a : Bool) → ltb x 128 ≡ a → among k xs ≡ among k (of_names xs) → (eqb x k || among k xs) ≡ among k (pick a (x ∷ of_names xs) (of_names xs))
    by true e r = rw r
    by false e r = let z = ltb-false x 128 e in rw (ne_eqb x k (λ q. omega arith)) r

-- a known word's number is among those of some known words just when it is one of them
pub among_none : (v : List ℕ) (names ws : List (List ℕ)) → index v names < length names → among (index v names) (map (λ w. index w names) ws) ≡ false
    → NoneOf v ws
unfolding among
among_none v names [] h e = tt
among_none v names (w ∷ ws) h e = by (eqb (index w names) (index v names)) refl (among_none v names ws h) e
  where
    by : (a : Bool) → eqb (index w names) (index v names) ≡ a → (among (index v names) (map (λ w. index w names) ws) ≡ false → NoneOf v ws)
        → (a || among (index v names) (map (λ w. index w names) ws)) ≡ false → ¬ (v ≡ w) × NoneOf v ws
    by true f r k = let z : ◌≡◌ {A = ℕ} 0 1 = cc in absurd (omega arith)
    by false f r k = ((λ q. eqb-false (index w names) (index v names) f (rw q)), r k)

pub among-some : (v : List ℕ) (names ws : List (List ℕ)) → index v names < length names → among (index v names) (map (λ w. index w names) ws) ≡ true
    → ¬ NoneOf v ws
unfolding among
among-some v names [] h e n = let z : ◌≡◌ {A = ℕ} 0 1 = cc in absurd (omega arith)
among-some v names (w ∷ ws) h e n = by (eqb (index w names) (index v names)) refl (among-some v names ws h) e
  where
    by : (a : Bool) → eqb (index w names) (index v names) ≡ a → (among (index v names) (map (λ w. index w names) ws) ≡ true → ¬ NoneOf v ws)
        → (a || among (index v names) (map (λ w. index w names) ws)) ≡ true → ⊥
    by true f r k = n.0 (index_word v w names (sym (eqb-true (index w names) (index v names) f)) h)
    by false f r k = r k n.1

-- ---- different words

-- one word more, different from the others
none-snoc : (x v : List ℕ) (ws : List (List ℕ)) → NoneOf x ws → ¬ (x ≡ v) → NoneOf x (ws ++ (v ∷ []))
none-snoc x v [] h k = (k, tt)
none-snoc x v (w ∷ ws) h k = (h.0, none-snoc x v ws h.1 k)

pub different-snoc : (v : List ℕ) (ws : List (List ℕ)) → Different ws → NoneOf v ws → Different (ws ++ (v ∷ []))
different-snoc v [] h n = (tt, tt)
different-snoc v (w ∷ ws) h n = (none-snoc w v ws h.0 (λ q. n.0 (sym q)), different-snoc v ws h.1 n.1)

none-at : (x v : List ℕ) (ws vs : List (List ℕ)) → NoneOf x (ws ++ v ∷ vs) → ¬ (x ≡ v)
none-at x v [] vs h = h.0
none-at x v (w ∷ ws) vs h = none-at x v ws vs h.1

-- of different words one is none of those before it
pub different-none : (v : List ℕ) (ws vs : List (List ℕ)) → Different (ws ++ v ∷ vs) → NoneOf v ws
different-none v [] vs h = tt
different-none v (w ∷ ws) vs h = ((λ q. none-at w v ws vs h.0 (sym q)), different-none v ws vs h.1)
