-- A name is missing just where one that appears in the text has no rule. Assumes nothing.
use Prim.Native.Nat.{ℕ, zero, suc, ◌+◌, ◌≤◌, ◌<◌}
use native.Mathlib.Omega.{arith}
use mathlib.Core.Path.{◌≡◌, refl, sym, ap, ◌∙◌, subst}
use mathlib.Core.List.{List, [], ◌∷◌, ◌++◌, map, append_assoc}
use mathlib.Core.Bool.{Bool, true, false}
use lib.ListN.{length, get_or, length-append, get_or-append}
use lib.Seq.{get_or-append_seam}
use lib.Dec.{ltb, eqb}
use borrow.Author.Tests.{ltb-true, ltb-false}
use Rattle.cfg.specs.Reading.{pick}
use Rattle.abnf_tables.specs.Run.{on, refused}
use Rattle.abnf_tables.specs.Bytes.{lower}
use Rattle.abnf_tables.specs.Words.{compare}
use Rattle.abnf_tables.specs.Tables.{Tables, among}
use Rattle.abnf.specs.Numbering.{missing}
use Rattle.abnf_grammar.specs.Subset.{Part, named, quoted, optional, Row, last, next, Choice, only, either, Definition, NoneOf}
use Rattle.abnf_grammar.specs.Meaning.{index, with, words_part, words_row, words_choice, words_rule, words, EachOf}
use Rattle.abnf_grammar.proofs.Numbered.{compare_same, index-more, index-new, of_names, among-names, among_none, among-some}

-- ---- words that appear are known, and stand there once

-- a word that stands among some has a number there
index_in : (w : List ℕ) (us vs : List (List ℕ)) → index w (us ++ w ∷ vs) < length (us ++ w ∷ vs)
unfolding index
index_in w [] vs = rw (compare_same w) (omega arith)
index_in w (u ∷ us) vs = by (eqb (compare u w) 1) (index_in w us vs)
  where
    by : (b : Bool) → index w (us ++ w ∷ vs) < length (us ++ w ∷ vs) → pick b 0 (suc (index w (us ++ w ∷ vs))) < suc (length (us ++ w ∷ vs))
    by true h = omega arith
    by false h = omega arith

-- each word has its own place for number
abbrev pub Distinct : List (List ℕ) → Type 0
Distinct ws = (i : ℕ) → i < length ws → index (get_or ws i []) ws ≡ i

-- one word more, where it is new
distinct-with : (w : List ℕ) (ws : List (List ℕ)) → Distinct ws → Distinct (with w ws)
unfolding with
distinct-with w ws d = by (ltb (index w ws) (length ws)) refl
  where
    new : length ws ≤ index w ws → (i : ℕ) → i < length (ws ++ (w ∷ [])) → (b : Bool) → ltb i (length ws) ≡ b
        → index (get_or (ws ++ (w ∷ [])) i []) (ws ++ (w ∷ [])) ≡ i
    new h i k true e =
        let l : i < length ws = ltb-true i (length ws) e in
        rw (get_or-append ws (w ∷ []) [] i l) (index-more (get_or ws i []) ws (w ∷ []) (omega (arith, d i l)) ∙ d i l)
    new h i k false e =
        let l : length ws ≡ i = omega (arith, ltb-false i (length ws) e, length-append ws (w ∷ [])) in
        subst (λ j. index (get_or (ws ++ (w ∷ [])) j []) (ws ++ (w ∷ [])) ≡ j) l (rw (get_or-append_seam ws w [] []) (index-new w ws h))

    by : (b : Bool) → ltb (index w ws) (length ws) ≡ b → Distinct (pick b ws (ws ++ (w ∷ [])))
    by true e = d
    by false e = λ i k. new (ltb-false (index w ws) (length ws) e) i k (ltb i (length ws)) refl

mutual
  unfolding words_part

  -- the names of a text are distinct
  part-distinct : (p : Part) (ws : List (List ℕ)) → Distinct ws → Distinct (words_part p false ws)
  part-distinct (named w) ws d = distinct-with (map lower w) ws d
  part-distinct (quoted w) ws d = d
  part-distinct (optional c) ws d = choice-distinct c ws d

  row-distinct : (r : Row) (ws : List (List ℕ)) → Distinct ws → Distinct (words_row r false ws)
  row-distinct (last p) ws d = part-distinct p ws d
  row-distinct (next p r) ws d = row-distinct r (words_part p false ws) (part-distinct p ws d)

  choice-distinct : (c : Choice) (ws : List (List ℕ)) → Distinct ws → Distinct (words_choice c false ws)
  choice-distinct (only r) ws d = row-distinct r ws d
  choice-distinct (either r c) ws d = choice-distinct c (words_row r false ws) (row-distinct r ws d)

pub rules-distinct : (ds : List Definition) (ws : List (List ℕ)) → Distinct ws → Distinct (words ds false ws)
unfolding words words_rule
rules-distinct [] ws d = d
rules-distinct (e ∷ ds) ws d =
    rules-distinct ds (words_rule e false ws) (choice-distinct e.choice (with (map lower e.name) ws) (distinct-with (map lower e.name) ws d))

-- ---- the first name that is missing

-- nothing is missing: every number has a rule
missing-none : (lefts : List ℕ) (k : ℕ) (names : List ℕ) (t u : Tables) → missing lefts k names (on t) ≡ on u → (i : ℕ) → i < length names
    → among (k + i) lefts ≡ true
unfolding missing
missing-none lefts k [] t u e i h = absurd (omega arith)
missing-none lefts k (from ∷ names) t u e i h = by (among k lefts) refl (missing-none lefts (k + 1) names t u) e i h
  where
    by : (b : Bool) → among k lefts ≡ b → (missing lefts (k + 1) names (on t) ≡ on u → (j : ℕ) → j < length names → among (k + 1 + j) lefts ≡ true)
        → pick b (missing lefts (k + 1) names (on t)) (refused 19 from) ≡ on u → (j : ℕ) → j < suc (length names) → among (k + j) lefts ≡ true
    by true f r g zero l = let s : k + 0 ≡ k = omega arith in rw s f
    by true f r g (suc j) l = let s : k + suc j ≡ k + 1 + j = omega arith in rw s (r g j (omega arith))
    by false f r g j l = let z : ◌≡◌ {A = ℕ} 0 1 = cc in absurd (omega arith)

-- something is missing: some number has none
missing-some : (lefts : List ℕ) (k : ℕ) (names : List ℕ) (t : Tables) (n p : ℕ) → missing lefts k names (on t) ≡ refused n p
    → (i : ℕ) × (i < length names) × (among (k + i) lefts ≡ false)
unfolding missing
missing-some lefts k [] t n p e = let z : ◌≡◌ {A = ℕ} 0 1 = cc in absurd (omega arith)
missing-some lefts k (from ∷ names) t n p e = by (among k lefts) refl (missing-some lefts (k + 1) names t n p) e
  where
    by : (b : Bool) → among k lefts ≡ b
        → (missing lefts (k + 1) names (on t) ≡ refused n p → (i : ℕ) × (i < length names) × (among (k + 1 + i) lefts ≡ false))
        → pick b (missing lefts (k + 1) names (on t)) (refused 19 from) ≡ refused n p → (i : ℕ) × (i < suc (length names)) × (among (k + i) lefts ≡ false)
    by true f r g =
        let w = r g in
        let s : k + suc w.0 ≡ k + 1 + w.0 = omega arith in
        (suc w.0, omega (arith, w.1), rw s w.2)
    by false f r g = let s : k + 0 ≡ k = omega arith in (0, omega arith, rw s f)

-- ---- by the names' words, of which those in `vs` have rules

module _ (lefts : List ℕ) (ns vs : List (List ℕ)) (few : length ns ≤ 128) (ruled : of_names lefts ≡ map (λ w. index w ns) vs) where
  among-words : (w : List ℕ) → index w ns < length ns → among (index w ns) lefts ≡ among (index w ns) (map (λ v. index v ns) vs)
  among-words w h = among-names (index w ns) lefts (omega (arith, few)) ∙ ap (among (index w ns)) ruled

  -- every number has a rule, so every word has
  each_of : (us ws : List (List ℕ)) → ns ≡ us ++ ws → ((i : ℕ) → i < length ns → among i lefts ≡ true) → EachOf ws vs
  each_of us [] e h = tt
  each_of us (w ∷ ws) e h =
      let k : index w ns < length ns = subst (λ x. index w x < length x) (sym e) (index_in w us ws) in (
        among-some w ns vs k (sym (among-words w k) ∙ h (index w ns) k),
        each_of (us ++ (w ∷ [])) ws (e ∙ sym (append_assoc us (w ∷ []) ws)) h,
      )

  -- and so the word of each number
  one_of : (ws : List (List ℕ)) (i : ℕ) → EachOf ws vs → i < length ws → ¬ NoneOf (get_or ws i []) vs
  one_of [] i h k = absurd (omega arith)
  one_of (w ∷ ws) zero h k = h.0
  one_of (w ∷ ws) (suc i) h k = one_of ws i h.1 (omega arith)

  -- no name is missing: each has a rule
  pub all-defined : (names : List ℕ) (t u : Tables) → length names ≡ length ns → missing lefts 0 names (on t) ≡ on u → EachOf ns vs
  all-defined names t u e f =
      each_of [] ns refl (λ i h. let s : 0 + i ≡ i = omega arith in rw s at (missing-none lefts 0 names t u f i (omega arith)))

  -- a name is missing: not each has a rule
  pub some-undefined : (names : List ℕ) (t : Tables) (n p : ℕ) → length names ≡ length ns → Distinct ns → missing lefts 0 names (on t) ≡ refused n p
      → ¬ EachOf ns vs
  some-undefined names t n p e d f h =
      let w = missing-some lefts 0 names t n p f in
      let s : 0 + w.0 ≡ w.0 = omega arith in
      let k : w.0 < length ns = omega (arith, w.1) in
      let v = get_or ns w.0 [] in
      let i : index v ns ≡ w.0 = d w.0 k in
      let l : index v ns < length ns = omega arith in
      let a : among (index v ns) lefts ≡ false = ap (λ x. among x lefts) (i ∙ sym s) ∙ w.2 in
      one_of ns w.0 h k (among_none v ns vs l (sym (among-words v l) ∙ a))
