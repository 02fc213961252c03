-- The productions of the blocks of items are those that the definitions mean. Assumes nothing.
use Prim.Native.Nat.{ℕ, suc, ◌+◌, ◌*◌, ◌/◌, ◌%◌, ◌≤◌, ◌<◌}
use native.Mathlib.Omega.{arith}
use mathlib.Core.Path.{◌≡◌, refl, sym, ap, ap₂, ◌∙◌}
use mathlib.Core.List.{List, [], ◌∷◌, ◌++◌, map, append_assoc, append-nil}
use mathlib.Core.Bool.{Bool, true, false}
use lib.ListN.{length, get_or, length-map, get_or-map}
use lib.Dec.{eqb}
use borrow.Author.Tests.{lt-ltb, le-ltb, le-leb, lt-leb, eqb-true, eq-eqb, ne_eqb}
use Rattle.cfg.specs.Reading.{pick}
use Rattle.cfg.specs.Grammar.{Sym, nonterminal, terminal, Production}
use Rattle.abnf_tables.specs.Bytes.{lower}
use Rattle.abnf_tables.specs.Words.{word_at, compare, rank}
use Rattle.abnf_tables.specs.Tables.{item, left_of, code_of}
use Rattle.abnf.specs.Numbering as Num
use Rattle.abnf.specs.Numbering.{number_of, symbol_of, production_of, productions_of, productions_from}
use Rattle.abnf_grammar.specs.Subset.{Part, named, quoted, optional, Row, last, next, Choice, only, either, Definition}
use Rattle.abnf_grammar.specs.Meaning.{index, with, words_part, words_row, words_choice, words_rule, words, options_part, options_row, options_choice, options, before, symbol, right_side, alternatives, inside_part, inside_row, inside_choice, productions}
use Rattle.abnf_grammar.proofs.Numbered.{Every, every_map, index-le, compare-is}
use Rattle.abnf_grammar.proofs.Blocks.{Grows, grows_then, grown, row-grows, choice-grows, rules-grow, code, items_part, items_row, items_choice, items_rules, lefts_part, lefts_row, lefts_choice, lefts_rules}

-- of two lists
every_append : {A : Type 0} (P : A → Type 0) (xs ys : List A) → Every P xs → Every P ys → Every P (xs ++ ys)
every_append P [] ys h k = k
every_append P (x ∷ xs) ys h k = (h.0, every_append P xs ys h.1 k)

-- ---- words by their rank

-- a rank by places is a rank by words
rank-before : (text : List ℕ) (from : ℕ) (gs : List ℕ) → rank text from gs ≡ before (word_at false text from) (map (word_at false text) gs)
unfolding rank before
rank-before text from [] = refl
rank-before text from (g ∷ gs) = rw (rank-before text from gs)

-- at the number of a known word stands that word
index_at : (w d : List ℕ) (ws : List (List ℕ)) → index w ws < length ws → get_or ws (index w ws) d ≡ w
unfolding index
index_at w d [] h = absurd (omega arith)
index_at w d (v ∷ vs) h = by (eqb (compare v w) 1) refl (index_at w d vs) h
  where
    by : (b : Bool) → eqb (compare v w) 1 ≡ b → (index w vs < length vs → get_or vs (index w vs) d ≡ w) → pick b 0 (suc (index w vs)) < suc (length vs)
        → get_or (v ∷ vs) (pick b 0 (suc (index w vs))) d ≡ w
    by true e r k = compare-is v w (eqb-true (compare v w) 1 e)
    by false e r k = r (omega arith)

-- ---- items of other left sides

-- no item is of left side j
abbrev NoLeft : ℕ → List ℕ → Type 0
NoLeft j is = Every (λ i. ¬ (left_of i ≡ j)) is

module _ (text places : List ℕ) where
  right-skip : (j : ℕ) (xs ys : List ℕ) → NoLeft j xs → Num.right text places j (xs ++ ys) ≡ Num.right text places j ys
  unfolding Num.right
  right-skip j [] ys h = refl
  right-skip j (x ∷ xs) ys h = rw (ne_eqb (left_of x) j h.0) (right-skip j xs ys h.1)

  alts-skip : (j a : ℕ) (xs ys : List ℕ) → NoLeft j xs → Num.alternatives text places j a (xs ++ ys) ≡ Num.alternatives text places j a ys
  unfolding Num.alternatives
  alts-skip j a [] ys h = refl
  alts-skip j a (x ∷ xs) ys h = rw (ne_eqb (left_of x) j h.0) (alts-skip j a xs ys h.1)

  -- without items of j there is nothing of j
  right-none : (j : ℕ) (ys : List ℕ) → NoLeft j ys → Num.right text places j ys ≡ []
  unfolding Num.right
  right-none j [] h = refl
  right-none j (y ∷ ys) h = rw (ne_eqb (left_of y) j h.0) (right-none j ys h.1)

  alts-none : (j a : ℕ) (ys : List ℕ) → NoLeft j ys → Num.alternatives text places j a ys ≡ []
  unfolding Num.alternatives
  alts-none j a [] h = refl
  alts-none j a (y ∷ ys) h = rw (ne_eqb (left_of y) j h.0) (alts-none j a ys h.1)

  -- items of others behind change nothing
  right_end : (j : ℕ) (xs ys : List ℕ) → NoLeft j ys → Num.right text places j (xs ++ ys) ≡ Num.right text places j xs
  unfolding Num.right
  right_end j [] ys h = right-none j ys h
  right_end j (x ∷ xs) ys h = rw (right_end j xs ys h)

  alts-end : (j a : ℕ) (xs ys : List ℕ) → NoLeft j ys → Num.alternatives text places j a (xs ++ ys) ≡ Num.alternatives text places j a xs
  unfolding Num.alternatives
  alts-end j a [] ys h = alts-none j a ys h
  alts-end j a (x ∷ xs) ys h = rw (right_end j xs ys h, alts-end j a xs ys h)

-- an item of left side l, or of one from f to e
data Lies (l f e i : ℕ) : Type 0 where
  own : left_of i ≡ l → Lies l f e i
  inner : f ≤ left_of i → left_of i < e → Lies l f e i

-- a wider range, and the range of the left side in which a group stands
lies-wider : (l f e f' e' i : ℕ) → f' ≤ f → e ≤ e' → Lies l f e i → Lies l f' e' i
lies-wider l f e f' e' i h k (own q) = own q
lies-wider l f e f' e' i h k (inner a b) = inner (omega arith) (omega arith)

lies-group : (l f e i : ℕ) → f < e → Lies f (f + 1) e i → Lies l f e i
lies-group l f e i h (own q) = inner (omega arith) (omega arith)
lies-group l f e i h (inner a b) = inner (omega arith) b

-- left sides outside the range have no items there
lies-below : (l f e j : ℕ) (is : List ℕ) → ¬ (j ≡ l) → j < f → Every (Lies l f e) is → NoLeft j is
lies-below l f e j is h k w = every_map (Lies l f e) (λ i. ¬ (left_of i ≡ j)) (λ i v. other i v) is w
  where
    other : (i : ℕ) → Lies l f e i → ¬ (left_of i ≡ j)
    other i (own q) z = h (sym z ∙ q)
    other i (inner a b) z = omega arith

lies-above : (l f e j : ℕ) (is : List ℕ) → ¬ (j ≡ l) → e ≤ j → Every (Lies l f e) is → NoLeft j is
lies-above l f e j is h k w = every_map (Lies l f e) (λ i. ¬ (left_of i ≡ j)) (λ i v. other i v) is w
  where
    other : (i : ℕ) → Lies l f e i → ¬ (left_of i ≡ j)
    other i (own q) z = h (sym z ∙ q)
    other i (inner a b) z = omega arith

-- an item gives back its left side and its code
left_is : (l c : ℕ) → c < 65536 → left_of (item l c) ≡ l
left_is l c h = omega arith

code_is : (l c : ℕ) → c < 65536 → code_of (item l c) ≡ c
code_is l c h = omega arith

-- ---- the blocks, where names, groups and literals keep the limits

module _ (ns ls : List (List ℕ)) (few : length ns ≤ 128) (short : length ls ≤ 4089) where
  code-small : (p : Part) (g : ℕ) → g ≤ 128 → code ns ls p g < 65536
  unfolding code
  code-small (named w) g h = omega (arith, few, index-le (map lower w) ns)
  code-small (quoted w) g h = omega (arith, short, index-le (map lower w) ls)
  code-small (optional c) g h = omega arith

  code-symbol : (p : Part) (g : ℕ) → ¬ (code ns ls p g ≡ 1)
  unfolding code
  code-symbol (named w) g e = omega arith
  code-symbol (quoted w) g e = omega arith
  code-symbol (optional c) g e = omega arith

  -- every name of the part is one of the names
  abbrev mutual
    KnownPart : Part → Type 0
    KnownPart (named w) = index (map lower w) ns < length ns
    KnownPart (quoted w) = Unit {0}
    KnownPart (optional c) = KnownChoice c

    KnownRow : Row → Type 0
    KnownRow (last p) = KnownPart p
    KnownRow (next p r) = KnownPart p × KnownRow r

    KnownChoice : Choice → Type 0
    KnownChoice (only r) = KnownRow r
    KnownChoice (either r c) = KnownRow r × KnownChoice c

  mutual
    unfolding items_part options_part

    -- where the items of each block lie
    part_lies : (p : Part) (l f g e : ℕ) → g + options_part p ≤ 128 → f + options_part p ≤ e → Every (Lies l f e) (items_part ns ls p l f g)
    part_lies (named w) l f g e h k = (own (left_is l (code ns ls (named w) g) (code-small (named w) g (omega arith))), tt)
    part_lies (quoted w) l f g e h k = (own (left_is l (code ns ls (quoted w) g) (code-small (quoted w) g (omega arith))), tt)
    part_lies (optional c) l f g e h k = (
      own (left_is l (code ns ls (optional c) g) (code-small (optional c) g (omega arith))),
      every_map (Lies f (f + 1) e) (Lies l f e) (λ i. lies-group l f e i (omega arith)) (items_choice ns ls c f (f + 1) (g + 1))
          (choice-lies c f (f + 1) (g + 1) e (omega arith) (omega arith)),
    )

    row_lies : (r : Row) (l f g e : ℕ) → g + options_row r ≤ 128 → f + options_row r ≤ e → Every (Lies l f e) (items_row ns ls r l f g)
    row_lies (last p) l f g e h k = part_lies p l f g e h k
    row_lies (next p r) l f g e h k =
        every_append (Lies l f e) (items_part ns ls p l f g) (items_row ns ls r l (f + options_part p) (g + options_part p))
        (part_lies p l f g e (omega arith) (omega arith))
        (every_map (Lies l (f + options_part p) e) (Lies l f e) (λ i. lies-wider l (f + options_part p) e f e i (omega arith) (omega arith))
        (items_row ns ls r l (f + options_part p) (g + options_part p))
        (row_lies r l (f + options_part p) (g + options_part p) e (omega arith) (omega arith)))

    choice-lies : (c : Choice) (l f g e : ℕ) → g + options_choice c ≤ 128 → f + options_choice c ≤ e → Every (Lies l f e) (items_choice ns ls c l f g)
    choice-lies (only r) l f g e h k = (own (left_is l 1 (omega arith)), row_lies r l f g e h k)
    choice-lies (either r c) l f g e h k = (
      own (left_is l 1 (omega arith)),
      every_append (Lies l f e) (items_row ns ls r l f g) (items_choice ns ls c l (f + options_row r) (g + options_row r))
          (row_lies r l f g e (omega arith) (omega arith))
          (every_map (Lies l (f + options_row r) e) (Lies l f e) (λ i. lies-wider l (f + options_row r) e f e i (omega arith) (omega arith))
          (items_choice ns ls c l (f + options_row r) (g + options_row r))
          (choice-lies c l (f + options_row r) (g + options_row r) e (omega arith) (omega arith))),
    )

  module _ (text places : List ℕ) (same : map (word_at false text) places ≡ ns) where
    -- ---- numbers and symbols

    -- a name is numbered by its rank, a group behind the names
    name-number : (w : List ℕ) → index w ns < length ns → number_of text places (index w ns) ≡ before w ns
    unfolding number_of
    name-number w h =
        let e : word_at false text (get_or places (index w ns) 0) ≡ w =
        sym (get_or-map (word_at false text) places (index w ns) 0) ∙ ap (λ x. get_or x (index w ns) (word_at false text 0)) same ∙ index_at w
        (word_at false text 0) ns h in
        rw (lt-ltb (index w ns) 128 (omega (arith, few))) (rank-before text (get_or places (index w ns) 0) places ∙ ap₂ before e same)

    group-number : (g : ℕ) → number_of text places (128 + g) ≡ length ns + g
    unfolding number_of
    group-number g =
        let e : length places ≡ length ns = sym (length-map places (word_at false text)) ∙ ap length same in
        rw (le-ltb (128 + g) 128 (omega arith)) (omega arith)

    -- a code stands for the symbol that is meant
    symbol-is : (p : Part) (g : ℕ) → KnownPart p → symbol_of text places (code ns ls p g) ≡ symbol ns ls p g
    unfolding symbol_of symbol code
    symbol-is (named w) g h =
        let k = index (map lower w) ns in
        let e : 2 * k % 2 ≡ 0 = omega arith in
        let f : 2 * k / 2 ≡ k = omega arith in
        rw (eq-eqb (2 * k % 2) 0 e, f) (ap nonterminal (name-number (map lower w) h))
    symbol-is (quoted w) g h =
        let k = index (map lower w) ls in
        let e : (2 * (k + 5) + 1) % 2 ≡ 1 = omega arith in
        let f : (2 * (k + 5) + 1) / 2 ≡ k + 5 = omega arith in
        rw (ne_eqb ((2 * (k + 5) + 1) % 2) 0 (λ z. omega arith)) (ap terminal f)
    symbol-is (optional c) g h =
        let e : 2 * (128 + g) % 2 ≡ 0 = omega arith in
        let f : 2 * (128 + g) / 2 ≡ 128 + g = omega arith in
        rw (eq-eqb (2 * (128 + g) % 2) 0 e, f) (ap nonterminal (group-number g))

    -- ---- right sides

    -- an item of left side l is a symbol of its right side, and no mark
    right-item : (p : Part) (l g : ℕ) (ys : List ℕ) → g ≤ 128 → KnownPart p
        → Num.right text places l (item l (code ns ls p g) ∷ ys) ≡ symbol ns ls p g ∷ Num.right text places l ys
    unfolding Num.right
    right-item p l g ys h k =
        let s : code ns ls p g < 65536 = code-small p g h in
        rw (
          eq-eqb (left_of (item l (code ns ls p g))) l (left_is l (code ns ls p g) s),
          code_is l (code ns ls p g) s,
          ne_eqb (code ns ls p g) 1 (code-symbol p g),
          symbol-is p g k,
        )

    alts-item : (p : Part) (l a g : ℕ) (ys : List ℕ) → g ≤ 128
        → Num.alternatives text places l a (item l (code ns ls p g) ∷ ys) ≡ Num.alternatives text places l a ys
    unfolding Num.alternatives
    alts-item p l a g ys h =
        let s : code ns ls p g < 65536 = code-small p g h in
        rw (
          eq-eqb (left_of (item l (code ns ls p g))) l (left_is l (code ns ls p g) s),
          code_is l (code ns ls p g) s,
          ne_eqb (code ns ls p g) 1 (code-symbol p g),
        )

    -- what stands in an option is none of its own left side
    inner-none : (c : Choice) (l f g : ℕ) → l < f → g + options_choice c ≤ 128 → NoLeft l (items_choice ns ls c f (f + 1) g)
    inner-none c l f g h k =
        lies-below f (f + 1) (f + 1 + options_choice c) l (items_choice ns ls c f (f + 1) g) (λ z. omega arith) (omega arith)
        (choice-lies c f (f + 1) g (f + 1 + options_choice c) k (omega arith))

    -- a part is one symbol of its right side, and begins no alternative
    part_right : (p : Part) (l f g : ℕ) (ys : List ℕ) → l < f → g + options_part p ≤ 128 → KnownPart p
        → Num.right text places l (items_part ns ls p l f g ++ ys) ≡ symbol ns ls p g ∷ Num.right text places l ys
    unfolding items_part options_part
    part_right (named w) l f g ys h k n = right-item (named w) l g ys (omega arith) n
    part_right (quoted w) l f g ys h k n = right-item (quoted w) l g ys (omega arith) n
    part_right (optional c) l f g ys h k n =
        right-item (optional c) l g (items_choice ns ls c f (f + 1) (g + 1) ++ ys) (omega arith) n
        ∙ ap {B = List Sym} (λ x. symbol ns ls (optional c) g ∷ x)
        (right-skip text places l (items_choice ns ls c f (f + 1) (g + 1)) ys (inner-none c l f (g + 1) h (omega arith)))

    part-alts : (p : Part) (l a f g : ℕ) (ys : List ℕ) → l < f → g + options_part p ≤ 128
        → Num.alternatives text places l a (items_part ns ls p l f g ++ ys) ≡ Num.alternatives text places l a ys
    unfolding items_part options_part
    part-alts (named w) l a f g ys h k = alts-item (named w) l a g ys (omega arith)
    part-alts (quoted w) l a f g ys h k = alts-item (quoted w) l a g ys (omega arith)
    part-alts (optional c) l a f g ys h k =
        alts-item (optional c) l a g (items_choice ns ls c f (f + 1) (g + 1) ++ ys) (omega arith)
        ∙ alts-skip text places l a (items_choice ns ls c f (f + 1) (g + 1)) ys (inner-none c l f (g + 1) h (omega arith))

    -- a row is a right side, and begins no alternative
    row-right : (r : Row) (l f g : ℕ) (ys : List ℕ) → l < f → g + options_row r ≤ 128 → KnownRow r
        → Num.right text places l (items_row ns ls r l f g ++ ys) ≡ right_side ns ls r g ++ Num.right text places l ys
    unfolding items_part options_part right_side
    row-right (last p) l f g ys h k n = part_right p l f g ys h k n
    row-right (next p r) l f g ys h k n =
        ap (Num.right text places l) (append_assoc (items_part ns ls p l f g) (items_row ns ls r l (f + options_part p) (g + options_part p)) ys)
        ∙ part_right p l f g (items_row ns ls r l (f + options_part p) (g + options_part p) ++ ys) h (omega arith) n.0
        ∙ ap {B = List Sym} (λ x. symbol ns ls p g ∷ x) (row-right r l (f + options_part p) (g + options_part p) ys (omega arith) (omega arith) n.1)

    row-alts : (r : Row) (l a f g : ℕ) (ys : List ℕ) → l < f → g + options_row r ≤ 128
        → Num.alternatives text places l a (items_row ns ls r l f g ++ ys) ≡ Num.alternatives text places l a ys
    unfolding items_part options_part
    row-alts (last p) l a f g ys h k = part-alts p l a f g ys h k
    row-alts (next p r) l a f g ys h k =
        ap (Num.alternatives text places l a) (append_assoc (items_part ns ls p l f g) (items_row ns ls r l (f + options_part p) (g + options_part p)) ys)
        ∙ part-alts p l a f g (items_row ns ls r l (f + options_part p) (g + options_part p) ++ ys) h (omega arith)
        ∙ row-alts r l a (f + options_part p) (g + options_part p) ys (omega arith) (omega arith)

    -- a mark ends a right side, and begins one
    right-mark : (l : ℕ) (ys : List ℕ) → Num.right text places l (item l 1 ∷ ys) ≡ []
    unfolding Num.right
    right-mark l ys = rw (eq-eqb (left_of (item l 1)) l (left_is l 1 (omega arith)), eq-eqb (code_of (item l 1)) 1 (code_is l 1 (omega arith)))

    alts-mark : (l a : ℕ) (ys : List ℕ)
        → Num.alternatives text places l a (item l 1 ∷ ys) ≡ production_of a (Num.right text places l ys) ∷ Num.alternatives text places l a ys
    unfolding Num.alternatives
    alts-mark l a ys = rw (eq-eqb (left_of (item l 1)) l (left_is l 1 (omega arith)), eq-eqb (code_of (item l 1)) 1 (code_is l 1 (omega arith)))

    -- alternatives begin with a mark
    choice-right : (c : Choice) (l f g : ℕ) (ys : List ℕ) → Num.right text places l (items_choice ns ls c l f g ++ ys) ≡ []
    unfolding items_part
    choice-right (only r) l f g ys = right-mark l (items_row ns ls r l f g ++ ys)
    choice-right (either r c) l f g ys = right-mark l ((items_row ns ls r l f g ++ items_choice ns ls c l (f + options_row r) (g + options_row r)) ++ ys)

    -- alternatives are productions, one for each
    choice-alts : (c : Choice) (l a f g : ℕ) (ys : List ℕ) → l < f → g + options_choice c ≤ 128 → KnownChoice c → NoLeft l ys
        → Num.alternatives text places l a (items_choice ns ls c l f g ++ ys) ≡ alternatives ns ls c a g
    unfolding items_part options_part alternatives
    choice-alts (only r) l a f g ys h k n y =
        alts-mark l a (items_row ns ls r l f g ++ ys)
        ∙ ap₂ {C = List Production} (λ u v. production_of a u ∷ v)
        (row-right r l f g ys h k n ∙ ap (λ x. right_side ns ls r g ++ x) (right-none text places l ys y) ∙ append-nil (right_side ns ls r g))
        (row-alts r l a f g ys h k ∙ alts-none text places l a ys y)
    choice-alts (either r c) l a f g ys h k n y =
        let b = items_choice ns ls c l (f + options_row r) (g + options_row r) in
        alts-mark l a ((items_row ns ls r l f g ++ b) ++ ys)
        ∙ ap₂ {C = List Production} (λ u v. production_of a u ∷ v)
        (ap (Num.right text places l) (append_assoc (items_row ns ls r l f g) b ys) ∙ row-right r l f g (b ++ ys) h (omega arith) n.0
        ∙ ap (λ x. right_side ns ls r g ++ x) (choice-right c l (f + options_row r) (g + options_row r) ys) ∙ append-nil (right_side ns ls r g))
        (ap (Num.alternatives text places l a) (append_assoc (items_row ns ls r l f g) b ys) ∙ row-alts r l a f g (b ++ ys) h (omega arith)
        ∙ choice-alts c l a (f + options_row r) (g + options_row r) ys (omega arith) (omega arith) n.1 y)

    -- ---- the productions of the groups

    -- of the left sides from f to e all items have what the block has
    abbrev Covers : List ℕ → List ℕ → ℕ → ℕ → Type 0
    Covers items block f e = (j a : ℕ) → f ≤ j → j < e → Num.alternatives text places j a items ≡ Num.alternatives text places j a block

    -- of two blocks, each covers its own left sides
    covers-first : (items xs ys : List ℕ) (f e : ℕ) → ((j : ℕ) → f ≤ j → j < e → NoLeft j ys) → Covers items (xs ++ ys) f e → Covers items xs f e
    covers-first items xs ys f e h w j a k l = w j a k l ∙ alts-end text places j a xs ys (h j k l)

    covers-second : (items xs ys : List ℕ) (f e : ℕ) → ((j : ℕ) → f ≤ j → j < e → NoLeft j xs) → Covers items (xs ++ ys) f e → Covers items ys f e
    covers-second items xs ys f e h w j a k l = w j a k l ∙ alts-skip text places j a xs ys (h j k l)

    covers-narrow : (items xs : List ℕ) (f e f' e' : ℕ) → f ≤ f' → e' ≤ e → Covers items xs f e → Covers items xs f' e'
    covers-narrow items xs f e f' e' h k w j a m n = w j a (omega arith) (omega arith)

    from : List ℕ → ℕ → List ℕ → List Production
    from items k xs = productions_from text places items k xs

    -- those of a group: its alternatives and its empty production
    group-from : (c : Choice) (l f g : ℕ) (items : List ℕ) → l < f → g + 1 + options_choice c ≤ 128 → KnownChoice c
        → Covers items (item l (code ns ls (optional c) g) ∷ items_choice ns ls c f (f + 1) (g + 1)) f (f + 1)
        → productions_of text places items f (128 + g) ≡ alternatives ns ls c (length ns + g) (g + 1) ++ (production_of (length ns + g) [] ∷ [])
    group-from c l f g items h k n w =
        let head : NoLeft f (item l (code ns ls (optional c) g) ∷ []) =
        ((λ z. let y = left_is l (code ns ls (optional c) g) (code-small (optional c) g (omega arith)) in omega arith), tt) in
        let e : Num.alternatives text places f (length ns + g) items ≡ alternatives ns ls c (length ns + g) (g + 1) =
        w f (length ns + g) (omega arith) (omega arith) ∙ alts-skip text places f (length ns + g) (item l (code ns ls (optional c) g) ∷ [])
        (items_choice ns ls c f (f + 1) (g + 1)) head
        ∙ ap (Num.alternatives text places f (length ns + g)) (sym (append-nil (items_choice ns ls c f (f + 1) (g + 1))))
        ∙ choice-alts c f (length ns + g) (f + 1) (g + 1) [] (omega arith) k n tt in
        rw (group-number g, e, le-leb 128 (128 + g) (omega arith))

    mutual
      unfolding items_part lefts_part options_part inside_part productions_from from

      -- the groups in each block have the productions that are meant
      part-from : (p : Part) (l f g : ℕ) (items xs : List ℕ) → l < f → g + options_part p ≤ 128 → KnownPart p
          → Covers items (items_part ns ls p l f g) f (f + options_part p)
          → from items f (lefts_part p g ++ xs) ≡ inside_part ns ls p g ++ from items (f + options_part p) xs
      part-from (named w) l f g items xs h k n v = let e : f + 0 ≡ f = omega arith in rw e
      part-from (quoted w) l f g items xs h k n v = let e : f + 0 ≡ f = omega arith in rw e
      part-from (optional c) l f g items xs h k n v =
          let a = alternatives ns ls c (length ns + g) (g + 1) ++ (production_of (length ns + g) [] ∷ []) in
          let e : f + 1 + options_choice c ≡ f + suc (options_choice c) = omega arith in
          let head : (j : ℕ) → f + 1 ≤ j → j < f + 1 + options_choice c → NoLeft j (item l (code ns ls (optional c) g) ∷ []) =
          λ j o q. ((λ z. let y = left_is l (code ns ls (optional c) g) (code-small (optional c) g (omega arith)) in omega arith), tt) in
          ap₂ ◌++◌ (group-from c l f g items h (omega arith) n
          (covers-narrow items (items_part ns ls (optional c) l f g) f (f + suc (options_choice c)) f (f + 1) (omega arith) (omega arith) v))
          (choice-from c f (f + 1) (g + 1) items xs (omega arith) (omega arith) n
          (covers-second items (item l (code ns ls (optional c) g) ∷ []) (items_choice ns ls c f (f + 1) (g + 1)) (f + 1) (f + 1 + options_choice c) head
          (covers-narrow items (items_part ns ls (optional c) l f g) f (f + suc (options_choice c)) (f + 1) (f + 1 + options_choice c) (omega arith)
          (omega arith) v)))
          ∙ sym (append_assoc a (inside_choice ns ls c (g + 1)) (from items (f + 1 + options_choice c) xs)) ∙ rw e

      row_from : (r : Row) (l f g : ℕ) (items xs : List ℕ) → l < f → g + options_row r ≤ 128 → KnownRow r
          → Covers items (items_row ns ls r l f g) f (f + options_row r)
          → from items f (lefts_row r g ++ xs) ≡ inside_row ns ls r g ++ from items (f + options_row r) xs
      row_from (last p) l f g items xs h k n v = part-from p l f g items xs h k n v
      row_from (next p r) l f g items xs h k n v =
          let o = options_part p in
          let u = options_row r in
          let x = items_part ns ls p l f g in
          let y = items_row ns ls r l (f + o) (g + o) in
          let e : f + o + u ≡ f + (o + u) = omega arith in
          ap (from items f) (append_assoc (lefts_part p g) (lefts_row r (g + o)) xs)
          ∙ part-from p l f g items (lefts_row r (g + o) ++ xs) h (omega arith) n.0
          (covers-first items x y f (f + o) (λ j m q. lies-below l (f + o) (f + o + u) j y (λ z. omega arith) q
          (row_lies r l (f + o) (g + o) (f + o + u) (omega arith) (omega arith)))
          (covers-narrow items (x ++ y) f (f + (o + u)) f (f + o) (omega arith) (omega arith) v))
          ∙ ap (λ z. inside_part ns ls p g ++ z) (row_from r l (f + o) (g + o) items xs (omega arith) (omega arith) n.1
          (covers-second items x y (f + o) (f + o + u) (λ j m q. lies-above l f (f + o) j x (λ z. omega arith) m
          (part_lies p l f g (f + o) (omega arith) (omega arith)))
          (covers-narrow items (x ++ y) f (f + (o + u)) (f + o) (f + o + u) (omega arith) (omega arith) v)))
          ∙ sym (append_assoc (inside_part ns ls p g) (inside_row ns ls r (g + o)) (from items (f + o + u) xs)) ∙ rw e

      choice-from : (c : Choice) (l f g : ℕ) (items xs : List ℕ) → l < f → g + options_choice c ≤ 128 → KnownChoice c
          → Covers items (items_choice ns ls c l f g) f (f + options_choice c)
          → from items f (lefts_choice c g ++ xs) ≡ inside_choice ns ls c g ++ from items (f + options_choice c) xs
      choice-from (only r) l f g items xs h k n v =
          row_from r l f g items xs h k n
          (covers-second items (item l 1 ∷ []) (items_row ns ls r l f g) f (f + options_row r)
          (λ j m q. ((λ z. let y = left_is l 1 (omega arith) in omega arith), tt)) v)
      choice-from (either r c) l f g items xs h k n v =
          let o = options_row r in
          let u = options_choice c in
          let x = items_row ns ls r l f g in
          let y = items_choice ns ls c l (f + o) (g + o) in
          let e : f + o + u ≡ f + (o + u) = omega arith in
          let w : Covers items (x ++ y) f (f + (o + u)) =
          covers-second items (item l 1 ∷ []) (x ++ y) f (f + (o + u)) (λ j m q. ((λ z. let y = left_is l 1 (omega arith) in omega arith), tt)) v in
          ap (from items f) (append_assoc (lefts_row r g) (lefts_choice c (g + o)) xs)
          ∙ row_from r l f g items (lefts_choice c (g + o) ++ xs) h (omega arith) n.0
          (covers-first items x y f (f + o) (λ j m q. lies-below l (f + o) (f + o + u) j y (λ z. omega arith) q
          (choice-lies c l (f + o) (g + o) (f + o + u) (omega arith) (omega arith)))
          (covers-narrow items (x ++ y) f (f + (o + u)) f (f + o) (omega arith) (omega arith) w))
          ∙ ap (λ z. inside_row ns ls r g ++ z) (choice-from c l (f + o) (g + o) items xs (omega arith) (omega arith) n.1
          (covers-second items x y (f + o) (f + o + u) (λ j m q. lies-above l f (f + o) j x (λ z. omega arith) m
          (row_lies r l f g (f + o) (omega arith) (omega arith)))
          (covers-narrow items (x ++ y) f (f + (o + u)) (f + o) (f + o + u) (omega arith) (omega arith) w)))
          ∙ sym (append_assoc (inside_row ns ls r g) (inside_choice ns ls c (g + o)) (from items (f + o + u) xs)) ∙ rw e

    -- ---- the productions of the rules

    -- every name of the rules is one of the names
    abbrev pub KnownRules : List Definition → Type 0
    KnownRules [] = Unit {0}
    KnownRules (d ∷ ds) = (index (map lower d.name) ns < length ns) × KnownChoice d.choice × KnownRules ds

    -- the items of later rules are of later left sides
    rules-lie : (ds : List Definition) (f g : ℕ) → g + options ds ≤ 128 → Every (λ i. f ≤ left_of i) (items_rules ns ls ds f g)
    unfolding items_rules options
    rules-lie [] f g h = tt
    rules-lie (d ∷ ds) f g h =
        let k = options_choice d.choice in
        every_append (λ i. f ≤ left_of i) (items_choice ns ls d.choice f (f + 1) g) (items_rules ns ls ds (f + 1 + k) (g + k))
        (every_map (Lies f (f + 1) (f + 1 + k)) (λ i. f ≤ left_of i) (λ i w. at_least i w) (items_choice ns ls d.choice f (f + 1) g)
        (choice-lies d.choice f (f + 1) g (f + 1 + k) (omega arith) (omega arith)))
        (every_map (λ i. f + 1 + k ≤ left_of i) (λ i. f ≤ left_of i) (λ i w. omega arith) (items_rules ns ls ds (f + 1 + k) (g + k))
        (rules-lie ds (f + 1 + k) (g + k) (omega arith)))
      where
        at_least : (i : ℕ) → Lies f (f + 1) (f + 1 + options_choice d.choice) i → f ≤ left_of i
        at_least i (own q) = omega arith
        at_least i (inner a b) = omega arith

    -- of a rule there is no empty production
    rule-from : (d : Definition) (f g : ℕ) (items : List ℕ) → index (map lower d.name) ns < length ns
        → ((a : ℕ) → Num.alternatives text places f a items ≡ alternatives ns ls d.choice a g)
        → productions_of text places items f (index (map lower d.name) ns) ≡ alternatives ns ls d.choice (before (map lower d.name) ns) g
    rule-from d f g items h w =
        rw (name-number (map lower d.name) h, w (before (map lower d.name) ns), lt-leb 128 (index (map lower d.name) ns) (omega (arith, few)))
        (append-nil (alternatives ns ls d.choice (before (map lower d.name) ns) g))

    -- rule by rule, the productions are those that are meant
    pub rules-from : (ds : List Definition) (f g : ℕ) (items : List ℕ) → g + options ds ≤ 128 → KnownRules ds
        → ((j a : ℕ) → f ≤ j → Num.alternatives text places j a items ≡ Num.alternatives text places j a (items_rules ns ls ds f g))
        → productions_from text places items f (lefts_rules ns ls ds g) ≡ productions ns ls ds g
    unfolding items_rules lefts_rules options productions productions_from from
    rules-from [] f g items h n w = refl
    rules-from (d ∷ ds) f g items h n w =
        let c = d.choice in
        let k = options_choice c in
        let x = items_choice ns ls c f (f + 1) g in
        let y = items_rules ns ls ds (f + 1 + k) (g + k) in
        let later : (j : ℕ) → j < f + 1 + k → NoLeft j y =
        λ j q. every_map (λ i. f + 1 + k ≤ left_of i) (λ i. ¬ (left_of i ≡ j)) (λ i u. λ z. omega arith) y
        (rules-lie ds (f + 1 + k) (g + k) (omega arith)) in
        ap₂ ◌++◌ (rule-from d f g items n.0 (λ a. w f a (omega arith) ∙ choice-alts c f a (f + 1) g y (omega arith) (omega arith) n.1
        (later f (omega arith))))
        (choice-from c f (f + 1) g items (lefts_rules ns ls ds (g + k)) (omega arith) (omega arith) n.1
        (λ j a m q. w j a (omega arith) ∙ alts-end text places j a x y (later j q))
        ∙ ap (λ z. inside_choice ns ls c g ++ z) (rules-from ds (f + 1 + k) (g + k) items (omega arith) n.2
        (λ j a m. w j a (omega arith) ∙ alts-skip text places j a x y
        (lies-above f (f + 1) (f + 1 + k) j x (λ z. omega arith) m (choice-lies c f (f + 1) g (f + 1 + k) (omega arith) (omega arith))))))

    -- the start is the first rule's name
    pub start-from : (d : Definition) (ds : List Definition) (g : ℕ) → KnownRules (d ∷ ds)
        → number_of text places (get_or (lefts_rules ns ls (d ∷ ds) g) 0 0) ≡ before (map lower d.name) ns
    unfolding lefts_rules
    start-from d ds g n = name-number (map lower d.name) n.0

-- ---- what is put among the words is known

module _ (ns ls : List (List ℕ)) (few : length ns ≤ 128) (short : length ls ≤ 4089) where
  mutual
    unfolding words_part

    -- part by part
    part-known : (p : Part) (ws : List (List ℕ)) → Grows (words_part p false ws) ns → KnownPart ns ls few short p
    part-known (named w) ws g = (grown (map lower w) ws ns g).1
    part-known (quoted w) ws g = tt
    part-known (optional c) ws g = choice-known c ws g

    row-known : (r : Row) (ws : List (List ℕ)) → Grows (words_row r false ws) ns → KnownRow ns ls few short r
    row-known (last p) ws g = part-known p ws g
    row-known (next p r) ws g =
        let vs = words_part p false ws in
        (part-known p ws (grows_then vs (words_row r false vs) ns (row-grows r false vs) g), row-known r vs g)

    choice-known : (c : Choice) (ws : List (List ℕ)) → Grows (words_choice c false ws) ns → KnownChoice ns ls few short c
    choice-known (only r) ws g = row-known r ws g
    choice-known (either r c) ws g =
        let vs = words_row r false ws in
        (row-known r ws (grows_then vs (words_choice c false vs) ns (choice-grows c false vs) g), choice-known c vs g)

  pub rules-known : (text places : List ℕ) (same : map (word_at false text) places ≡ ns) (ds : List Definition) (ws : List (List ℕ))
      → Grows (words ds false ws) ns → KnownRules ns ls few short text places same ds
  unfolding words words_rule
  rules-known text places same [] ws g = tt
  rules-known text places same (d ∷ ds) ws g =
      let v = map lower d.name in
      let us = words_choice d.choice false (with v ws) in
      let h : Grows us ns = grows_then us (words ds false us) ns (rules-grow ds false us) g in (
        (grown v ws ns (grows_then (with v ws) us ns (choice-grows d.choice false (with v ws)) h)).1,
        choice-known d.choice (with v ws) h,
        rules-known text places same ds us g,
      )
