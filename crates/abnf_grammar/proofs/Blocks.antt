-- The notes of a text's meaning as blocks of items, one for each part, over the words that all of the text has. Assumes nothing.
use Prim.Native.Nat.{ℕ, suc, ◌+◌, ◌*◌, ◌<◌}
use native.Mathlib.Omega.{arith}
use mathlib.Core.Path.{◌≡◌, refl, sym, ap, ◌∙◌}
use mathlib.Core.List.{List, [], ◌∷◌, ◌++◌, map, append_assoc, append-nil}
use mathlib.Core.Bool.{Bool, true, false}
use lib.ListN.{length, length-append}
use Rattle.cfg.specs.Reading.{pick}
use Rattle.abnf_tables.specs.Bytes.{lower}
use Rattle.abnf_tables.specs.Tables.{item}
use Rattle.abnf_grammar.specs.Subset.{Part, named, quoted, optional, Row, last, next, Choice, only, either, Definition}
use Rattle.abnf_grammar.specs.Meaning.{index, with, words_part, words_row, words_choice, words_rule, words, options_part, options_row, options_choice, options}
use Rattle.abnf_grammar.proofs.Notes.{Notes, note_item, note_name, note_left, note_group, note_part, note_row, note_choice, note_rule, note_rules}
use Rattle.abnf_grammar.proofs.Numbered.{with-index, with-known, with-keeps}

-- ---- words that are put behind others

-- what is known of some words keeps its number among others
abbrev pub Grows : List (List ℕ) → List (List ℕ) → Type 0
Grows ws vs = (w : List ℕ) → index w ws < length ws → (index w vs ≡ index w ws) × (index w vs < length vs)

-- growth goes on: nothing, one after the other, one word more, either of two
pub grows_same : (ws : List (List ℕ)) → Grows ws ws
grows_same ws w h = (refl, h)

pub grows_then : (us vs ws : List (List ℕ)) → Grows us vs → Grows vs ws → Grows us ws
grows_then us vs ws f g w h = let a = f w h in let b = g w a.1 in (b.0 ∙ a.0, b.1)

pub grows-with : (v : List ℕ) (ws : List (List ℕ)) → Grows ws (with v ws)
grows-with v ws w h = with-keeps w v ws h

pub grows-pick : (q : Bool) (ws us vs : List (List ℕ)) → Grows ws us → Grows ws vs → Grows ws (pick q us vs)
grows-pick true ws us vs f g = f
grows-pick false ws us vs f g = g

-- a word that was just put there
pub grown : (v : List ℕ) (ws vs : List (List ℕ)) → Grows (with v ws) vs → (index v vs ≡ index v ws) × (index v vs < length vs)
grown v ws vs g = let a = g v (omega (arith, with-index v ws, with-known v ws)) in (a.0 ∙ with-index v ws, a.1)

mutual
  unfolding words_part

  -- the words of a part, of a row, of alternatives, of rules come behind those before
  pub part-grows : (p : Part) (q : Bool) (ws : List (List ℕ)) → Grows ws (words_part p q ws)
  part-grows (named w) q ws = grows-pick q ws ws (with (map lower w) ws) (grows_same ws) (grows-with (map lower w) ws)
  part-grows (quoted w) q ws = grows-pick q ws (with (map lower w) ws) ws (grows-with (map lower w) ws) (grows_same ws)
  part-grows (optional c) q ws = choice-grows c q ws

  pub row-grows : (r : Row) (q : Bool) (ws : List (List ℕ)) → Grows ws (words_row r q ws)
  row-grows (last p) q ws = part-grows p q ws
  row-grows (next p r) q ws = grows_then ws (words_part p q ws) (words_row r q (words_part p q ws)) (part-grows p q ws) (row-grows r q (words_part p q ws))

  pub choice-grows : (c : Choice) (q : Bool) (ws : List (List ℕ)) → Grows ws (words_choice c q ws)
  choice-grows (only r) q ws = row-grows r q ws
  choice-grows (either r c) q ws = grows_then ws (words_row r q ws) (words_choice c q (words_row r q ws)) (row-grows r q ws) (choice-grows c q (words_row r q ws))

-- and those of all rules
pub rules-grow : (ds : List Definition) (q : Bool) (ws : List (List ℕ)) → Grows ws (words ds q ws)
unfolding words words_rule
rules-grow [] q ws = grows_same ws
rules-grow (d ∷ ds) q ws =
    let vs = pick q ws (with (map lower d.name) ws) in
    let us = words_choice d.choice q vs in
    grows_then ws vs (words ds q us) (grows-pick q ws ws (with (map lower d.name) ws) (grows_same ws) (grows-with (map lower d.name) ws))
    (grows_then vs us (words ds q us) (choice-grows d.choice q vs) (rules-grow ds q us))

-- ---- the words of the notes

-- the names and the literals are the words, behind those before
pub record Worded (n m : Notes) (f : Bool → List (List ℕ) → List (List ℕ)) : Type 0 where
  pub names : m.names ≡ f false n.names
  pub literals : m.literals ≡ f true n.literals

mutual
  unfolding words_part note_part

  -- part by part, the notes have these words
  pub part-worded : (p : Part) (l : ℕ) (n : Notes) → Worded n (note_part p l n) (words_part p)
  part-worded (named w) l n = record { names = refl; literals = refl }
  part-worded (quoted w) l n = record { names = refl; literals = refl }
  part-worded (optional c) l n =
      let a = choice-worded c (length n.lefts) (note_group (note_item l (2 * (128 + n.groups)) n)) in record { names = a.names; literals = a.literals }

  pub row-worded : (r : Row) (l : ℕ) (n : Notes) → Worded n (note_row r l n) (words_row r)
  row-worded (last p) l n = let a = part-worded p l n in record { names = a.names; literals = a.literals }
  row-worded (next p r) l n =
      let a = part-worded p l n in
      let b = row-worded r l (note_part p l n) in
      record { names = b.names ∙ ap (words_row r false) a.names; literals = b.literals ∙ ap (words_row r true) a.literals }

  pub choice-worded : (c : Choice) (l : ℕ) (n : Notes) → Worded n (note_choice c l n) (words_choice c)
  choice-worded (only r) l n = let a = row-worded r l (note_item l 1 n) in record { names = a.names; literals = a.literals }
  choice-worded (either r c) l n =
      let a = row-worded r l (note_item l 1 n) in
      let b = choice-worded c l (note_row r l (note_item l 1 n)) in
      record { names = b.names ∙ ap (words_choice c false) a.names; literals = b.literals ∙ ap (words_choice c true) a.literals }

-- rule by rule, too
pub rules-worded : (ds : List Definition) (n : Notes) → Worded n (note_rules ds n) (words ds)
unfolding words words_rule note_rules note_rule
rules-worded [] n = record { names = refl; literals = refl }
rules-worded (d ∷ ds) n =
    let a = choice-worded d.choice (length n.lefts) (note_left (index (map lower d.name) n.names) (note_name (map lower d.name) n)) in
    let b = rules-worded ds (note_rule d n) in
    record { names = b.names ∙ ap (words ds false) a.names; literals = b.literals ∙ ap (words ds true) a.literals }

-- ---- the items of the notes

module _ (names literals : List (List ℕ)) where
  -- the code of a part, with g groups before it
  unfoldable pub code : Part → ℕ → ℕ
  code (named w) g = 2 * index (map lower w) names
  code (quoted w) g = 2 * (index (map lower w) literals + 5) + 1
  code (optional c) g = 2 * (128 + g)

  -- the items of left side l, with f left sides and g groups before them
  unfoldable mutual
    pub items_part : Part → ℕ → ℕ → ℕ → List ℕ
    items_part (named w) l f g = item l (code (named w) g) ∷ []
    items_part (quoted w) l f g = item l (code (quoted w) g) ∷ []
    items_part (optional c) l f g = item l (code (optional c) g) ∷ items_choice c f (f + 1) (g + 1)

    pub items_row : Row → ℕ → ℕ → ℕ → List ℕ
    items_row (last p) l f g = items_part p l f g
    items_row (next p r) l f g = items_part p l f g ++ items_row r l (f + options_part p) (g + options_part p)

    pub items_choice : Choice → ℕ → ℕ → ℕ → List ℕ
    items_choice (only r) l f g = item l 1 ∷ items_row r l f g
    items_choice (either r c) l f g = item l 1 ∷ (items_row r l f g ++ items_choice c l (f + options_row r) (g + options_row r))

-- the left sides of groups, with g groups before them
unfoldable mutual
  pub lefts_part : Part → ℕ → List ℕ
  lefts_part (named w) g = []
  lefts_part (quoted w) g = []
  lefts_part (optional c) g = (128 + g) ∷ lefts_choice c (g + 1)

  pub lefts_row : Row → ℕ → List ℕ
  lefts_row (last p) g = lefts_part p g
  lefts_row (next p r) g = lefts_part p g ++ lefts_row r (g + options_part p)

  pub lefts_choice : Choice → ℕ → List ℕ
  lefts_choice (only r) g = lefts_row r g
  lefts_choice (either r c) g = lefts_row r g ++ lefts_choice c (g + options_row r)

mutual
  unfolding lefts_part options_part

  -- as many left sides as options
  part-lefts : (p : Part) (g : ℕ) → length (lefts_part p g) ≡ options_part p
  part-lefts (named w) g = refl
  part-lefts (quoted w) g = refl
  part-lefts (optional c) g = ap suc (choice-lefts c (g + 1))

  row-lefts : (r : Row) (g : ℕ) → length (lefts_row r g) ≡ options_row r
  row-lefts (last p) g = part-lefts p g
  row-lefts (next p r) g = omega (arith, length-append (lefts_part p g) (lefts_row r (g + options_part p)), part-lefts p g, row-lefts r (g + options_part p))

  choice-lefts : (c : Choice) (g : ℕ) → length (lefts_choice c g) ≡ options_choice c
  choice-lefts (only r) g = row-lefts r g
  choice-lefts (either r c) g =
      omega (arith, length-append (lefts_row r g) (lefts_choice c (g + options_row r)), row-lefts r g, choice-lefts c (g + options_row r))

-- m is n with these items and left sides behind
pub record Adds (n m : Notes) (is fs : List ℕ) (k : ℕ) : Type 0 where
  pub items : m.items ≡ n.items ++ is
  pub lefts : m.lefts ≡ n.lefts ++ fs
  pub groups : m.groups ≡ n.groups + k

-- one addition behind another
adds_then : (n m o : Notes) (is js fs gs : List ℕ) (k j : ℕ) → Adds n m is fs k → Adds m o js gs j → Adds n o (is ++ js) (fs ++ gs) (k + j)
adds_then n m o is js fs gs k j a b = record {
  items = b.items ∙ ap (λ x. x ++ js) a.items ∙ append_assoc n.items is js;
  lefts = b.lefts ∙ ap (λ x. x ++ gs) a.lefts ∙ append_assoc n.lefts fs gs;
  groups = omega (arith, a.groups, b.groups);
}

-- how many left sides there are then
adds-length : (n m : Notes) (is fs : List ℕ) (k f : ℕ) → length n.lefts ≡ f → length fs ≡ k → Adds n m is fs k → length m.lefts ≡ f + k
adds-length n m is fs k f e h a = ap length a.lefts ∙ omega (arith, length-append n.lefts fs)

module _ (ns ls : List (List ℕ)) where
  -- the words of the notes are among all
  pub record Among (n : Notes) : Type 0 where
    pub names : Grows n.names ns
    pub literals : Grows n.literals ls

  -- what is among all later was so before
  among-earlier : (n m : Notes) (f : Bool → List (List ℕ) → List (List ℕ)) → Worded n m f → Grows n.names (f false n.names)
      → Grows n.literals (f true n.literals) → Among m → Among n
  among-earlier n m f w g h a = record {
    names = grows_then n.names m.names ns (rw w.names g) a.names;
    literals = grows_then n.literals m.literals ls (rw w.literals h) a.literals;
  }

  among-row : (r : Row) (l : ℕ) (n : Notes) → Among (note_row r l n) → Among n
  among-row r l n a = among-earlier n (note_row r l n) (words_row r) (row-worded r l n) (row-grows r false n.names) (row-grows r true n.literals) a

  among-choice : (c : Choice) (l : ℕ) (n : Notes) → Among (note_choice c l n) → Among n
  among-choice c l n a =
      among-earlier n (note_choice c l n) (words_choice c) (choice-worded c l n) (choice-grows c false n.names) (choice-grows c true n.literals) a

  mutual
    unfolding note_part items_part lefts_part options_part code

    -- part by part, the notes are the blocks
    pub part-adds : (p : Part) (l : ℕ) (n : Notes) (f g : ℕ) → length n.lefts ≡ f → n.groups ≡ g → Among (note_part p l n)
        → Adds n (note_part p l n) (items_part ns ls p l f g) (lefts_part p g) (options_part p)
    part-adds (named w) l n f g e h a =
        let i : index (map lower w) ns ≡ index (map lower w) n.names = (grown (map lower w) n.names ns a.names).0 in
        record { items = rw i; lefts = sym (append-nil n.lefts); groups = omega arith }
    part-adds (quoted w) l n f g e h a =
        let i : index (map lower w) ls ≡ index (map lower w) n.literals = (grown (map lower w) n.literals ls a.literals).0 in
        record { items = rw i; lefts = sym (append-nil n.lefts); groups = omega arith }
    part-adds (optional c) l n f g e h a =
        let m = note_group (note_item l (2 * (128 + n.groups)) n) in
        let b =
        choice-adds c (length n.lefts) m (f + 1) (g + 1) (omega (arith, length-append n.lefts ((128 + n.groups) ∷ []))) (ap (λ x. x + 1) h)
        (record { names = a.names; literals = a.literals }) in
        record {
          items = b.items ∙ append_assoc n.items (item l (2 * (128 + n.groups)) ∷ []) (items_choice ns ls c (length n.lefts) (f + 1) (g + 1)) ∙ rw
              (h, e);
          lefts = b.lefts ∙ append_assoc n.lefts ((128 + n.groups) ∷ []) (lefts_choice c (g + 1)) ∙ rw h;
          groups = omega (arith, b.groups);
        }

    pub row-adds : (r : Row) (l : ℕ) (n : Notes) (f g : ℕ) → length n.lefts ≡ f → n.groups ≡ g → Among (note_row r l n)
        → Adds n (note_row r l n) (items_row ns ls r l f g) (lefts_row r g) (options_row r)
    row-adds (last p) l n f g e h a = part-adds p l n f g e h (record { names = a.names; literals = a.literals })
    row-adds (next p r) l n f g e h a =
        let m = note_part p l n in
        let x = part-adds p l n f g e h (among-row r l m a) in
        let y =
        row-adds r l m (f + options_part p) (g + options_part p)
        (adds-length n m (items_part ns ls p l f g) (lefts_part p g) (options_part p) f e (part-lefts p g) x) (x.groups ∙ ap (λ z. z + options_part p) h)
        (record { names = a.names; literals = a.literals }) in
        adds_then n m (note_row r l m) (items_part ns ls p l f g) (items_row ns ls r l (f + options_part p) (g + options_part p)) (lefts_part p g)
        (lefts_row r (g + options_part p)) (options_part p) (options_row r) x y

    pub choice-adds : (c : Choice) (l : ℕ) (n : Notes) (f g : ℕ) → length n.lefts ≡ f → n.groups ≡ g → Among (note_choice c l n)
        → Adds n (note_choice c l n) (items_choice ns ls c l f g) (lefts_choice c g) (options_choice c)
    choice-adds (only r) l n f g e h a =
        let m = note_item l 1 n in
        let x = row-adds r l m f g e h (record { names = a.names; literals = a.literals }) in
        record { items = x.items ∙ append_assoc n.items (item l 1 ∷ []) (items_row ns ls r l f g); lefts = x.lefts; groups = x.groups }
    choice-adds (either r c) l n f g e h a =
        let m = note_item l 1 n in
        let o = note_row r l m in
        let x = row-adds r l m f g e h (among-choice c l o (record { names = a.names; literals = a.literals })) in
        let y =
        choice-adds c l o (f + options_row r) (g + options_row r)
        (adds-length m o (items_row ns ls r l f g) (lefts_row r g) (options_row r) f e (row-lefts r g) x) (x.groups ∙ ap (λ z. z + options_row r) h)
        (record { names = a.names; literals = a.literals }) in
        let z =
        adds_then m o (note_choice c l o) (items_row ns ls r l f g) (items_choice ns ls c l (f + options_row r) (g + options_row r)) (lefts_row r g)
        (lefts_choice c (g + options_row r)) (options_row r) (options_choice c) x y in
        record {
          items = z.items ∙ append_assoc n.items (item l 1 ∷ [])
              (items_row ns ls r l f g ++ items_choice ns ls c l (f + options_row r) (g + options_row r));
          lefts = z.lefts;
          groups = z.groups;
        }

  -- all definitions, with f left sides and g groups before them
  unfoldable pub items_rules : List Definition → ℕ → ℕ → List ℕ
  items_rules [] f g = []
  items_rules (d ∷ ds) f g = items_choice ns ls d.choice f (f + 1) g ++ items_rules ds (f + 1 + options_choice d.choice) (g + options_choice d.choice)

  unfoldable pub lefts_rules : List Definition → ℕ → List ℕ
  lefts_rules [] g = []
  lefts_rules (d ∷ ds) g = index (map lower d.name) ns ∷ (lefts_choice d.choice g ++ lefts_rules ds (g + options_choice d.choice))

  -- rule by rule, too
  pub rules-add : (ds : List Definition) (n : Notes) (f g : ℕ) → length n.lefts ≡ f → n.groups ≡ g → Among (note_rules ds n)
      → Adds n (note_rules ds n) (items_rules ds f g) (lefts_rules ds g) (options ds)
  unfolding note_rules note_rule items_rules lefts_rules options
  rules-add [] n f g e h a = record { items = sym (append-nil n.items); lefts = sym (append-nil n.lefts); groups = omega arith }
  rules-add (d ∷ ds) n f g e h a =
      let v = map lower d.name in
      let c = d.choice in
      let m = note_left (index v n.names) (note_name v n) in
      let o = note_choice c (length n.lefts) m in
      let k = options_choice c in
      let later : Among o =
      among-earlier o (note_rules ds o) (words ds) (rules-worded ds o) (rules-grow ds false o.names) (rules-grow ds true o.literals) a in
      let sooner : Among m = among-choice c (length n.lefts) m later in
      let i : index v ns ≡ index v n.names = (grown v n.names ns sooner.names).0 in
      let x : Adds m o (items_choice ns ls c (length n.lefts) (f + 1) g) (lefts_choice c g) k =
      choice-adds c (length n.lefts) m (f + 1) g (omega (arith, length-append n.lefts (index v n.names ∷ []))) h later in
      let y : Adds o (note_rules ds o) (items_rules ds (f + 1 + k) (g + k)) (lefts_rules ds (g + k)) (options ds) =
      rules-add ds o (f + 1 + k) (g + k) (adds-length m o (items_choice ns ls c (length n.lefts) (f + 1) g) (lefts_choice c g) k (f + 1)
      (omega (arith, length-append n.lefts (index v n.names ∷ []))) (choice-lefts c g) x) (x.groups ∙ ap (λ z. z + k) h) a in
      let z =
      adds_then m o (note_rules ds o) (items_choice ns ls c (length n.lefts) (f + 1) g) (items_rules ds (f + 1 + k) (g + k)) (lefts_choice c g)
      (lefts_rules ds (g + k)) k (options ds) x y in
      record {
        items = z.items ∙ rw e;
        lefts = z.lefts ∙ append_assoc n.lefts (index v n.names ∷ []) (lefts_choice c g ++ lefts_rules ds (g + k)) ∙ rw i;
        groups = z.groups;
      }
