-- The productions that are written are those of the text's parse: the grammar of what was read is the one that the definitions mean, and a text has
-- one such grammar, however it is taken apart. Assumes nothing.
use Prim.Native.Nat.{ℕ, ◌+◌, ◌≤◌}
use native.Mathlib.Omega.{arith}
use mathlib.Core.Path.{◌≡◌, refl, sym, ap, ◌∙◌}
use mathlib.Core.Logic.{◌⊎◌, inl, inr, ◌↔◌}
use mathlib.Core.List.{List, [], ◌∷◌, map}
use mathlib.Core.Bool.{Bool, true, false}
use lib.ListN.{length, get_or, length-map}
use lib.Dec.{leb}
use Rattle.cfg.specs.Reading.{pick}
use Rattle.cfg.specs.Write.{write_table}
use Rattle.cfg.specs.Grammar.{Production, Grammar}
use Rattle.abnf_tables.specs.Run.{Run, on, refused, ◌then◌}
use Rattle.abnf_tables.specs.Words.{word_at}
use Rattle.abnf_tables.specs.Tables.{Tables, among}
use Rattle.abnf_rules.specs.Machine.{scanned, start}
use Rattle.abnf_rules.proofs.Bounds.{Keeps, text-kept}
use Rattle.abnf.specs.Numbering.{missing, number_of, productions_from, grammar_of}
use Rattle.abnf.specs.Abnf.{read_rules, table_of}
use Rattle.abnf_grammar.specs.Subset.{Definition, Rulelist, defines, Different}
use Rattle.abnf_grammar.proofs.Notes.{nothing, note_rules}
use Rattle.abnf_grammar.specs.Parsed.{Within, Parsed}
use Rattle.abnf_grammar.specs.Meaning.{AllDefined, index, words, options, start_of, productions, meant}
use Rattle.abnf_grammar.proofs.Blocks.{grows_same, Worded, rules-worded, Adds, Among, items_rules, lefts_rules, rules-add}
use Rattle.abnf_grammar.proofs.Productions.{rules-from, start-from, rules-known, KnownRules}
use Rattle.abnf_grammar.proofs.Theorems.{Meant, read-meant, rulelist-read, missing-number}
use Rattle.abnf_grammar.proofs.Undefined.{rules-distinct, all-defined, some-undefined}
use Rattle.abnf_grammar.proofs.Numbered.{of_names}

abbrev grammar : ℕ → ℕ → ℕ → List Production → Grammar
grammar n t s ps = record { n = n; t = t; start = s; productions = ps }

-- a grammar is its four parts
same-grammar : (n n' t t' s s' : ℕ) (ps ps' : List Production) → n ≡ n' → t ≡ t' → s ≡ s' → ps ≡ ps' → grammar n t s ps ≡ grammar n' t' s' ps'
same-grammar n n' t t' s s' ps ps' a b c d = rw (a, b, c, d)

-- the tables as blocks of items over the text's words
record Laid (text : List ℕ) (ds : List Definition) (t : Tables) : Type 0 where
  names : map (word_at false text) t.names ≡ words ds false []
  literals : map (word_at true text) t.literals ≡ words ds true []
  lefts : t.lefts ≡ lefts_rules (words ds false []) (words ds true []) ds 0
  items : t.items ≡ items_rules (words ds false []) (words ds true []) ds 0 0
  groups : t.groups ≡ options ds

-- what is noted, as blocks
laid : (text : List ℕ) (ds : List Definition) (t : Tables) → Meant text ds t → Laid text ds t
laid text ds t m =
    let w : Worded nothing (note_rules ds nothing) (words ds) = rules-worded ds nothing in
    let ns = words ds false [] in
    let ls = words ds true [] in
    let among-all : Among ns ls (note_rules ds nothing) = record { names = rw w.names (grows_same ns); literals = rw w.literals (grows_same ls) } in
    let a : Adds nothing (note_rules ds nothing) (items_rules ns ls ds 0 0) (lefts_rules ns ls ds 0) (options ds) =
    rules-add ns ls ds nothing 0 0 refl refl among-all in
    record {
      names = m.told.names ∙ w.names;
      literals = m.told.literals ∙ w.literals;
      lefts = m.told.lefts ∙ a.lefts;
      items = m.told.items ∙ a.items;
      groups = omega (arith, m.told.groups, a.groups);
    }

-- the grammar of what was read is the one that is meant
pub grammar-meant : (text : List ℕ) (t : Tables) (ds : List Definition) → scanned text 0 text start ≡ on t → Meant text ds t → grammar_of text t ≡ meant ds
unfolding grammar_of meant
grammar-meant text t ds e m =
    let w : Laid text ds t = laid text ds t m in
    let k : Keeps 0 1 t = rw e at (text-kept text) in
    let ns = words ds false [] in
    let ls = words ds true [] in
    let n : length ns ≡ length t.names = ap length (sym w.names) ∙ length-map t.names (word_at false text) in
    let l : length ls ≡ length t.literals = ap length (sym w.literals) ∙ length-map t.literals (word_at true text) in
    let few : length ns ≤ 128 = omega (arith, k.sides.names) in
    let short : length ls ≤ 4089 = omega (arith, k.sides.literals) in
    let known = rules-known ns ls few short text t.names w.names ds [] (grows_same ns) in
    same-grammar (length t.names + t.groups) (length ns + options ds) (length t.literals) (length ls) (number_of text t.names (get_or t.lefts 0 0))
    (start_of ns ls ds)
    (productions_from text t.names t.items 0 t.lefts) (productions ns ls ds 0)
    (omega (arith, w.groups)) (sym l) (ap (λ x. number_of text t.names (get_or x 0 0)) w.lefts ∙ begins ns ls few short w.names ds
    m.rulelist.0 known)
    (ap (λ x. productions_from text t.names t.items 0 x) w.lefts
    ∙ rules-from ns ls few short text t.names w.names ds 0 0 t.items (omega (arith, w.groups, k.sides.names)) known (λ j a h. rw w.items))
  where
    begins : (ns ls : List (List ℕ)) (few : length ns ≤ 128) (short : length ls ≤ 4089) (same : map (word_at false text) t.names ≡ ns) (ds : List Definition) → 1 ≤ length ds
        → KnownRules ns ls few short text t.names same ds → number_of text t.names (get_or (lefts_rules ns ls ds 0) 0 0) ≡ start_of ns ls ds
    begins ns ls few short same [] h n = absurd (omega arith)
    begins ns ls few short same (d ∷ ds) h n = unfold start_of in (start-from ns ls few short text t.names same d ds 0 n)

-- ---- names that have no rule

-- the names that appear, among which those that have rules are found by number
record Found (ds : List Definition) (t : Tables) : Type 0 where
  few : length (words ds false []) ≤ 128
  ruled : of_names t.lefts ≡ map (λ w. index w (words ds false [])) (defines ds)
  same : length t.names ≡ length (words ds false [])

-- that is so of every text that is read
found : (text : List ℕ) (t : Tables) (ds : List Definition) → scanned text 0 text start ≡ on t → Meant text ds t → Found ds t
found text t ds e m =
    let w : Laid text ds t = laid text ds t m in
    let k : Keeps 0 1 t = rw e at (text-kept text) in
    let n : length t.names ≡ length (words ds false []) = sym (length-map t.names (word_at false text)) ∙ ap length w.names in
    record {
      few = omega (arith, k.sides.names);
      ruled = m.told.ruled ∙ ap (λ x. map (λ v. index v x) (defines ds)) (rules-worded ds nothing).names;
      same = n;
    }

-- no name is missing: each has a rule; one is missing: not each has
names-defined : (text : List ℕ) (t u : Tables) (ds : List Definition) → scanned text 0 text start ≡ on t → Meant text ds t
    → missing t.lefts 0 t.names (on t) ≡ on u → AllDefined ds
names-defined text t u ds e m f =
    let w = found text t ds e m in all-defined t.lefts (words ds false []) (defines ds) w.few w.ruled t.names t u w.same f

name-undefined : (text : List ℕ) (t : Tables) (ds : List Definition) (n p : ℕ) → scanned text 0 text start ≡ on t → Meant text ds t
    → missing t.lefts 0 t.names (on t) ≡ refused n p → ¬ AllDefined ds
name-undefined text t ds n p e m f =
    let w = found text t ds e m in
    some-undefined t.lefts (words ds false []) (defines ds) w.few w.ruled t.names t n p w.same
    (rules-distinct ds [] (λ i h. absurd (omega arith))) f

-- ---- a text's rules and its table

-- where no name is missing the tables pass
missing-same : (lefts : List ℕ) (k : ℕ) (names : List ℕ) (t u : Tables) → missing lefts k names (on t) ≡ on u → t ≡ u
unfolding missing
missing-same lefts k [] t u e = cc
missing-same lefts k (from ∷ names) t u e = by (among k lefts) (missing-same lefts (k + 1) names t u) e
  where
    by : (b : Bool) → (missing lefts (k + 1) names (on t) ≡ on u → t ≡ u) → pick b (missing lefts (k + 1) names (on t)) (refused 19 from) ≡ on u → t ≡ u
    by true f h = f h
    by false f h = let z : ◌≡◌ {A = ℕ} 0 1 = cc in absurd (omega arith)

-- the rules that a text has are those of its parse
pub rules-parsed : (text : List ℕ) (g : Grammar) → read_rules text ≡ on g → Parsed text g
unfolding read_rules
rules-parsed text g e = by (scanned text 0 text start) refl e
  where
    parsed : (t u : Tables) → scanned text 0 text start ≡ on t → missing t.lefts 0 t.names (on t) ≡ on u → g ≡ grammar_of text t → Parsed text g
    parsed t u f k h =
        let m = read-meant text t f in
        record {
          definitions = m.0;
          rulelist = m.1.rulelist;
          once = m.1.once;
          defined = names-defined text t u m.0 f m.1 k;
          grammar = h
              ∙ grammar-meant text t m.0 f m.1;
        }

    all : (t : Tables) → scanned text 0 text start ≡ on t → (r : Run Tables) → missing t.lefts 0 t.names (on t) ≡ r
        → (r then λ u. on (grammar_of text u)) ≡ on g → Parsed text g
    all t f (on u) h k =
        let same : t ≡ u = missing-same t.lefts 0 t.names t u h in
        let z : grammar_of text u ≡ g = cc in
        parsed t u f h (sym z ∙ rw same)
    all t f (refused n p) h k = let z : ◌≡◌ {A = ℕ} 0 1 = cc in absurd (omega arith)

    by : (r : Run Tables) → scanned text 0 text start ≡ r → (r then λ t. missing t.lefts 0 t.names (on t) then λ u. on (grammar_of text u)) ≡ on g
        → Parsed text g
    by (on t) f h = all t f (missing t.lefts 0 t.names (on t)) refl h
    by (refused n p) f h = let z : ◌≡◌ {A = ℕ} 0 1 = cc in absurd (omega arith)

-- what a written table holds is the grammar of the text's parse
pub table-parsed : (text : List ℕ) (room : ℕ) (bytes : List ℕ) → table_of text room ≡ on bytes → (g : Grammar) × Parsed text g × (bytes ≡ write_table g)
unfolding table_of
table-parsed text room bytes e = by (read_rules text) refl e
  where
    fit : (g : Grammar) (b : Bool) → pick b (on (write_table g)) (refused 10 0) ≡ on bytes → bytes ≡ write_table g
    fit g true h = cc
    fit g false h = let z : ◌≡◌ {A = ℕ} 0 1 = cc in absurd (omega arith)

    by : (r : Run Grammar) → read_rules text ≡ r → (r then λ g. pick (leb (length (write_table g)) room) (on (write_table g)) (refused 10 0)) ≡ on bytes
        → (g : Grammar) × Parsed text g × (bytes ≡ write_table g)
    by (on g) f h = (g, rules-parsed text g f, fit g (leb (length (write_table g)) room) h)
    by (refused n p) f h = let z : ◌≡◌ {A = ℕ} 0 1 = cc in absurd (omega arith)

-- what becomes of a text that means some definitions: a limit is passed, a name has no rule, or its grammar is the one that is meant
pub data Becomes (text : List ℕ) (ds : List Definition) : Type 0 where
  limit : (p : ℕ) → read_rules text ≡ refused 20 p → Becomes text ds
  undefined : (p : ℕ) → read_rules text ≡ refused 19 p → ¬ AllDefined ds → Becomes text ds
  grammar-read : read_rules text ≡ on (meant ds) → AllDefined ds → Becomes text ds

-- each rulelist whose names are defined once becomes one of these
pub rulelist-becomes : (text : List ℕ) (ds : List Definition) → Rulelist ds text → Different (defines ds) → Becomes text ds
unfolding read_rules
rulelist-becomes text ds r h = by (rulelist-read text ds r h)
  where
    all : (t : Tables) → scanned text 0 text start ≡ on t → Meant text ds t → (x : Run Tables) → missing t.lefts 0 t.names (on t) ≡ x → Becomes text ds
    all t f m (on u) e =
        let same : t ≡ u = missing-same t.lefts 0 t.names t u e in
        grammar-read (rw (f, e) (ap {B = Run Grammar} on (ap (grammar_of text) (sym same) ∙ grammar-meant text t ds f m))) (names-defined text t u ds f m e)
    all t f m (refused n p) e =
        let z : n ≡ 19 = missing-number t.lefts 0 t.names t n p e in undefined p (rw (f, e, z)) (name-undefined text t ds n p f m e)

    by : ((p : ℕ) × (scanned text 0 text start ≡ refused 20 p)) ⊎ ((t : Tables) × (scanned text 0 text start ≡ on t) × Meant text ds t) → Becomes text ds
    by (inl (p, f)) = limit p (rw f)
    by (inr w) = all w.0 w.1 w.2 (missing w.0.lefts 0 w.0.names (on w.0)) refl

-- where no limit is passed, a text has the grammar exactly when its parse means it, with each name defined, and none twice
pub parsed-read : (text : List ℕ) (g : Grammar) → Within text → Parsed text g → read_rules text ≡ on g
parsed-read text g w p = by (rulelist-becomes text p.definitions p.rulelist p.once)
  where
    by : Becomes text p.definitions → read_rules text ≡ on g
    by (limit q e) = absurd (w q e)
    by (undefined q e h) = absurd (h p.defined)
    by (grammar-read e h) = e ∙ ap {B = Run Grammar} on (sym p.grammar)

-- both at once
pub read-exactly : (text : List ℕ) (g : Grammar) → Within text → (read_rules text ≡ on g) ↔ Parsed text g
read-exactly text g w = (rules-parsed text g, parsed-read text g w)

-- a text that is read means one grammar, however it is taken apart
pub one-meaning : (text : List ℕ) (ds es : List Definition) (g : Grammar) → read_rules text ≡ on g → Rulelist ds text → Different (defines ds)
    → Rulelist es text → Different (defines es) → meant ds ≡ meant es
one-meaning text ds es g e r h s k = sym (is ds (rulelist-becomes text ds r h)) ∙ is es (rulelist-becomes text es s k)
  where
    is : (ds : List Definition) → Becomes text ds → g ≡ meant ds
    is ds (limit p f) = let y : refused 20 p ≡ on g = sym f ∙ e in let z : ◌≡◌ {A = ℕ} 0 1 = cc in absurd (omega arith)
    is ds (undefined p f h) = let y : refused 19 p ≡ on g = sym f ∙ e in let z : ◌≡◌ {A = ℕ} 0 1 = cc in absurd (omega arith)
    is ds (grammar-read f h) = let y : on g ≡ on (meant ds) = sym e ∙ f in cc
