-- The automaton reads the subset of RFC 5234 and nothing else: a text is read to its end, or passes a limit, exactly when it is a rulelist whose
-- names are defined once, and what is read is what the rulelist means. Assumes nothing.
use Prim.Native.Nat.{ℕ, ◌+◌, ◌≤◌}
use native.Mathlib.Omega.{arith}
use mathlib.Core.Path.{◌≡◌, refl, sym, ◌∙◌}
use mathlib.Core.Logic.{◌⊎◌, inl, inr, ◌↔◌}
use mathlib.Core.List.{List, [], ◌∷◌}
use mathlib.Core.Bool.{Bool, true, false}
use lib.ListN.{length}
use lib.Dec.{leb, eqb}
use borrow.Author.Tests.{eqb-true}
use Rattle.cfg.specs.Reading.{pick}
use Rattle.cfg.specs.Write.{write_table}
use Rattle.cfg.specs.Grammar.{Grammar}
use Rattle.abnf_tables.specs.Run.{Run, on, refused, ◌then◌}
use Rattle.abnf_tables.specs.Tables.{Tables, among}
use Rattle.abnf_rules.specs.Machine.{scanned, start}
use Rattle.abnf_rules.proofs.Bounds.{text-kept}
use Rattle.abnf.specs.Numbering.{missing, grammar_of}
use Rattle.abnf.specs.Abnf.{read_rules, table_of}
use Rattle.abnf_grammar.specs.Subset.{Definition, Lines, Rulelist, defines, Different, InSubset}
use Rattle.abnf_grammar.specs.Parsed.{Within}
use Rattle.abnf_grammar.proofs.Notes.{nothing, note_rules}
use Rattle.abnf_grammar.proofs.Told.{Says}
use Rattle.abnf_grammar.proofs.Leads.{or_cases}
use Rattle.abnf_grammar.proofs.Whole.{Comes, limited, repeated, bare, done, text-comes}
use Rattle.abnf_grammar.proofs.Sound.{text-lines}

-- the text is a rulelist of these definitions, no name is defined twice, and the tables are the notes of what it means
pub record Meant (text : List ℕ) (ds : List Definition) (t : Tables) : Type 0 where
  pub rulelist : Rulelist ds text
  pub once : Different (defines ds)
  pub told : Says text (defines ds) (note_rules ds nothing) t.names t.literals t.lefts t.items t.groups

-- the tables of a run, where it has some
same_tables : (x : Run Tables) (t u : Tables) → x ≡ on t → x ≡ on u → t ≡ u
same_tables x t u e f = let z : on t ≡ on u = sym e ∙ f in cc

-- a name that is defined has a rule
some-rule : (ds : List Definition) → 1 ≤ length (defines ds) → 1 ≤ length ds
some-rule [] h = h
some-rule (d ∷ ds) h = omega arith

-- a text that is read to its end is a rulelist whose names are defined once, and its tables are what it means
pub read-meant : (text : List ℕ) (t : Tables) → scanned text 0 text start ≡ on t → (ds : List Definition) × Meant text ds t
read-meant text t e =
    let w = text-lines text t e in
    (w.0, by w.0 w.1 (text-comes text w.0 w.1))
  where
    by : (ds : List Definition) → Lines ds text → Comes text [] ds nothing (scanned text 0 text start) → Meant text ds t
    by ds l (limited p f) = let y : refused 20 p ≡ on t = sym f ∙ e in let z : ◌≡◌ {A = ℕ} 0 1 = cc in absurd (omega arith)
    by ds l (repeated p f h) = let y : refused 18 p ≡ on t = sym f ∙ e in let z : ◌≡◌ {A = ℕ} 0 1 = cc in absurd (omega arith)
    by ds l (bare p f h) = let y : refused 18 p ≡ on t = sym f ∙ e in let z : ◌≡◌ {A = ℕ} 0 1 = cc in absurd (omega arith)
    by ds l (done u f h k s) =
        let same : u ≡ t = same_tables (scanned text 0 text start) u t f e in
        record { rulelist = (omega (arith, some-rule ds k), l); once = h; told = rw same at s }

-- a rulelist whose names are defined once is read to its end, unless a limit is passed
pub rulelist-read : (text : List ℕ) (ds : List Definition) → Rulelist ds text → Different (defines ds)
    → ((p : ℕ) × (scanned text 0 text start ≡ refused 20 p)) ⊎ ((t : Tables) × (scanned text 0 text start ≡ on t) × Meant text ds t)
rulelist-read text ds r h = by (text-comes text ds r.1)
  where
    no-rule : (ds : List Definition) → 1 ≤ length ds → length (defines ds) ≡ 0 → ⊥
    no-rule [] k e = omega arith
    no-rule (d ∷ ds) k e = omega arith

    by : Comes text [] ds nothing (scanned text 0 text start)
        → ((p : ℕ) × (scanned text 0 text start ≡ refused 20 p)) ⊎ ((t : Tables) × (scanned text 0 text start ≡ on t) × Meant text ds t)
    by (limited p f) = inl (p, f)
    by (repeated p f k) = absurd (k h)
    by (bare p f k) = absurd (no-rule ds r.0 k)
    by (done t f k m s) = inr (t, f, record { rulelist = r; once = k; told = s })

-- a rulelist that is refused by 18 defines a name twice
pub refused-twice : (text : List ℕ) (ds : List Definition) (p : ℕ) → Rulelist ds text → scanned text 0 text start ≡ refused 18 p → ¬ Different (defines ds)
refused-twice text ds p r e h = by (rulelist-read text ds r h)
  where
    by : ((q : ℕ) × (scanned text 0 text start ≡ refused 20 q)) ⊎ ((t : Tables) × (scanned text 0 text start ≡ on t) × Meant text ds t) → ⊥
    by (inl (q, f)) = let y : refused 20 q ≡ refused 18 p = sym f ∙ e in let z : ◌≡◌ {A = ℕ} 20 18 = cc in omega arith
    by (inr w) = let y : on w.0 ≡ refused 18 p = sym w.1 ∙ e in let z : ◌≡◌ {A = ℕ} 0 1 = cc in omega arith

-- ---- the same of a text's table

-- a missing name is 19
pub missing-number : (lefts : List ℕ) (k : ℕ) (names : List ℕ) (t : Tables) (n p : ℕ) → missing lefts k names (on t) ≡ refused n p → n ≡ 19
unfolding missing
missing-number lefts k [] t n p e = let z : ◌≡◌ {A = ℕ} 0 1 = cc in absurd (omega arith)
missing-number lefts k (from ∷ names) t n p e = by (among k lefts) (missing-number lefts (k + 1) names t n p) e
  where
    by : (b : Bool) → (missing lefts (k + 1) names (on t) ≡ refused n p → n ≡ 19)
        → pick b (missing lefts (k + 1) names (on t)) (refused 19 from) ≡ refused n p → n ≡ 19
    by true f h = f h
    by false f h = let x : 19 ≡ n = cc in sym x

-- a refusal of the automaton is the table's, and one that is neither 10 nor 19 is the automaton's
pub scan-refuses : (text : List ℕ) (room n p : ℕ) → scanned text 0 text start ≡ refused n p → table_of text room ≡ refused n p
unfolding table_of read_rules
scan-refuses text room n p e = rw e

pub table-scans : (text : List ℕ) (room n p : ℕ) → (n ≡ 10 → ⊥) → (n ≡ 19 → ⊥) → table_of text room ≡ refused n p → scanned text 0 text start ≡ refused n p
unfolding table_of read_rules
table-scans text room n p x y e = by (scanned text 0 text start) e
  where
    fit : (g : Grammar) (b : Bool) → pick b (on (write_table g)) (refused 10 0) ≡ refused n p → ⊥
    fit g true h = let z : ◌≡◌ {A = ℕ} 0 1 = cc in omega arith
    fit g false h = let z : 10 ≡ n = cc in x (sym z)

    all : (t : Tables) (r : Run Tables) → missing t.lefts 0 t.names (on t) ≡ r
        → ((r then λ u. on (grammar_of text u)) then λ g. pick (leb (length (write_table g)) room) (on (write_table g)) (refused 10 0)) ≡ refused n p → ⊥
    all t (on u) h k = fit (grammar_of text u) (leb (length (write_table (grammar_of text u))) room) k
    all t (refused m q) h k = let z : m ≡ 19 = missing-number t.lefts 0 t.names t m q h in let w : m ≡ n = cc in y (sym w ∙ z)

    by : (r : Run Tables)
        → ((r then λ t. missing t.lefts 0 t.names (on t) then λ u. on (grammar_of text u)) then λ g. pick (leb (length (write_table g)) room) (on (write_table g)) (refused 10 0)) ≡ refused n p
        → r ≡ refused n p
    by (on t) h = absurd (all t (missing t.lefts 0 t.names (on t)) refl h)
    by (refused m q) h = let z : m ≡ n = cc in let w : q ≡ p = cc in rw (z, w)

-- then the automaton refuses by 20 nowhere
pub within-scan : (text : List ℕ) (p : ℕ) → Within text → ¬ (scanned text 0 text start ≡ refused 20 p)
unfolding read_rules
within-scan text p w e = w p (rw e)

-- a text of the subset is never refused by 18
pub subset-accepted : (text : List ℕ) (room p : ℕ) → InSubset text → ¬ (table_of text room ≡ refused 18 p)
subset-accepted text room p s e = refused-twice text s.0 p s.1 (table-scans text room 18 p (λ z. absurd (omega arith)) (λ z. absurd (omega arith)) e) s.2

-- a text that is not refused by 18, and that passes no limit, is one of the subset
pub accepted-subset : (text : List ℕ) (room : ℕ) → Within text → ((p : ℕ) → ¬ (table_of text room ≡ refused 18 p)) → InSubset text
accepted-subset text room w h = by (scanned text 0 text start) refl
  where
    number : (n p : ℕ) → scanned text 0 text start ≡ refused n p → (eqb n 18 ≡ true) ⊎ (eqb n 20 ≡ true) → ⊥
    number n p e (inl f) = h p (scan-refuses text room 18 p (e ∙ rw (eqb-true n 18 f)))
    number n p e (inr f) = within-scan text p w (e ∙ rw (eqb-true n 20 f))

    by : (r : Run Tables) → scanned text 0 text start ≡ r → InSubset text
    by (on t) e = let m = read-meant text t e in (m.0, m.1.rulelist, m.1.once)
    by (refused n p) e = absurd (number n p e (or_cases (eqb n 18) (eqb n 20) (rw e at (text-kept text))))

-- where no limit is passed, 18 is not given exactly when the text is a rulelist whose names are defined once
pub subset-exactly : (text : List ℕ) (room : ℕ) → Within text → ((p : ℕ) → ¬ (table_of text room ≡ refused 18 p)) ↔ InSubset text
subset-exactly text room w = (accepted-subset text room w, λ s p. subset-accepted text room p s)
