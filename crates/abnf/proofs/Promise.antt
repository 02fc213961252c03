-- What `read_abnf` promises, in words of the text: one answer, a written table is always readable, and exactly when 19 and 10 are given. Assumes nothing.
use Prim.Native.Nat.{ℕ, zero, suc, ◌+◌, ◌≤◌, ◌<◌}
use native.Mathlib.Omega.{arith}
use mathlib.Core.Path.{◌≡◌, refl, sym, ap, ◌∙◌}
use mathlib.Core.List.{List, [], ◌∷◌}
use mathlib.Core.Bool.{Bool, true, false, ◌||◌}
use lib.ListN.{length, get_or}
use lib.Dec.{leb, eqb}
use borrow.Author.Tests.{leb-true, leb-false, lt-leb}
use Rattle.cfg.specs.Reading.{pick, got}
use Rattle.cfg.specs.Reading as cfg
use Rattle.cfg.specs.Table.{read_table}
use Rattle.cfg.specs.Write.{write_table}
use Rattle.cfg.specs.Accept.{accept_table, test_refusal}
use Rattle.cfg.specs.Accept as accept
use Rattle.cfg.specs.Corners.{left_recursive}
use Rattle.cfg.specs.Closure.{closure}
use Rattle.cfg.specs.Grammar.{Grammar}
use Rattle.cfg.proofs.RoundTrip.{written_read}
use Rattle.abnf_tables.specs.Run.{Run, on, refused, ◌then◌}
use Rattle.abnf_tables.specs.Tables.{Tables, among}
use Rattle.abnf_rules.specs.Machine.{scanned, start}
use Rattle.abnf.specs.Numbering.{missing, grammar_of}
use Rattle.abnf.specs.Abnf.{read_rules, table_of, answer_says, ReadsAbnf}
use Rattle.refusals.specs.declared.Refusal.{Refusal as Cause}
use Rattle.abnf_tables.specs.declared.refused.Refused.{Refused}
use Rattle.std.specs.Prelude.{Result, Ok, Err}
use Rattle.refusals.specs.Numbers.{number}
use Rattle.refusals.proofs.Numbers.{number-injective}
use Rattle.abnf_rules.proofs.Bounds.{text-kept}
use Rattle.abnf.proofs.Limited.{rules-limits}

-- two answers that keep the promise on one text and the same lent bytes are the same, and so are the bytes that they leave
pub read_one : (text lent : List ℕ) (r s : Result ℕ Refused) (a b : List ℕ) → ReadsAbnf text lent r a → ReadsAbnf text lent s b → (r ≡ s) × (a ≡ b)
read_one text lent r s a b x y = (same r s (x.answer ∙ sym y.answer), x.bytes ∙ sym y.bytes)
  where
    same : (r s : Result ℕ Refused) → answer_says r ≡ answer_says s → r ≡ s
    same (Ok n) (Ok m) e = cc
    same (Ok n) (Err f) e = cc
    same (Err d) (Ok m) e = cc
    same (Err d) (Err f) e =
        let i : number d.refusal ≡ number f.refusal = cc in
        let j : d.place ≡ f.place = cc in
        let k : d.refusal ≡ f.refusal = number-injective d.refusal f.refusal i in
        ap Err (ap (λ (x : Cause). record { refusal = x; place = d.place }) k ∙ ap (λ (x : ℕ). record { refusal = f.refusal; place = x }) j)

-- ---- a written table is always readable

-- a text's grammar is read back from its table
pub readable : (text : List ℕ) (g : Grammar) → read_rules text ≡ on g → read_table (write_table g) ≡ got g (length (write_table g))
readable text g e = written_read g (rules-limits text g e)

-- what a written table is
pub record Readable (text : List ℕ) (room : ℕ) (bytes : List ℕ) : Type 0 where
  pub g : Grammar
  pub rules : read_rules text ≡ on g
  pub same : bytes ≡ write_table g
  pub fits : length bytes ≤ room
  pub reads : read_table bytes ≡ got g (length bytes)

pub written-readable : (text : List ℕ) (room : ℕ) (bytes : List ℕ) → table_of text room ≡ on bytes → Readable text room bytes
unfolding table_of
written-readable text room bytes e = by (read_rules text) refl e
  where
    fit : (g : Grammar) → read_rules text ≡ on g → (b : Bool) → leb (length (write_table g)) room ≡ b → pick b (on (write_table g)) (refused 10 0) ≡ on bytes → Readable text room bytes
    fit g f true l h =
        let same : bytes ≡ write_table g = cc in
        record { g = g; rules = f; same = same; fits = rw same (leb-true (length (write_table g)) room l); reads = rw same (readable text g f) }
    fit g f false l h = let z : ◌≡◌ {A = ℕ} 0 1 = cc in absurd (omega arith)

    by : (r : Run Grammar) → read_rules text ≡ r → (r then λ g. pick (leb (length (write_table g)) room) (on (write_table g)) (refused 10 0)) ≡ on bytes → Readable text room bytes
    by (on g) f h = fit g f (leb (length (write_table g)) room) refl h
    by (refused n p) f h = let z : ◌≡◌ {A = ℕ} 0 1 = cc in absurd (omega arith)

-- and so it is accepted, or refused by 8 or 9
pub data Accepts (bytes : List ℕ) (g : Grammar) : Type 0 where
  accepted : accept_table bytes ≡ got g (length bytes) → Accepts bytes g
  unproductive : accept_table bytes ≡ cfg.refused 8 → Accepts bytes g
  left-recursive : accept_table bytes ≡ cfg.refused 9 → Accepts bytes g

pub written-accepts : (text : List ℕ) (room : ℕ) (bytes : List ℕ) (w : Readable text room bytes) → Accepts bytes w.g
unfolding accept_table test_refusal
written-accepts text room bytes w = by (accept.unproductive w.g.productions w.g.n) refl (left_recursive (closure false w.g.productions w.g.n) w.g.productions w.g.n) refl
  where
    by : (a : Bool) → accept.unproductive w.g.productions w.g.n ≡ a → (b : Bool) → left_recursive (closure false w.g.productions w.g.n) w.g.productions w.g.n ≡ b → Accepts bytes w.g
    by true e b f = unproductive (rw (w.reads, e))
    by false e true f = left-recursive (rw (w.reads, e, f))
    by false e false f = accepted (rw (w.reads, e, f))

-- ---- exactly when 10 and 19 are given

-- the table of a text's grammar has more bytes than there is room
pub record NoRoom (text : List ℕ) (room : ℕ) : Type 0 where
  pub g : Grammar
  pub rules : read_rules text ≡ on g
  pub long : room < length (write_table g)

-- `from` is the first place of a name that no rule defines, and each name that appears before is defined
pub record Undefined (text : List ℕ) (from : ℕ) : Type 0 where
  pub t : Tables
  pub scans : scanned text 0 text start ≡ on t
  pub k : ℕ
  pub inside : k < length t.names
  pub place : from ≡ get_or t.names k 0
  pub none : among k t.lefts ≡ false
  pub before : (j : ℕ) → j < k → among j t.lefts ≡ true

scan-refuses : (text : List ℕ) (n p : ℕ) → scanned text 0 text start ≡ refused n p → (eqb n 18 || eqb n 20) ≡ true
scan-refuses text n p e = rw e at (text-kept text)

-- the first name from number k on that is missing
record Missing (lefts : List ℕ) (k : ℕ) (names : List ℕ) (n p : ℕ) : Type 0 where
  number : n ≡ 19
  i : ℕ
  inside : i < length names
  place : p ≡ get_or names i 0
  none : among (k + i) lefts ≡ false
  before : (j : ℕ) → j < i → among (k + j) lefts ≡ true

earlier : (lefts : List ℕ) (k i : ℕ) → among k lefts ≡ true → ((j : ℕ) → j < i → among (k + 1 + j) lefts ≡ true) → (j : ℕ) → j < suc i → among (k + j) lefts ≡ true
earlier lefts k i f g zero l = let s : k + 0 ≡ k = omega arith in rw s f
earlier lefts k i f g (suc j) l = let s : k + suc j ≡ k + 1 + j = omega arith in rw s (g j (omega arith))

missing-refuses : (lefts : List ℕ) (k : ℕ) (names : List ℕ) (t : Tables) (n p : ℕ) → missing lefts k names (on t) ≡ refused n p → Missing lefts k names n p
unfolding missing
missing-refuses lefts k [] t n p e = let z : ◌≡◌ {A = ℕ} 0 1 = cc in absurd (omega arith)
missing-refuses lefts k (from ∷ names) t n p e = by (among k lefts) refl (λ h. missing-refuses lefts (k + 1) names t n p h) e
  where
    by : (b : Bool) → among k lefts ≡ b → (missing lefts (k + 1) names (on t) ≡ refused n p → Missing lefts (k + 1) names n p) → pick b (missing lefts (k + 1) names (on t)) (refused 19 from) ≡ refused n p → Missing lefts k (from ∷ names) n p
    by true f h g =
        let w : Missing lefts (k + 1) names n p = h g in
        let s : (j : ℕ) → k + suc j ≡ k + 1 + j = λ j. omega arith in
        record { number = w.number; i = suc w.i; inside = omega (arith, w.inside); place = w.place; none = rw (s w.i) w.none; before = earlier lefts k w.i f w.before }
    by false f h g = let s : k + 0 ≡ k = omega arith in record { number = cc; i = 0; inside = omega arith; place = cc; none = rw s f; before = λ j l. absurd (omega arith) }

-- a text's rules are refused by 18 or 20, or by 19 for a name that is missing
data Refuses (text : List ℕ) (n p : ℕ) : Type 0 where
  byte : (eqb n 18 || eqb n 20) ≡ true → Refuses text n p
  name : n ≡ 19 → Undefined text p → Refuses text n p

rules-refused : (text : List ℕ) (n p : ℕ) → read_rules text ≡ refused n p → Refuses text n p
unfolding read_rules
rules-refused text n p e = by (scanned text 0 text start) refl e
  where
    all : (t : Tables) → scanned text 0 text start ≡ on t → (r : Run Tables) → missing t.lefts 0 t.names (on t) ≡ r → (r then λ u. on (grammar_of text u)) ≡ refused n p → Refuses text n p
    all t f (on u) h k = let z : ◌≡◌ {A = ℕ} 0 1 = cc in absurd (omega arith)
    all t f (refused m q) h k =
        let w : Missing t.lefts 0 t.names m q = missing-refuses t.lefts 0 t.names t m q h in
        let s : (j : ℕ) → 0 + j ≡ j = λ j. omega arith in
        let x : m ≡ n = cc in
        let y : q ≡ p = cc in
        name (sym x ∙ w.number) (record { t = t; scans = f; k = w.i; inside = w.inside; place = sym y ∙ w.place; none = rw (s w.i) at w.none; before = λ j l. rw (s j) at (w.before j l) })

    by : (r : Run Tables) → scanned text 0 text start ≡ r → (r then λ t. missing t.lefts 0 t.names (on t) then λ u. on (grammar_of text u)) ≡ refused n p → Refuses text n p
    by (on t) f h = all t f (missing t.lefts 0 t.names (on t)) refl h
    by (refused m q) f h = let x : m ≡ n = cc in byte (rw x at (scan-refuses text m q f))

missing-found : (lefts : List ℕ) (k : ℕ) (names : List ℕ) (t : Tables) (p i : ℕ) → i < length names → p ≡ get_or names i 0 → among (k + i) lefts ≡ false → ((j : ℕ) → j < i → among (k + j) lefts ≡ true) → missing lefts k names (on t) ≡ refused 19 p
unfolding missing
missing-found lefts k [] t p i h e f g = absurd (omega arith)
missing-found lefts k (from ∷ names) t p zero h e f g = let s : k + 0 ≡ k = omega arith in let a : among k lefts ≡ false = rw s at f in rw (a, e)
missing-found lefts k (from ∷ names) t p (suc i) h e f g =
    let s : (j : ℕ) → k + suc j ≡ k + 1 + j = λ j. omega arith in
    let o : k + 0 ≡ k = omega arith in
    let a : among k lefts ≡ true = rw o at (g 0 (omega arith)) in
    rw a (missing-found lefts (k + 1) names t p i (omega arith) e (rw (s i) at f) (λ j l. rw (s j) at (g (suc j) (omega arith))))

pub undefined-refused : (text : List ℕ) (from room : ℕ) → Undefined text from → table_of text room ≡ refused 19 from
unfolding table_of read_rules
undefined-refused text from room w =
    let s : (j : ℕ) → 0 + j ≡ j = λ j. omega arith in
    rw (w.scans, missing-found w.t.lefts 0 w.t.names w.t from w.k w.inside w.place (rw (s w.k) w.none) (λ j l. rw (s j) (w.before j l)))

pub no-room-refused : (text : List ℕ) (room : ℕ) → NoRoom text room → table_of text room ≡ refused 10 0
unfolding table_of
no-room-refused text room w = rw (w.rules, lt-leb (length (write_table w.g)) room w.long)

-- what a refusal of a text's table is: 18 or 20, 19 for a missing name, or 10
pub data Refusal (text : List ℕ) (room n p : ℕ) : Type 0 where
  in-text : (eqb n 18 || eqb n 20) ≡ true → read_rules text ≡ refused n p → Refusal text room n p
  undefined : n ≡ 19 → Undefined text p → Refusal text room n p
  no_room : n ≡ 10 → p ≡ 0 → NoRoom text room → Refusal text room n p

pub table-refused : (text : List ℕ) (room n p : ℕ) → table_of text room ≡ refused n p → Refusal text room n p
unfolding table_of
table-refused text room n p e = by (read_rules text) refl e
  where
    kind : read_rules text ≡ refused n p → Refuses text n p → Refusal text room n p
    kind f (byte h) = in-text h f
    kind f (name h w) = undefined h w

    fit : (g : Grammar) → read_rules text ≡ on g → (b : Bool) → leb (length (write_table g)) room ≡ b → pick b (on (write_table g)) (refused 10 0) ≡ refused n p → Refusal text room n p
    fit g f true l h = let z : ◌≡◌ {A = ℕ} 0 1 = cc in absurd (omega arith)
    fit g f false l h = no_room (let x : 10 ≡ n = cc in sym x) (let x : 0 ≡ p = cc in sym x) (record { g = g; rules = f; long = leb-false (length (write_table g)) room l })

    by : (r : Run Grammar) → read_rules text ≡ r → (r then λ g. pick (leb (length (write_table g)) room) (on (write_table g)) (refused 10 0)) ≡ refused n p → Refusal text room n p
    by (on g) f h = fit g f (leb (length (write_table g)) room) refl h
    by (refused m q) f h = let x : m ≡ n = cc in let y : q ≡ p = cc in let k : read_rules text ≡ refused n p = f ∙ rw (x, y) in kind k (rules-refused text n p k)

-- 10 exactly when there is no room, and 19 exactly when a name is missing
pub no-room-exactly : (text : List ℕ) (room p : ℕ) → table_of text room ≡ refused 10 p → NoRoom text room
no-room-exactly text room p e = by (table-refused text room 10 p e)
  where
    by : Refusal text room 10 p → NoRoom text room
    by (in-text h f) = let z : ◌≡◌ {A = ℕ} 0 1 = cc in absurd (omega arith)
    by (undefined h w) = absurd (omega arith)
    by (no_room h f w) = w

pub undefined-exactly : (text : List ℕ) (room from : ℕ) → table_of text room ≡ refused 19 from → Undefined text from
undefined-exactly text room from e = by (table-refused text room 19 from e)
  where
    by : Refusal text room 19 from → Undefined text from
    by (in-text h f) = let z : ◌≡◌ {A = ℕ} 0 1 = cc in absurd (omega arith)
    by (undefined h w) = w
    by (no_room h f w) = absurd (omega arith)

-- ---- where the room does not matter

-- a text that is refused by 18, 19 or 20 is refused so whatever is lent
pub refused-anyhow : (text : List ℕ) (n p : ℕ) → read_rules text ≡ refused n p → (room : ℕ) → table_of text room ≡ refused n p
unfolding table_of
refused-anyhow text n p e room = rw e

-- a table has bytes: where none are lent, every text is refused
pub nothing_lent : (text bytes : List ℕ) → table_of text 0 ≡ on bytes → ⊥
unfolding read_table
nothing_lent text [] e = let h = (written-readable text 0 [] e).reads in let z : ◌≡◌ {A = ℕ} 0 1 = cc in absurd (omega arith)
nothing_lent text (b ∷ bs) e = let h = (written-readable text 0 (b ∷ bs) e).fits in absurd (omega arith)
