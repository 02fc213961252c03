-- The way back: the part of a name's, a group's or a literal's number names it. Assumes nothing.
use Prim.Native.Nat.{ℕ, zero, suc, ◌+◌, ◌-◌, ◌≤◌, ◌<◌}
use native.Mathlib.Omega.{arith}
use mathlib.Core.Path.{◌≡◌, refl, ap}
use mathlib.Core.List.{List, [], ◌∷◌, map}
use mathlib.Core.Bool.{Bool, true, false, ◌&&◌}
use lib.ListN.{length, get_or, take, drop, length-drop}
use lib.Seq.{drop-cons}
use lib.Dec.{ltb, leb}
use borrow.Author.Tests.{lt-ltb, le-ltb, le-leb, ltb-false}
use Rattle.cfg.specs.Reading.{pick}
use Rattle.abnf_tables.specs.Run.{Run, on, refused, ◌then◌}
use Rattle.abnf_tables.specs.Bytes.{letter, name_byte, literal_byte, lower}
use Rattle.abnf_tables.specs.Words.{word, word_at, rank}
use Rattle.abnf_tables.specs.Words.{part as made}
use Rattle.abnf_tables.specs.Tables.{Tables}
use Rattle.abnf_rules.specs.Machine.{State, step, scanned, finished, whole, start}
use Rattle.abnf_rules.specs.declared.machine.Mode.{Mode}
use Rattle.abnf_rules.specs.declared.machine.Line.{Line}
use Rattle.abnf_rules.specs.declared.machine.Line.TheVariants.{Inside, Comment, Return, Ended}
use Rattle.abnf_rules.proofs.Bounds.{Keeps, All, text-kept}
use Rattle.abnf.specs.Numbering.{number_of}
use Rattle.abnf.proofs.Limited.{rank_below, compare_same}
use Rattle.abnf_names.specs.declared.TextPart.{TextPart}
use Rattle.abnf_names.specs.Parts.{part, no_part, word_part, name_numbered, nonterminal_in, terminal_in, part_of, nonterminal_part, terminal_part}
use Rattle.abnf_names.proofs.Numbers.{Found, name-found, name_back}
use Rattle.abnf_names.proofs.Places.{part_from, group_begins, group-back}
use Rattle.abnf_names.proofs.Spots.{Named, Quoted, text-spots}

-- ---- words in their text

at-inside : (p : ℕ → Bool) (text : List ℕ) (f : ℕ) → p 0 ≡ false → p (get_or text f 0) ≡ true → f < length text
at-inside p [] f z e = let y : ◌≡◌ {A = ℕ} 0 1 = cc in absurd (omega arith)
at-inside p (b ∷ text) zero z e = omega arith
at-inside p (b ∷ text) (suc f) z e = let k = at-inside p text f z e in omega arith

word_fits : (q : Bool) (bs : List ℕ) → length (word q bs) ≤ length bs
unfolding word
word_fits q [] = omega arith
word_fits q (b ∷ bs) = by (made q b) (word_fits q bs)
  where
    by : (c : Bool) → length (word q bs) ≤ length bs → length (pick c (lower b ∷ word q bs) []) ≤ suc (length bs)
    by true h = omega arith
    by false h = omega arith

-- a word is its bytes, without case
word_bytes : (q : Bool) (bs : List ℕ) → map lower (take (length (word q bs)) bs) ≡ word q bs
unfolding word
word_bytes q [] = refl
word_bytes q (b ∷ bs) = by (made q b) (word_bytes q bs)
  where
    by : (c : Bool) → map lower (take (length (word q bs)) bs) ≡ word q bs → map lower (take (length (pick c (lower b ∷ word q bs) [])) (b ∷ bs)) ≡ pick c (lower b ∷ word q bs) []
    by true h = ap (λ (w : List ℕ). lower b ∷ w) h
    by false h = refl

-- a part of a text that is not empty, and its bytes without case are w
pub record Names (text : List ℕ) (p : TextPart) (w : List ℕ) : Type 0 where
  pub some : p.start < p.end
  pub inside : p.end ≤ length text
  pub bytes : map lower (take (p.end - p.start) (drop p.start text)) ≡ w

begun : (q : Bool) (b : ℕ) (bs : List ℕ) → made q b ≡ true → 1 ≤ length (word q (b ∷ bs))
unfolding word
begun q b bs e = rw e (omega arith)

letter-name : (b : ℕ) → letter b ≡ true → made false b ≡ true
unfolding made name_byte
letter-name b e = rw e

word-names : (q : Bool) (text : List ℕ) (f : ℕ) → f < length text → made q (get_or text f 0) ≡ true → Names text (word_part q text f) (word_at q text f)
unfolding word_part
word-names q text f l e =
    let some : 1 ≤ length (word_at q text f) = rw (drop-cons text f 0 l) (begun q (get_or text f 0) (drop (suc f) text) e) in
    let fits : f + length (word_at q text f) ≤ length text = omega (arith, word_fits q (drop f text), length-drop f text) in
    let size : f + length (word_at q text f) - f ≡ length (word_at q text f) = omega arith in
    rw (le-leb (f + length (word_at q text f)) (length text) fits) (record { some = omega arith; inside = fits; bytes = rw size (word_bytes q (drop f text)) })

pub all-member : (P : ℕ → Type 0) (xs : List ℕ) (i : ℕ) → i < length xs → All P xs → P (get_or xs i 0)
all-member P [] i h w = absurd (omega arith)
all-member P (x ∷ xs) zero h w = w.0
all-member P (x ∷ xs) (suc i) h w = all-member P xs i (omega arith) w.1

module _ (text : List ℕ) (t : Tables) (e : scanned text 0 text start ≡ on t) where
  -- ---- names

  pub name-names : (j : ℕ) → j < length t.names → Names text (nonterminal_part text (number_of text t.names j)) (word_at false text (get_or t.names j 0))
  unfolding nonterminal_part nonterminal_in number_of letter name_byte made
  name-names j h =
      let k : Keeps 0 1 t = rw e at (text-kept text) in
      let few : j < 128 = omega (arith, k.sides.names) in
      let small : rank text (get_or t.names j 0) t.names < length t.names = rank_below text (get_or t.names j 0) t.names j h (compare_same (word_at false text (get_or t.names j 0))) in
      let w : Found text t.names (rank text (get_or t.names j 0) t.names) t.names = name-found text t.names (rank text (get_or t.names j 0) t.names) t.names j h refl in
      let s : Named text (get_or t.names w.k 0) = all-member (Named text) t.names w.k w.inside (text-spots text t e).0 in
      let v : Names text (word_part false text (get_or t.names w.k 0)) (word_at false text (get_or t.names w.k 0)) = word-names false text (get_or t.names w.k 0) (at-inside letter text (get_or t.names w.k 0) refl s) (letter-name (get_or text (get_or t.names w.k 0) 0) s) in
      let u : Names text (name_numbered text t.names (rank text (get_or t.names j 0) t.names) t.names) (word_at false text (get_or t.names j 0)) = rw w.is (rw (name_back text t.names j h w) at v) in
      rw (e, lt-ltb j 128 few, lt-ltb (rank text (get_or t.names j 0) t.names) (length t.names) small) u

  -- ---- literals

  pub literal-names : (x : ℕ) → x < length t.literals → Names text (terminal_part text (x + 5)) (word_at true text (get_or t.literals x 0))
  unfolding terminal_part terminal_in literal_byte made
  literal-names x h =
      let s : Quoted text (get_or t.literals x 0) = all-member (Quoted text) t.literals x h (text-spots text t e).1 in
      let z : x + 5 - 5 ≡ x = omega arith in
      let v : Names text (word_part true text (get_or t.literals x 0)) (word_at true text (get_or t.literals x 0)) = word-names true text (get_or t.literals x 0) (at-inside literal_byte text (get_or t.literals x 0) refl s) s in
      rw (e, le-leb 5 (x + 5) (omega arith), z, lt-ltb x (length t.literals) h) v

  -- ---- groups

  pub group-begins : (g : ℕ) → g < t.groups → nonterminal_part text (number_of text t.names (128 + g)) ≡ group_begins text 0 text start g
  unfolding nonterminal_part nonterminal_in number_of
  group-begins g h =
      let i : 128 + g - 128 ≡ g = omega arith in
      let j : length t.names + g - length t.names ≡ g = omega arith in
      rw (e, le-ltb (128 + g) 128 (omega arith), i, le-ltb (length t.names + g) (length t.names) (omega arith), lt-ltb (length t.names + g) (length t.names + t.groups) (omega arith), j) (group-back text t e g)

-- one byte
pub record Byte (p : TextPart) : Type 0 where
  pub at : ℕ
  pub is : p ≡ part at (at + 1)

finished-same : (at : ℕ) (l : Line) (m : Mode) (t u : Tables) → finished at l m t ≡ on u → t ≡ u
unfolding finished
finished-same at Inside m t u e = let z : ◌≡◌ {A = ℕ} 0 1 = cc in absurd (omega arith)
finished-same at Comment m t u e = let z : ◌≡◌ {A = ℕ} 0 1 = cc in absurd (omega arith)
finished-same at Return m t u e = let z : ◌≡◌ {A = ℕ} 0 1 = cc in absurd (omega arith)
finished-same at Ended m t u e = by (whole m t && leb 1 (length t.items)) e
  where
    by : (b : Bool) → pick b (on t) (refused 18 at) ≡ on u → t ≡ u
    by true f = cc
    by false f = let z : ◌≡◌ {A = ℕ} 0 1 = cc in absurd (omega arith)

-- each group begins somewhere
pub group-found : (text : List ℕ) (at : ℕ) (bs : List ℕ) (s : State) (t : Tables) → scanned text at bs s ≡ on t → (g : ℕ) → s.tables.groups ≤ g → g < t.groups → Byte (group_begins text at bs s g)
unfolding scanned group_begins
group-found text at [] s t e g h k = let z = ap (λ (u : Tables). u.groups) (finished-same at s.line s.mode s.tables t e) in absurd (omega arith)
group-found text at (b ∷ bs) s t e g h k = by (leb 32768 at) e (step text at b s.line s.mode s.tables) refl (λ u f l. group-found text (at + 1) bs u t f g l k)
  where
    turn : (u : State) → (u.tables.groups ≤ g → Byte (group_begins text (at + 1) bs u g)) → (c : Bool) → ltb g u.tables.groups ≡ c → Byte (pick c (part at (at + 1)) (group_begins text (at + 1) bs u g))
    turn u f true o = record { at = at; is = refl }
    turn u f false o = f (ltb-false g u.tables.groups o)

    by : (c : Bool) → pick c (refused 20 at) (step text at b s.line s.mode s.tables then scanned text (at + 1) bs) ≡ on t → (r : Run State) → step text at b s.line s.mode s.tables ≡ r
        → ((u : State) → scanned text (at + 1) bs u ≡ on t → u.tables.groups ≤ g → Byte (group_begins text (at + 1) bs u g))
        → Byte (part_from (step text at b s.line s.mode s.tables) (λ u. pick (ltb g u.tables.groups) (part at (at + 1)) (group_begins text (at + 1) bs u g)))
    by true f r d l = let z : ◌≡◌ {A = ℕ} 0 1 = cc in absurd (omega arith)
    by false f (refused n q) d l = let y : ◌≡◌ {A = Run Tables} (refused n q) (on t) = rw d at f in let z : ◌≡◌ {A = ℕ} 0 1 = cc in absurd (omega arith)
    by false f (on u) d l = rw d (turn u (λ o. l u (rw d at f) o) (ltb g u.tables.groups) refl)

-- ---- numbers that no table has

-- there are at most 128 nonterminals
pub nonterminal-beyond : (text : List ℕ) (i : ℕ) → 128 ≤ i → nonterminal_part text i ≡ no_part
unfolding nonterminal_part nonterminal_in
nonterminal-beyond text i h = by (scanned text 0 text start) refl
  where
    far : (t : Tables) → length t.names + t.groups ≤ 128 → nonterminal_in text i t ≡ no_part
    far t k = rw (le-ltb i (length t.names) (omega arith), le-ltb i (length t.names + t.groups) (omega arith))

    by : (r : Run Tables) → scanned text 0 text start ≡ r → part_of (scanned text 0 text start) (nonterminal_in text i) ≡ no_part
    by (on t) e = let k : Keeps 0 1 t = rw e at (text-kept text) in rw e (far t k.sides.names)
    by (refused n p) e = rw e

-- and at most 4,089 terminals, from 5 on
pub terminal-beyond : (text : List ℕ) (x : ℕ) → 4094 ≤ x → terminal_part text x ≡ no_part
unfolding terminal_part terminal_in
terminal-beyond text x h = by (scanned text 0 text start) refl
  where
    far : (t : Tables) → length t.literals ≤ 4089 → terminal_in text x t ≡ no_part
    far t k = rw (le-leb 5 x (omega arith), le-ltb (x - 5) (length t.literals) (omega arith))

    by : (r : Run Tables) → scanned text 0 text start ≡ r → part_of (scanned text 0 text start) (terminal_in text x) ≡ no_part
    by (on t) e = let k : Keeps 0 1 t = rw e at (text-kept text) in rw e (far t k.sides.literals)
    by (refused n p) e = rw e
