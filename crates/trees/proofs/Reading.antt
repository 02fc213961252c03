-- What is read of strings in words. Assumes nothing.
use Prim.Native.Nat.{ℕ, zero, suc, ◌+◌, ◌*◌, ◌^◌, ◌≤◌, ◌<◌}
use native.Mathlib.Omega.{arith}
use native.Mathlib.Numerals.{add-one}
use lib.Pow.{pow_mono}
use mathlib.Core.Path.{◌≡◌, refl, sym, ap, ap₂, ◌∙◌}
use mathlib.Core.Bool.{Bool, true, false}
use mathlib.Core.Logic.{◌↔◌, ⊎_elim}
use mathlib.Core.List.Memᴰ
use mathlib.Core.List.Memᴰ.{append_cases}
use mathlib.Core.List.Memᴰ.{eq_of_singleton as only}
use mathlib.Core.List.Memᴰ.{head as here}
use mathlib.Core.List.Memᴰ.{not-nil}
use mathlib.Core.List.{List, [], ◌∷◌, ◌++◌}
use lib.Dec.{lit<}
use lib.ListN.{length, get_or, take, set, length-set}
use lib.Seq.{get_or-set_same, get_or-set_other}
use native.Mathlib.Decide.{dec_lt}
use Rattle.cfg.specs.Grammar.{Word}
use Rattle.k_tuple.specs.Strings.{slots, count_field}
use Rattle.k_tuple.specs.Packed.{packed, cut_in, WellFormed, reads, number_of, terminals_in, stored_in}
use Rattle.k_tuple.specs.declared.Terminals.{Terminals}
use Rattle.k_tuple.proofs.Closed.{cut-reads}
use Rattle.k_tuples.proofs.Tests.{passed, fails}
use Rattle.k_tuple.specs.Strings.{terminals, cut, decode}
use lib.Dec.{eqb, eqb→eq, eqb_refl}
use Rattle.k_tuple.proofs.Held.{count-le, length-is}
use Rattle.k_tuple.proofs.Slots.{Small}
use Rattle.k_tuple.proofs.Round.{view}
use Rattle.k_tuples.specs.Sets.{◌∈◌}
use Rattle.k_tuples.specs.Words.{member_at}
use Rattle.decision_theory.specs.Automaton.{Entry}
use Rattle.decision_theory.proofs.Tree.{entry}
use Rattle.std.specs.Prelude.{Ok}
use Rattle.trees.specs.Listed.{Plain, Listed, Addable, word_at, production_at, entry_at, entries, code_at, Agrees, Appended, appended}

-- ---- strings

pub plain-well : {w : ℕ} (t : Terminals) → Plain w t → WellFormed t
plain-well {w} t p = record { width = w; str = slots p.word; is = p.is }

pub plain-stored : {w : ℕ} (t : Terminals) → Plain w t → stored_in (reads t) ≡ terminals_in (reads t)
plain-stored t p = ap stored_in p.is ∙ sym (ap terminals_in p.is)

pub listed-well : (ws : List ℕ) (n j : ℕ) → Listed ws n → j < n → WellFormed (member_at ws (3 * j))
listed-well ws n j h l = plain-well (member_at ws (3 * j)) (h.plain j l)

pub stored-word : (ws : List ℕ) (n j : ℕ) → Listed ws n → j < n → stored_in (reads (member_at ws (3 * j))) ≡ word_at ws j
unfolding word_at
stored-word ws n j h l = plain-stored (member_at ws (3 * j)) (h.plain j l)

-- No string has more than ten terminals.
pub word-short : (ws : List ℕ) (n j : ℕ) → Listed ws n → j < n → length (word_at ws j) ≤ 10
word-short ws n j h l =
    let t = member_at ws (3 * j) in
    let g = listed-well ws n j h l in
    let e : length (word_at ws j) ≡ count_field (number_of t) = ap length (sym (stored-word ws n j h l)) ∙ length-is t g (count_field (number_of t)) refl in
    let m = count-le t g (count_field (number_of t)) refl in
    omega arith

-- Nor a terminal over 4,095.
pub word_small : (ws : List ℕ) (n j : ℕ) → Listed ws n → j < n → (e : ℕ) → get_or (word_at ws j) e 0 < 4096
unfolding word_at
word_small ws n j h l e =
    let p = h.plain j l in
    let v = view (number_of (member_at ws (3 * j))) h.width (slots p.word) p.is in
    let x : terminals_in (reads (member_at ws (3 * j))) ≡ p.word = ap terminals_in p.is in
    rw x (by h.width v.fine.narrow p.word e v.fine.small)
  where
    by : (w : ℕ) → w ≤ 12 → (xs : List ℕ) (e : ℕ) → Small w xs → get_or xs e 0 < 4096
    by w h [] e s = omega arith
    by w h (x ∷ xs) zero s = let m : 2 ^ w ≤ 2 ^ 12 = pow_mono h in omega (arith, s.0, lit< {m = 2 ^ 12} {n = 4097} tt)
    by w h (x ∷ xs) (suc e) s = by w h xs e s.1

-- ---- letters

pub code-past : (w : Word) (e : ℕ) → length w ≤ e → 0 ≡ code_at w e
unfolding code_at
code-past [] e h = refl
code-past (t ∷ w) zero h = absurd (omega arith)
code-past (t ∷ w) (suc e) h = code-past w e (omega arith)

pub code_in : (w : Word) (e : ℕ) → e < length w → get_or w e 0 + 1 ≡ code_at w e
unfolding code_at
code_in [] e h = absurd (omega arith)
code_in (t ∷ w) zero h = omega arith
code_in (t ∷ w) (suc e) h = code_in w e (omega arith)

module _ (ws : List ℕ) (n j : ℕ) (h : Listed ws n) (l : j < n) (t : Terminals) (is : t ≡ member_at ws (3 * j)) where
  pub string-well : WellFormed t
  string-well = rw is (listed-well ws n j h l)

  pub string-word : stored_in (reads t) ≡ word_at ws j
  string-word = ap (λ (s : Terminals). stored_in (reads s)) is ∙ stored-word ws n j h l

  module _ (c : ℕ) (counted : c ≡ count_field (number_of t)) where
    pub string-count : length (word_at ws j) ≡ c
    string-count = ap length (sym string-word) ∙ length-is t string-well c counted

    pub letter-past : (e : ℕ) → c ≤ e → 0 ≡ code_at (word_at ws j) e
    letter-past e m = let q = string-count in code-past (word_at ws j) e (omega arith)

    pub letter-place : (e : ℕ) → e < c → e < 10
    letter-place e m = let q = count-le t string-well c counted in omega arith

    pub letter-in : (e s : ℕ) → e < c → s ≡ get_or (stored_in (reads t)) e 0 → suc s ≡ code_at (word_at ws j) e
    letter-in e s m g =
        let q = string-count in
        let r : s ≡ get_or (word_at ws j) e 0 = g ∙ ap (λ (v : Word). get_or v e 0) string-word in
        let z = code_in (word_at ws j) e (omega arith) in omega arith

    pub letter-small : (e s : ℕ) → s ≡ get_or (stored_in (reads t)) e 0 → s < 4096
    letter-small e s g =
        let z = word_small ws n j h l e in
        let r : s ≡ get_or (word_at ws j) e 0 = g ∙ ap (λ (v : Word). get_or v e 0) string-word in
        omega arith

-- ---- beginnings

cut-terminals : (d : ℕ) (u : Word) → terminals (cut d (slots u)) ≡ take d u
cut-terminals zero u = refl
cut-terminals (suc d) u = refl

cut-same : (d : ℕ) (u v : Word) → take d u ≡ take d v → cut d (slots u) ≡ cut d (slots v)
cut-same zero u v e = refl
cut-same (suc d) u v e = ap slots e

module _ (ws : List ℕ) (n : ℕ) (h : Listed ws n) (d : ℕ) where
  -- The first terminals of a string.
  cut_word : (i : ℕ) → i < n → terminals_in (reads (cut_in d (reads (member_at ws (3 * i))))) ≡ take d (word_at ws i)
  unfolding word_at listed-well plain-well
  cut_word i l =
      let p = h.plain i l in
      ap terminals_in (cut-reads (member_at ws (3 * i)) (listed-well ws n i h l) d)
      ∙ cut-terminals d p.word
      ∙ ap (take d) (sym (ap terminals_in p.is))

  cut-packed : (i j : ℕ) → i < n → j < n → take d (word_at ws i) ≡ take d (word_at ws j) → cut_in d (reads (member_at ws (3 * i))) ≡ cut_in d (reads (member_at ws (3 * j)))
  unfolding word_at
  cut-packed i j k l e =
      let p = h.plain i k in
      let q = h.plain j l in
      let f : take d p.word ≡ take d q.word = ap (take d) (sym (ap terminals_in p.is)) ∙ e ∙ ap (take d) (ap terminals_in q.is) in
      ap (cut_in d) p.is ∙ ap (packed h.width) (cut-same d p.word q.word f) ∙ sym (ap (cut_in d) q.is)

  module _ (i j : ℕ) (k : i < n) (l : j < n) (s t x y : Terminals) (is : s ≡ member_at ws (3 * i)) (it : t ≡ member_at ws (3 * j)) (cx : x ≡ cut_in d (reads s)) (cy : y ≡ cut_in d (reads t)) (r : Bool) (test : r ≡ eqb (number_of x) (number_of y)) where
    first : x ≡ cut_in d (reads (member_at ws (3 * i)))
    first = cx ∙ ap (λ (s : Terminals). cut_in d (reads s)) is

    second : y ≡ cut_in d (reads (member_at ws (3 * j)))
    second = cy ∙ ap (λ (s : Terminals). cut_in d (reads s)) it

    pub same-starts : Agrees d (word_at ws i) (word_at ws j) r
    same-starts = record {
      yes = λ (e : r ≡ true).
          let q : number_of x ≡ number_of y = eqb→eq (number_of x) (number_of y) (passed (sym test ∙ e)) in
          sym (cut_word i k) ∙ ap (λ (s : Terminals). terminals_in (reads s)) (sym first) ∙ ap (λ (v : ℕ). terminals_in (decode v)) q ∙ ap (λ (s : Terminals). terminals_in (reads s)) second ∙ cut_word j l;
      no = λ (e : r ≡ false) (q : take d (word_at ws i) ≡ take d (word_at ws j)).
          let z : x ≡ y = first ∙ cut-packed i j k l q ∙ sym second in
          fails (sym test ∙ e) (rw z (eqb_refl (number_of y)));
    }

-- ---- the entries

pub entries-mean : (ws : List ℕ) (n : ℕ) (e : Entry) → e ∈ entries ws n ↔ ((j : ℕ) × (j < n) × (e ≡ entry_at ws j))
unfolding entries
entries-mean ws zero e = (λ m. absurd (not-nil m), λ p. absurd (omega (arith, p.1)))
entries-mean ws (suc n) e = (
  λ m. ⊎_elim (λ i. let (j, h, q) = (entries-mean ws n e).0 i in (j, omega arith, q)) (λ i. (n, omega arith, only i)) (append_cases (entries ws n) m),
  λ (j, h, q). by j (dec_lt j n) (entries-mean ws n e).1 h q,
)
  where
    by : (j : ℕ) → Dec (j < n) → (((j : ℕ) × (j < n) × (e ≡ entry_at ws j)) → e ∈ entries ws n) → j < suc n → e ≡ entry_at ws j → e ∈ (entries ws n ++ entry_at ws n ∷ [])
    by j (yes l) rest h q = Memᴰ.append_left (entry_at ws n ∷ []) (rest (j, l, q))
    by j (no l) rest h q = let s : j ≡ n = omega arith in Memᴰ.append_right (entries ws n) (here (q ∙ ap (entry_at ws) s))

-- Words that agree hold the same.
pub entries-same : (ws vs : List ℕ) (n : ℕ) → ((i : ℕ) → i < 3 * n → get_or ws i 0 ≡ get_or vs i 0) → entries ws n ≡ entries vs n
unfolding entries word_at production_at
entries-same ws vs zero h = refl
entries-same ws vs (suc n) h =
    rw (entries-same ws vs n (λ i l. h i (omega arith)), h (3 * n) (omega arith), h (3 * n + 1) (omega arith), h (3 * n + 2) (omega arith))

-- ---- one more

module _ (ws : List ℕ) (n : ℕ) (t : Terminals) (p : ℕ) (can : Addable ws n t p) (few : n < 2048) where
  -- the words with one more
  abbrev vs : List ℕ
  vs = set (set (set ws (3 * n) t.lo) (3 * n + 1) t.hi) (3 * n + 2) p

  before : (i : ℕ) → i < 3 * n → get_or vs i 0 ≡ get_or ws i 0
  before i l =
      get_or-set_other (set (set ws (3 * n) t.lo) (3 * n + 1) t.hi) (3 * n + 2) i p 0 (λ e. omega arith)
      ∙ get_or-set_other (set ws (3 * n) t.lo) (3 * n + 1) i t.hi 0 (λ e. omega arith)
      ∙ get_or-set_other ws (3 * n) i t.lo 0 (λ e. omega arith)

  low : get_or vs (3 * n) 0 ≡ t.lo
  low =
      get_or-set_other (set (set ws (3 * n) t.lo) (3 * n + 1) t.hi) (3 * n + 2) (3 * n) p 0 (λ e. omega arith)
      ∙ get_or-set_other (set ws (3 * n) t.lo) (3 * n + 1) (3 * n) t.hi 0 (λ e. omega arith)
      ∙ get_or-set_same ws (3 * n) t.lo 0 (let room = can.room in omega arith)

  high : get_or vs (3 * n + 1) 0 ≡ t.hi
  high =
      get_or-set_other (set (set ws (3 * n) t.lo) (3 * n + 1) t.hi) (3 * n + 2) (3 * n + 1) p 0 (λ e. omega arith)
      ∙ get_or-set_same (set ws (3 * n) t.lo) (3 * n + 1) t.hi 0 (rw length-set (let room = can.room in omega arith))

  third : get_or vs (3 * n + 2) 0 ≡ p
  third = get_or-set_same (set (set ws (3 * n) t.lo) (3 * n + 1) t.hi) (3 * n + 2) p 0 (simp length-set (let room = can.room in omega arith))

  string-is : member_at vs (3 * n) ≡ t
  string-is = rw (low, high)

  vs-length : length vs ≡ length ws
  vs-length = simp length-set

  more-listed : (h : Listed ws n) → Plain h.width t → Listed vs (n + 1)
  more-listed h plain = record {
    width = h.width;
    room = rw vs-length (let room = can.room in omega arith);
    plain = λ j l. by j l (dec_lt j n);
    small = λ j l. small_by j l (dec_lt j n);
  }
    where
      by : (j : ℕ) → j < n + 1 → Dec (j < n) → Plain h.width (member_at vs (3 * j))
      by j l (yes m) = rw (before (3 * j) (omega arith), before (3 * j + 1) (omega arith)) (h.plain j m)
      by j l (no m) = let e : j ≡ n = omega arith in rw (e, string-is) plain

      small_by : (j : ℕ) → j < n + 1 → Dec (j < n) → get_or vs (3 * j + 2) 0 < 16383
      small_by j l (yes m) = rw (before (3 * j + 2) (omega arith)) (h.small j m)
      small_by j l (no m) = let e : j ≡ n = omega arith in rw (e, third) can.small

  more-entries : entries vs (n + 1) ≡ entries ws n ++ entry (terminals_in (reads t)) p ∷ []
  unfolding entries word_at production_at
  more-entries =
      ap (entries vs) (add-one n)
      ∙ (ap₂ (λ (l : List Entry) (e : Entry). l ++ e ∷ []) (entries-same vs ws n before)
      (ap₂ entry (ap (λ (s : Terminals). terminals_in (reads s)) string-is) third))

  pub added : Appended n t p ws vs (Ok (n + 1))
  unfolding more-listed
  added = appended refl few (λ l plain. (more-listed l plain, refl)) vs-length more-entries
