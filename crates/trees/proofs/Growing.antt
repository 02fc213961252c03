-- The queue of prefixes grows to all of them. Assumes nothing.
use Prim.Native.Nat.{ℕ, suc, ◌+◌, ◌*◌, ◌/◌, ◌%◌, ◌≤◌, ◌<◌}
use native.Mathlib.Omega.{arith}
use native.Mathlib.Numerals.{add-one}
use native.Mathlib.Decide.{dec_lt}
use mathlib.Core.Path.{◌≡◌, refl, sym, ap, ap₂, ◌∙◌}
use mathlib.Core.List.{List, [], ◌∷◌, ◌++◌, map-append, append_assoc, append-nil}
use lib.ListN.{length, get_or, take, set, length-set, length-append}
use lib.Seq.{length-take-le, take_at, take-suc-set, take-set-le, get_or-set_same, get_or-set_other}
use Rattle.cfg.specs.Grammar.{Word}
use Rattle.k_tuples.specs.Sets.{◌∈◌}
use Rattle.decision_theory.specs.Automaton.{Entry, along}
use Rattle.decision_theory.specs.Steps.{at_least}
use Rattle.decision_theory.proofs.Tree.{entry, letters-rising}
use Rattle.decision_theory.proofs.Steps.{least-all, least-none, least-next}
use Rattle.decision_theory.proofs.Prefixes.{goes_on}
use Rattle.std.specs.Prelude.{Ok, Err}
use Rattle.refusals.specs.declared.Refusal.TheVariants.{TooManyStates}
use Rattle.trees.specs.Listed.{Listed, word_at, production_at, entries}
use Rattle.trees.specs.Queue.{prefix_of, prefixes_in, State, Deep, Starts, Looked, nothing, found, letters_at, longer_by, Grows, over, grows}
use Rattle.trees.proofs.Reading.{word-short, entries-mean}

-- ---- letters

module _ (ws : List ℕ) (n : ℕ) (x : Word) where
  -- A terminal by which a string goes on is one by which the prefix does.
  letter-of : (p t : ℕ) → p < n → Starts x t (word_at ws p) → t ∈ letters_at ws n x
  letter-of p t h (u, s) = (goes_on (entries ws n) x t).1 (u, production_at ws p, (entries-mean ws n (entry (x ++ t ∷ u) (production_at ws p))).1 (p, h, ap (λ (w : Word). entry w (production_at ws p)) (sym s)))

  -- And some string goes on by each.
  string-of : (t : ℕ) → t ∈ letters_at ws n x → (p : ℕ) × (p < n) × Starts x t (word_at ws p)
  string-of t m =
      let (u, i, k) = (goes_on (entries ws n) x t).0 m in
      let (p, h, e) = (entries-mean ws n (entry (x ++ t ∷ u) i)).0 k in
      (p, h, (u, sym (ap (λ (e : Entry). e.word) e)))

  -- Where nothing was found, no terminal is left.
  none_left : (f : ℕ) → ((p t : ℕ) → p < n → Starts x t (word_at ws p) → t < f) → at_least f (letters_at ws n x) ≡ []
  none_left f none = least-none f (letters_at ws n x) (λ u m. let (p, h, s) = string-of u m in none p u h s)

  -- What was found comes next.
  next-is : (f t q : ℕ) → q < n → Starts x t (word_at ws q) → f ≤ t → ((p u : ℕ) → p < n → Starts x u (word_at ws p) → f ≤ u → t ≤ u) → at_least f (letters_at ws n x) ≡ t ∷ at_least (suc t) (letters_at ws n x)
  next-is f t q h s l low =
      least-next f t (letters_at ws n x) (letters-rising (along x (entries ws n))) (letter-of q t h s) l
      (λ u m g. let (p, i, o) = string-of u m in low p u i o g)

-- ---- a longer prefix as a state

module _ (ws : List ℕ) (n v q t : ℕ) (listed : Listed ws n) (state : State ws n v) (h : q < n) (starts : Starts (prefix_of ws v) t (word_at ws q)) where
  -- the new state
  abbrev a : ℕ
  a = 16 * q + v % 16 + 1

  short : v % 16 ≤ 10
  short = let i = state.inside (omega arith) in let s = word-short ws n (v / 16) listed i in let l = state.long in omega arith

  pub low_part : a % 16 ≡ v % 16 + 1
  low_part = let s = short in omega arith

  pub high_part : a / 16 ≡ q
  high_part = let s = short in omega arith

  pub x-length : length (prefix_of ws v) ≡ v % 16
  unfolding prefix_of
  x-length = length-take-le (v % 16) (word_at ws (v / 16)) state.long

  -- Its prefix is longer by t.
  pub longer-is : prefix_of ws a ≡ prefix_of ws v ++ t ∷ []
  unfolding prefix_of
  longer-is =
      let x = prefix_of ws v in
      let l : length (x ++ t ∷ []) ≡ v % 16 + 1 = length-append x (t ∷ []) ∙ ap (λ (k : ℕ). k + 1) x-length in
      ap₂ (λ (d i : ℕ). take d (word_at ws i)) low_part high_part
      ∙ ap (take (v % 16 + 1)) (starts.1 ∙ sym (append_assoc x (t ∷ []) starts.0))
      ∙ take_at (x ++ t ∷ []) starts.0 (v % 16 + 1) l

  pub longer-deep : Deep ws n a
  longer-deep = record {
    inside = rw high_part h;
    some = rw low_part (omega arith);
    long = rw (low_part, high_part) (let e = ap length starts.1 ∙ length-append (prefix_of ws v) (t ∷ starts.0) in let k = x-length in omega arith);
  }

-- ---- the states behind one state

pub record Growing (ws : List ℕ) (n v m f : ℕ) (before now : List ℕ) (end : ℕ) : Type 0 where
  pub low : m ≤ end
  pub most : end ≤ 2048
  pub same_length : length now ≡ length before
  pub front : take m now ≡ take m before
  pub come : prefixes_in ws (take end now) ++ longer_by (prefix_of ws v) (at_least f (letters_at ws n (prefix_of ws v))) ≡ prefixes_in ws (take m before) ++ longer_by (prefix_of ws v) (letters_at ws n (prefix_of ws v))
  pub count : end + length (at_least f (letters_at ws n (prefix_of ws v))) ≡ m + length (letters_at ws n (prefix_of ws v))
  pub deep : (q : ℕ) → m ≤ q → q < end → Deep ws n (get_or now q 0)

module _ (ws : List ℕ) (n v m : ℕ) where
  pub grow-start : (before : List ℕ) → m ≤ 2048 → Growing ws n v m 0 before before m
  grow-start before h =
      let e = least-all (letters_at ws n (prefix_of ws v)) in
      record {
        low = omega arith;
        most = h;
        same_length = refl;
        front = refl;
        come = rw e;
        count = rw e;
        deep = λ q l g. absurd (omega arith);
      }

  module _ (f end : ℕ) (before now : List ℕ) (g : Growing ws n v m f before now end) (l q : ℕ) (looked : Looked ws (prefix_of ws v) f n l q) where
    pub grow-end : l ≡ 0 → Grows ws n v m before now (Ok end)
    grow-end z = by looked
      where
        by : Looked ws (prefix_of ws v) f n l q → Grows ws n v m before now (Ok end)
        by (nothing y none) =
            let e = none_left ws n (prefix_of ws v) f none in
            grows end refl g.most g.same_length (sym (let k = rw e at g.count in omega arith)) g.front
            (sym (append-nil (prefixes_in ws (take end now))) ∙ rw e at g.come) g.deep
        by (found t y i s k low) = absurd (omega arith)

    pub grow-over : (l ≡ 0 → ⊥) → 2048 ≤ end → Grows ws n v m before now (Err TooManyStates)
    grow-over z h = by looked
      where
        by : Looked ws (prefix_of ws v) f n l q → Grows ws n v m before now (Err TooManyStates)
        by (nothing y none) = absurd (z y)
        by (found t y i s k low) =
            let e = next-is ws n (prefix_of ws v) f t q i s k low in
            over refl (let k = rw e at g.count in omega arith) g.same_length

    pub grow-turn : Listed ws n → State ws n v → 2048 ≤ length before → (l ≡ 0 → ⊥) → end < 2048 → Growing ws n v m l before (set now end (16 * q + v % 16 + 1)) (end + 1)
    grow-turn listed state room z h = by looked
      where
        by : Looked ws (prefix_of ws v) f n l q → Growing ws n v m l before (set now end (16 * q + v % 16 + 1)) (end + 1)
        by (nothing y none) = absurd (z y)
        by (found t y i s k low) =
            let e = next-is ws n (prefix_of ws v) f t q i s k low in
            let x = prefix_of ws v in
            let inside : end < length now = let w = g.same_length in omega arith in
            let b = g.low in
            record {
              low = omega arith;
              most = omega arith;
              same_length = length-set now end (a ws n v q t listed state i s) ∙ g.same_length;
              front = take-set-le m now end (a ws n v q t listed state i s) g.low ∙ g.front;
              come = rw (add-one, y) (
                  ap (λ (L : List ℕ). prefixes_in ws L ++ longer_by x (at_least (suc t) (letters_at ws n x))) (take-suc-set now end (a ws n v q t listed state i s) inside)
                  ∙ ap (λ (L : List Word). L ++ longer_by x (at_least (suc t) (letters_at ws n x))) (map-append (prefix_of ws) (take end now) (a ws n v q t listed state i s ∷ []) ∙ ap (λ (w : Word). prefixes_in ws (take end now) ++ w ∷ []) (longer-is ws n v q t listed state i s))
                  ∙ append_assoc (prefixes_in ws (take end now)) ((x ++ t ∷ []) ∷ []) (longer_by x (at_least (suc t) (letters_at ws n x)))
                  ∙ (rw e at g.come));
              count = rw y (let k = rw e at g.count in omega arith);
              deep = λ p c d. at p c d (dec_lt p end);
            }
          where
            at : (p : ℕ) → m ≤ p → p < end + 1 → Dec (p < end) → Deep ws n (get_or (set now end (16 * q + v % 16 + 1)) p 0)
            at p c d (yes o) = rw (get_or-set_other now end p (16 * q + v % 16 + 1) 0 (λ e. omega arith)) (g.deep p c o)
            at p c d (no o) =
                let e : p ≡ end = omega arith in
                let inside : end < length now = let w = g.same_length in omega arith in
                rw (e, get_or-set_same now end (16 * q + v % 16 + 1) 0 inside) (longer-deep ws n v q t listed state i s)

    -- A string that was found is one of them.
    pub grow-string : (l ≡ 0 → ⊥) → q < n
    grow-string z = by looked
      where
        by : Looked ws (prefix_of ws v) f n l q → q < n
        by (nothing y none) = absurd (z y)
        by (found t y i s k low) = i
