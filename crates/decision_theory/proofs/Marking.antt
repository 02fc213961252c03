-- The mark of a prediction table is the one that the rules give, and there is one. Assumes nothing.
use Prim.Native.Nat.{ℕ, zero, suc, ◌+◌, ◌≤◌, ◌<◌}
use native.Mathlib.Omega.{arith}
use native.Mathlib.Decide.{dec_lt}
use mathlib.Core.Path.{◌≡◌, refl, sym, ap, ap₂, ◌∙◌, subst}
use mathlib.Core.Bool.{Bool, true, false, cond, not, ◌&&◌, ◌||◌}
use mathlib.Core.Logic.{◌↔◌, ◌⊎◌, inl, inr, ⊎_elim}
use mathlib.Core.List.Memᴰ
use mathlib.Core.List.Memᴰ.{append_cases}
use mathlib.Core.List.Memᴰ.{eq_of_singleton as only}
use mathlib.Core.List.Memᴰ.{head as here}
use mathlib.Core.List.Memᴰ.{not-nil}
use mathlib.Core.List.Memᴰ.{tail as there}
use mathlib.Core.List.{List, [], ◌∷◌, ◌++◌, map, append_assoc, append-nil}
use lib.Dec.{T, eqb, compare_is_eq, eqb→eq, eqb_refl}
use lib.ListN.{length, get_or, length-append, get_or-append}
use lib.Seq.{get_or-append_seam}
use Rattle.cfg.specs.Grammar.{Word, Grammar}
use Rattle.k_tuple.specs.Strings.{Str, eps}
use Rattle.k_tuple.specs.Order.{cmp, ◌≺◌}
use Rattle.k_tuple.proofs.Order.{cmp-same, cmp-refl, cmp-trans, ≺-irrefl, more}
use Rattle.k_tuples.specs.Sets.{◌∈◌, Sorted, member}
use Rattle.k_tuples.specs.States.{Each}
use Rattle.k_tuples.proofs.Sets.{mem-member, mem-union, union-sorted}
use Rattle.k_tuples.proofs.Sorted.{cases}
use Rattle.k_tuples.proofs.Tests.{passed, fails, unpassed, and_left, and_right, and_both, or_left, or_right, or_cases}
use Rattle.first_theory.specs.Compute.{str}
use Rattle.decision_theory.specs.Needed.{Of, Ahead, Serves, own, Choice, ChoiceIs, Decided, RightFor, right-one, right-several}
use Rattle.decision_theory.specs.Marking.{Row, Wanted, Earlier, row_at, AllGiven, Bad, FirstBad, FirstMissing, Mark, accepted, bad-row, missing, Marked, all-given, first-bad, first-missing, strings_of, production_for, row_for, wanted_rows, rows_from, wanted_from, same_row, has, check_rows, first_absent, mark_rows}
use Rattle.decision_theory.proofs.Lists.{at_place, place_of}
use Rattle.decision_theory.proofs.Needed.{own-means, choice-of, production-of, needs-one}
use Rattle.decision_theory.proofs.Automaton.{AllRight}

-- ---- rows

-- A row by its three parts.
abbrev pub row : ℕ → Str → ℕ → Row
row A z i = record { nonterminal = A; string = z; production = i }

-- What stands past the end.
abbrev no_row : Row
no_row = row 0 eps 0

-- Rows with the same three parts are the same.
pub row_same : (r s : Row) → r.nonterminal ≡ s.nonterminal → r.string ≡ s.string → r.production ≡ s.production → r ≡ s
row_same r s a b c =
    ap (λ (n : ℕ). row n r.string r.production) a ∙ ap (λ (z : Str). row s.nonterminal z r.production) b ∙ ap (row s.nonterminal s.string) c

-- The test of strings.
same-string : (x y : Str) → T (compare_is_eq (cmp x y)) → x ≡ y
same-string x y t = by (cmp x y) refl t
  where
    by : (o : Prim.Native.Nat.Ordering) → cmp x y ≡ o → T (compare_is_eq o) → x ≡ y
    by Prim.Native.Nat.Ordering.lt e t = absurd t
    by Prim.Native.Nat.Ordering.eq e t = cmp-same x y e
    by Prim.Native.Nat.Ordering.gt e t = absurd t

-- The test of rows.
same_row_lem : (r s : Row) → T (same_row r s) ↔ (r ≡ s)
same_row_lem r s = (
  λ t.
      let rest = and_right (eqb r.nonterminal s.nonterminal) (compare_is_eq (cmp r.string s.string) && eqb r.production s.production) t in
      row_same r s (eqb→eq r.nonterminal s.nonterminal (and_left (eqb r.nonterminal s.nonterminal) (compare_is_eq (cmp r.string s.string) && eqb r.production s.production) t))
      (same-string r.string s.string (and_left (compare_is_eq (cmp r.string s.string)) (eqb r.production s.production) rest))
      (eqb→eq r.production s.production (and_right (compare_is_eq (cmp r.string s.string)) (eqb r.production s.production) rest)),
  λ (e : r ≡ s). rw e (and_both (eqb s.nonterminal s.nonterminal) (compare_is_eq (cmp s.string s.string) && eqb s.production s.production) (eqb_refl s.nonterminal)
      (and_both (compare_is_eq (cmp s.string s.string)) (eqb s.production s.production) (rw (cmp-refl s.string) tt) (eqb_refl s.production))),
)

-- The test of membership.
has-means : (r : Row) (rows : List Row) → T (has r rows) ↔ r ∈ rows
unfolding has
has-means r [] = (λ t. absurd t, λ m. absurd (not-nil m))
has-means r (s ∷ rows) = by (has-means r rows) (same_row_lem r s)
  where
    by : T (has r rows) ↔ r ∈ rows → T (same_row r s) ↔ (r ≡ s) → T (same_row r s || has r rows) ↔ r ∈ (s ∷ rows)
    by rest first = (
      λ t. ⊎_elim (λ u. here (first.0 u)) (λ u. there (rest.0 u)) (or_cases (same_row r s) (has r rows) t),
      λ m. cases m (λ e. or_left (same_row r s) (has r rows) (first.1 e)) (λ n. or_right (same_row r s) (has r rows) (rest.1 n)),
    )

-- ---- the wanted rows

-- The strings of some choices are those of their sets.
strings-mean : (xs : List Choice) (z : Str) → z ∈ strings_of xs ↔ ((x : Choice) × (x ∈ xs) × (z ∈ x.ahead))
unfolding strings_of
strings-mean [] z = (λ m. absurd (not-nil m), λ p. absurd (not-nil p.1))
strings-mean (x ∷ xs) z = (
  λ m. ⊎_elim (λ n. let (y, i, j) = (strings-mean xs z).0 n in (y, there i, j)) (λ n. (x, here refl, n)) ((mem-union z (strings_of xs) x.ahead).0 m),
  λ (y, m, n). (mem-union z (strings_of xs) x.ahead).1 (cases m (λ (f : y ≡ x). inr (subst (λ (c : Choice). z ∈ c.ahead) f n)) (λ i. inl ((strings-mean xs z).1 (y, i, n)))),
)

-- They are in order.
strings-sorted : (xs : List Choice) → Sorted (strings_of xs)
unfolding strings_of
strings-sorted [] = tt
strings-sorted (x ∷ xs) = union-sorted (strings_of xs) x.ahead (strings-sorted xs)

-- The production found for one of them is that of a set that holds it.
production-found : (z : Str) (xs : List Choice) → z ∈ strings_of xs → (x : Choice) × (x ∈ xs) × (z ∈ x.ahead) × (production_for z xs ≡ x.production)
unfolding production_for
production-found z [] m = let p = (strings-mean [] z).0 m in absurd (not-nil p.1)
production-found z (x ∷ xs) m = by (member z x.ahead) refl (production-found z xs)
  where
    by : (b : Bool) → member z x.ahead ≡ b → (z ∈ strings_of xs → (y : Choice) × (y ∈ xs) × (z ∈ y.ahead) × (production_for z xs ≡ y.production))
        → (y : Choice) × (y ∈ (x ∷ xs)) × (z ∈ y.ahead) × (cond b x.production (production_for z xs) ≡ y.production)
    by true e rest = (x, here refl, (mem-member z x.ahead).0 (passed e), refl)
    by false e rest =
        let (y, i, j) = (strings-mean (x ∷ xs) z).0 m in
        let n : z ∈ strings_of xs = cases i (λ (f : y ≡ x). absurd (fails e ((mem-member z x.ahead).1 (subst (λ (c : Choice). z ∈ c.ahead) f j)))) (λ l. (strings-mean xs z).1 (y, l, j)) in
        let (u, l, o, q) = rest n in
        (u, there l, o, q)

module _ (g : Grammar) (A : ℕ) where
  -- The row is one of A's, at k.
  pub record WantedAt (k : ℕ) (r : Row) : Type 0 where
    pub of : r.nonterminal ≡ A
    pub own : Of g A r.production
    pub word : Word
    pub spelled : r.string ≡ str word
    pub ahead : Ahead g k r.production word

  -- The rows worked out for a nonterminal with several productions.
  pub several-rows : (k : ℕ) → 1 ≤ k → (xs : List Choice) → Each (ChoiceIs g k) (own g A) xs → Serves g k A → (r : Row) → r ∈ wanted_rows A (record { k = k; choices = xs }) ↔ WantedAt k r
  unfolding wanted_rows
  several-rows k k>0 xs all s r = rw (unpassed (eqb k 0) (λ t. omega (arith, eqb→eq k 0 t))) (
    λ m.
        let (z, n, e) = Memᴰ.of_map (row_for A xs) (strings_of xs) m in
        let (x, i, j, q) = production-found z xs n in
        let (l, o, is) = production-of g k all x i in
        let (w, spelled) = is.set.words z j in
        subst (WantedAt k) e (record {
          of = refl;
          own = rw (q ∙ is.number) ((own-means g A l).0 o);
          word = w;
          spelled = spelled;
          ahead = rw (q ∙ is.number) ((is.set.has w).0 (Memᴰ.cast (sym spelled) j));
        }),
    λ h.
        let (x, i, is) = choice-of g k all r.production ((own-means g A r.production).1 h.own) in
        let j : r.string ∈ x.ahead = Memᴰ.cast h.spelled ((is.set.has h.word).1 h.ahead) in
        let n : r.string ∈ strings_of xs = (strings-mean xs r.string).1 (x, i, j) in
        let (y, l, o, q) = production-found r.string xs n in
        let (p, u, are) = production-of g k all y l in
        let same : r.production ≡ p =
        s r.production p h.own ((own-means g A p).0 u) h.word h.ahead ((are.set.has h.word).0 (Memᴰ.cast (sym h.spelled) o)) in
        Memᴰ.cast (row_same r (row_for A xs r.string) h.of refl (same ∙ sym are.number ∙ sym q)) (Memᴰ.map (row_for A xs) n),
  )

-- What stands past the end of what was decided.
abbrev pub undecided : Decided
undecided = record { k = 0; choices = [] }

-- A row of some nonterminal's.
pub rows-from : (rows_of : ℕ → Decided → List Row) (A : ℕ) (ds : List Decided) (r : Row) → r ∈ rows_from rows_of A ds ↔ ((j : ℕ) × (j < length ds) × (r ∈ rows_of (A + j) (get_or ds j undecided)))
unfolding rows_from
rows-from rows_of A [] r = (λ m. absurd (not-nil m), λ p. absurd (omega (arith, p.1)))
rows-from rows_of A (d ∷ ds) r = by (rows-from rows_of (suc A) ds r)
  where
    by : r ∈ rows_from rows_of (suc A) ds ↔ ((j : ℕ) × (j < length ds) × (r ∈ rows_of (suc A + j) (get_or ds j undecided)))
        → r ∈ (rows_of A d ++ rows_from rows_of (suc A) ds) ↔ ((j : ℕ) × (j < length (d ∷ ds)) × (r ∈ rows_of (A + j) (get_or (d ∷ ds) j undecided)))
    by rest = (
      λ m. ⊎_elim (λ n. (0, omega arith, let z : A + 0 ≡ A = omega arith in rw z n)) (λ n. let (j, h, i) = rest.0 n in (suc j, omega arith, let z : A + suc j ≡ suc A + j = omega arith in rw z i)) (append_cases (rows_of A d) m),
      λ (j, h, n). back j h n,
    )
      where
        back : (j : ℕ) → j < suc (length ds) → r ∈ rows_of (A + j) (get_or (d ∷ ds) j undecided) → r ∈ (rows_of A d ++ rows_from rows_of (suc A) ds)
        back zero h n = Memᴰ.append_left (rows_from rows_of (suc A) ds) (let z : A + 0 ≡ A = omega arith in rw z at n)
        back (suc j) h n = Memᴰ.append_right (rows_of A d) (rest.1 (j, omega arith, let z : A + suc j ≡ suc A + j = omega arith in rw z at n))

module _ (g : Grammar) (ds : List Decided) (all : AllRight g ds) where
  -- A row worked out for A is wanted.
  from_row : (A : ℕ) (d : Decided) → A < g.n → RightFor g A d → (r : Row) → r ∈ wanted_rows A d → Wanted g r
  unfolding wanted_rows
  from_row A d h (right-one o one) r m = absurd (not-nil m)
  from_row A d h (right-several {k = k} {xs = xs} n k>0 each s needs) r m =
      let w = (several-rows g A k k>0 xs each s r).0 m in
      record {
        inside = rw w.of h;
        several = rw w.of n;
        own = rw w.of w.own;
        k = k;
        needs = rw w.of needs;
        word = w.word;
        spelled = w.spelled;
        ahead = w.ahead;
      }

  -- A row wanted for A is worked out.
  to_row : (A : ℕ) (d : Decided) → RightFor g A d → (r : Row) → r.nonterminal ≡ A → Wanted g r → r ∈ wanted_rows A d
  to_row A d (right-one o one) r e w = absurd (w.several (rw e one))
  to_row A d (right-several {k = k} {xs = xs} n k>0 each s needs) r e w =
      let same : w.k ≡ k = needs-one g A (rw e at w.needs) needs in
      (several-rows g A k k>0 xs each s r).1 (record { of = e; own = rw e at w.own; word = w.word; spelled = w.spelled; ahead = subst (λ (j : ℕ). Ahead g j r.production w.word) same w.ahead })

  -- The rows worked out are those wanted.
  pub wanted-means : (r : Row) → r ∈ wanted_from 0 ds ↔ Wanted g r
  wanted-means r = (
    λ m.
        let (j, h, n) = (rows-from wanted_rows 0 ds r).0 m in
        let z : 0 + j ≡ j = omega arith in
        let l : j < g.n = rw all.one_each at h in
        from_row j (get_or ds j undecided) l (all.right j undecided l) r (rw z at n),
    λ w.
        let z : 0 + r.nonterminal ≡ r.nonterminal = omega arith in
        (rows-from wanted_rows 0 ds r).1 (r.nonterminal, rw all.one_each w.inside, rw z (to_row r.nonterminal (get_or ds r.nonterminal undecided) (all.right r.nonterminal undecided w.inside) r refl w)),
  )

-- ---- their order

-- Each row is earlier than those after it.
abbrev InTurn : List Row → Type 0
InTurn [] = Unit {0}
InTurn (r ∷ W) = ((s : Row) → s ∈ W → Earlier r s) × InTurn W

-- Two lists in order, the first before the second.
turn-append : (L M : List Row) → InTurn L → InTurn M → ((r s : Row) → r ∈ L → s ∈ M → Earlier r s) → InTurn (L ++ M)
turn-append [] M p q h = q
turn-append (r ∷ L) M p q h = (λ s m. ⊎_elim (p.0 s) (h r s (here refl)) (append_cases L m), turn-append L M p.1 q (λ s t m n. h s t (there m) n))

-- Rows of strings in order.
strings-turn : (A : ℕ) (xs : List Choice) (a : List Str) → Sorted a → InTurn (map (row_for A xs) a)
strings-turn A xs [] h = tt
strings-turn A xs (z ∷ a) h = (
  λ s m. let (y, n, e) = Memᴰ.of_map (row_for A xs) a m in inr (ap (λ (r : Row). r.nonterminal) e, subst (λ (u : Str). z ≺ u) (ap (λ (r : Row). r.string) e) (h.0 y n)),
  strings-turn A xs a h.1,
)

-- The rows wanted for A are in order.
rows-turn : (A : ℕ) (d : Decided) → InTurn (wanted_rows A d)
unfolding wanted_rows
rows-turn A d = by (eqb d.k 0)
  where
    by : (b : Bool) → InTurn (cond b [] (map (row_for A d.choices) (strings_of d.choices)))
    by true = tt
    by false = strings-turn A d.choices (strings_of d.choices) (strings-sorted d.choices)

-- They are A's.
rows-of : (A : ℕ) (d : Decided) (r : Row) → r ∈ wanted_rows A d → r.nonterminal ≡ A
unfolding wanted_rows
rows-of A d r m = by (eqb d.k 0) m
  where
    by : (b : Bool) → r ∈ cond b [] (map (row_for A d.choices) (strings_of d.choices)) → r.nonterminal ≡ A
    by true m = absurd (not-nil m)
    by false m = let (y, n, e) = Memᴰ.of_map (row_for A d.choices) (strings_of d.choices) m in ap (λ (r : Row). r.nonterminal) (sym e)

-- All wanted rows are in order.
all-turn : (A : ℕ) (ds : List Decided) → InTurn (wanted_from A ds)
unfolding rows_from
all-turn A [] = tt
all-turn A (d ∷ ds) =
    turn-append (wanted_rows A d) (wanted_from (suc A) ds) (rows-turn A d) (all-turn (suc A) ds)
    (λ r s m n.
    let e = rows-of A d r m in
    let (j, h, i) = (rows-from wanted_rows (suc A) ds s).0 n in
    let f = rows-of (suc A + j) (get_or ds j undecided) s i in
    inl (omega arith))

-- Of two rows not both are earlier.
not_earlier : (r s : Row) → Earlier r s → Earlier s r → ⊥
not_earlier r s (inl a) (inl b) = omega arith
not_earlier r s (inl a) (inr b) = let e = b.0 in omega arith
not_earlier r s (inr a) (inl b) = let e = a.0 in omega arith
not_earlier r s (inr a) (inr b) = ≺-irrefl r.string (cmp-trans r.string s.string r.string a.1 b.1)

-- ---- the rows, one after the other

module _ (W rows : List Row) where
  -- Row i is not in W, or was given before.
  abbrev BadIn : ℕ → Type 0
  BadIn i = (i < length rows) × ((¬ (row_at rows i ∈ W)) ⊎ ((j : ℕ) × (j < i) × (row_at rows j ≡ row_at rows i)))

  data Checked (rest : Mark) : Mark → Type 0 where
    none-bad : ((i : ℕ) → ¬ BadIn i) → Checked rest rest
    bad-at : {i : ℕ} → BadIn i → ((j : ℕ) → j < i → ¬ BadIn j) → Checked rest (bad-row i)

  -- What the check of the rows finds, some of them done.
  check-right : (done left seen : List Row) (rest : Mark) → rows ≡ done ++ left → ((r : Row) → r ∈ seen ↔ r ∈ done) → ((j : ℕ) → j < length done → ¬ BadIn j) → Checked rest (check_rows W seen (length done) left rest)
  unfolding check_rows
  check-right done [] seen rest e same fine = none-bad (λ i b. let l : length rows ≡ length done = ap length (e ∙ append-nil done) in let h = b.0 in fine i (omega arith) b)
  check-right done (r ∷ left) seen rest e same fine =
      by (has r W) refl (has r seen) refl
      (λ more. subst (λ (n : ℕ). Checked rest (check_rows W (r ∷ seen) n left rest)) (length-append done (r ∷ []) ∙ omega arith)
      (check-right (done ++ r ∷ []) left (r ∷ seen) rest (e ∙ sym (append_assoc done (r ∷ []) left))
      (λ s. (
        λ m. cases m (λ f. Memᴰ.append_right done (here f)) (λ n. Memᴰ.append_left (r ∷ []) ((same s).0 n)),
        λ m. ⊎_elim (λ n. there ((same s).1 n)) (λ n. here (only n)) (append_cases done m),
      )) (λ j h. more j (let l = length-append done (r ∷ []) in omega arith))))
    where
      here-is : row_at rows (length done) ≡ r
      here-is = ap (λ (l : List Row). row_at l (length done)) e ∙ get_or-append_seam done r left (row 0 eps 0)

      inside : length done < length rows
      inside = let l : length rows ≡ length done + suc (length left) = ap length e ∙ length-append done (r ∷ left) in omega arith

      before : (j : ℕ) → j < length done → row_at rows j ≡ row_at done j
      before j h = ap (λ (l : List Row). row_at l j) e ∙ get_or-append done (r ∷ left) (row 0 eps 0) j h

      by : (b : Bool) → has r W ≡ b → (q : Bool) → has r seen ≡ q
          → (((j : ℕ) → j < suc (length done) → ¬ BadIn j) → Checked rest (check_rows W (r ∷ seen) (suc (length done)) left rest))
          → Checked rest (cond (b && not q) (check_rows W (r ∷ seen) (suc (length done)) left rest) (bad-row (length done)))
      by true p false q next = next (λ j h b. last j h b (dec_lt j (length done)))
        where
          last : (j : ℕ) → j < suc (length done) → BadIn j → Dec (j < length done) → ⊥
          last j h b (yes l) = fine j l b
          last j h b (no l) =
              let z : j ≡ length done = omega arith in
              let c : BadIn (length done) = subst BadIn z b in
              ⊎_elim (λ n. n (rw here-is ((has-means r W).0 (passed p))))
              (λ (i, k, s).
              let m : r ∈ done = subst (λ (x : Row). x ∈ done) (sym (before i k) ∙ s ∙ here-is) (at_place done no_row i k) in
              fails q ((has-means r seen).1 ((same r).1 m))) c.1
      by true p true q next =
          let (i, h, s) = place_of r no_row done ((same r).0 ((has-means r seen).0 (passed q))) in
          bad-at (inside, inr (i, h, before i h ∙ s ∙ sym here-is)) fine
      by false p q r next = bad-at (inside, inl (λ m. fails p ((has-means _ W).1 (rw here-is at m)))) fine

  -- The first wanted row that is absent, or none.
  data Absent : Mark → Type 0 where
    none-absent : ((r : Row) → r ∈ W → r ∈ rows) → Absent accepted
    absent-is : (r : Row) → r ∈ W → ¬ (r ∈ rows) → ((s : Row) → s ∈ W → Earlier s r → s ∈ rows) → Absent (missing r.nonterminal r.string)

-- The first wanted row that is absent is found.
absent-right : (W rows : List Row) → InTurn W → Absent W rows (first_absent W rows)
unfolding first_absent
absent-right [] rows turn = none-absent (λ r m. absurd (not-nil m))
absent-right (h ∷ W) rows turn = by (has h rows) refl (first_absent W rows) (absent-right W rows turn.1)
  where
    more : {x : Mark} → h ∈ rows → Absent W rows x → Absent (h ∷ W) rows x
    more i (none-absent all) = none-absent (λ r m. cases m (λ (e : r ≡ h). rw e i) (all r))
    more i (absent-is r m n earlier) = absent-is r (there m) n (λ s j l. cases j (λ (e : s ≡ h). rw e i) (λ k. earlier s k l))

    by : (b : Bool) → has h rows ≡ b → (x : Mark) → Absent W rows x → Absent (h ∷ W) rows (cond b x (missing h.nonterminal h.string))
    by true e x rest = more ((has-means h rows).0 (passed e)) rest
    by false e x rest =
        absent-is h (here refl) (λ m. fails e ((has-means h rows).1 m))
        (λ s m l. cases m (λ (f : s ≡ h). absurd (not_earlier h h (rw f at l) (rw f at l))) (λ n. absurd (not_earlier h s (turn.0 s n) l)))

-- ---- the mark

module _ (g : Grammar) (ds : List Decided) (all : AllRight g ds) (rows : List Row) where
  -- the rows worked out
  abbrev wanted : List Row
  wanted = wanted_from 0 ds

  -- A row is bad when it was not worked out or was given before.
  bad-means : (i : ℕ) → BadIn wanted rows i ↔ Bad g rows i
  bad-means i = (
    λ (h, b). (h, ⊎_elim (λ n. inl (λ w. n ((wanted-means g ds all (row_at rows i)).1 w))) inr b),
    λ (h, b). (h, ⊎_elim (λ n. inl (λ m. n ((wanted-means g ds all (row_at rows i)).0 m))) inr b),
  )

  -- Rows of which none is bad are wanted, and none is given twice.
  none-wanted : ((i : ℕ) → ¬ BadIn wanted rows i) → (r : Row) → r ∈ rows → Wanted g r
  none-wanted fine r m =
      let (i, h, e) = place_of r no_row rows m in
      (wanted-means g ds all r).0 (by (has r wanted) refl i h e)
    where
      by : (b : Bool) → has r wanted ≡ b → (i : ℕ) → i < length rows → row_at rows i ≡ r → r ∈ wanted
      by true q i h e = (has-means r wanted).0 (passed q)
      by false q i h e = absurd (fine i (h, inl (λ n. fails q ((has-means r wanted).1 (rw e at n)))))

  -- Where no row is bad, the mark is told by what is absent.
  finish : ((i : ℕ) → ¬ BadIn wanted rows i) → {x : Mark} → Absent wanted rows x → Marked g rows x
  finish fine (none-absent here-all) =
      all-given (record {
        wanted = none-wanted fine;
        once = λ i j l h e. fine j (h, inr (i, l, e));
        whole = λ r w. here-all r ((wanted-means g ds all r).1 w);
      })
  finish fine (absent-is r m n earlier) =
      first-missing (λ i b. fine i ((bad-means i).1 b)) (record {
        i = r.production;
        wanted = (wanted-means g ds all r).0 m;
        absent = n;
        earlier = λ s w l. earlier s ((wanted-means g ds all s).1 w) l;
      })

  -- The mark is one that the rules give.
  pub marked : Marked g rows (mark_rows wanted rows)
  unfolding mark_rows
  marked = by (check-right wanted rows [] rows [] (first_absent wanted rows) refl (λ r. (λ m. m, λ m. m)) (λ j h. absurd (omega arith)))
    where
      by : {x : Mark} → Checked wanted rows (first_absent wanted rows) x → Marked g rows x
      by (none-bad fine) = finish fine (absent-right wanted rows (all-turn 0 ds))
      by (bad-at {i = i} b fine) = first-bad ((bad-means i).0 b, λ j h c. fine j h ((bad-means j).1 c))

-- Rows that are all given have no bad one.
given-fine : (g : Grammar) (rows : List Row) → AllGiven g rows → (i : ℕ) → ¬ Bad g rows i
given-fine g rows a i (h, b) = ⊎_elim (λ n. n (a.wanted (row_at rows i) (at_place rows no_row i h))) (λ (j, l, e). a.once j i l h e) b

-- Two first bad rows are one.
one-bad : (g : Grammar) (rows : List Row) (i j : ℕ) → FirstBad g rows i → FirstBad g rows j → i ≡ j
one-bad g rows i j p q = by (dec_lt i j) (dec_lt j i)
  where
    by : Dec (i < j) → Dec (j < i) → i ≡ j
    by (yes l) r = absurd (q.1 i l p.0)
    by (no l) (yes r) = absurd (p.1 j r q.0)
    by (no l) (no r) = omega arith

-- Wanted rows of two places in the order: one is earlier, or they are at one.
order-cases : (A B : ℕ) (y z : Str) (i j : ℕ) → Earlier (row A y i) (row B z j) ⊎ (Earlier (row B z j) (row A y i) ⊎ ((A ≡ B) × (y ≡ z)))
order-cases A B y z i j = by (dec_lt A B) (dec_lt B A)
  where
    strings : A ≡ B → (o : Prim.Native.Nat.Ordering) → cmp y z ≡ o → Earlier (row A y i) (row B z j) ⊎ (Earlier (row B z j) (row A y i) ⊎ ((A ≡ B) × (y ≡ z)))
    strings e Prim.Native.Nat.Ordering.lt q = inl (inr (e, q))
    strings e Prim.Native.Nat.Ordering.eq q = inr (inr (e, cmp-same y z q))
    strings e Prim.Native.Nat.Ordering.gt q = inr (inl (inr (sym e, more y z q)))

    by : Dec (A < B) → Dec (B < A) → Earlier (row A y i) (row B z j) ⊎ (Earlier (row B z j) (row A y i) ⊎ ((A ≡ B) × (y ≡ z)))
    by (yes l) r = inl (inl l)
    by (no l) (yes r) = inr (inl (inl r))
    by (no l) (no r) = strings (omega arith) (cmp y z) refl

-- Two first missing strings are one.
one-missing : (g : Grammar) (rows : List Row) (A B : ℕ) (y z : Str) → FirstMissing g rows A y → FirstMissing g rows B z → missing A y ≡ missing B z
one-missing g rows A B y z p q =
    ⊎_elim (λ l. absurd (p.absent (q.earlier (row A y p.i) p.wanted l)))
    (⊎_elim (λ l. absurd (q.absent (p.earlier (row B z q.i) q.wanted l))) (λ e. ap₂ missing e.0 e.1))
    (order-cases A B y z p.i q.i)

-- There is one mark.
pub marked-one : (g : Grammar) (rows : List Row) {x y : Mark} → Marked g rows x → Marked g rows y → x ≡ y
marked-one g rows (all-given a) (all-given b) = refl
marked-one g rows (all-given a) (first-bad {i = i} b) = absurd (given-fine g rows a i b.0)
marked-one g rows (all-given a) (first-missing f b) = absurd (b.absent (a.whole _ b.wanted))
marked-one g rows (first-bad {i = i} b) (all-given a) = absurd (given-fine g rows a i b.0)
marked-one g rows (first-bad {i = i} a) (first-bad {i = j} b) = ap bad-row (one-bad g rows i j a b)
marked-one g rows (first-bad {i = i} a) (first-missing f b) = absurd (f i a.0)
marked-one g rows (first-missing f b) (all-given a) = absurd (b.absent (a.whole _ b.wanted))
marked-one g rows (first-missing f b) (first-bad {i = i} a) = absurd (f i a.0)
marked-one g rows (first-missing {A = A} {z = y} f a) (first-missing {A = B} {z = z} h b) = one-missing g rows A B y z a b

-- ---- exactly when

module _ (g : Grammar) (ds : List Decided) (all : AllRight g ds) (rows : List Row) where
  -- the mark
  abbrev answer : Mark
  answer = mark_rows (wanted_from 0 ds) rows

  -- A mark is given exactly when the rules give it.
  pub mark-exactly : (x : Mark) → (answer ≡ x) ↔ Marked g rows x
  mark-exactly x = (λ (e : answer ≡ x). subst (Marked g rows) e (marked g ds all rows), λ m. marked-one g rows (marked g ds all rows) m)

  -- A table is accepted exactly when its rows give each string its production and nothing else, none twice.
  pub accepted-exactly : (answer ≡ accepted) ↔ AllGiven g rows
  accepted-exactly = (λ e. by accepted refl ((mark-exactly accepted).0 e), λ a. (mark-exactly accepted).1 (all-given a))
    where
      by : (x : Mark) → x ≡ accepted → Marked g rows x → AllGiven g rows
      by x e (all-given a) = a
      by x e (first-bad b) = let z : ◌≡◌ {A = ℕ} 0 1 = cc in absurd (omega arith)
      by x e (first-missing f b) = let z : ◌≡◌ {A = ℕ} 0 1 = cc in absurd (omega arith)

  -- 24 is given with row i exactly when it is the first bad one.
  pub bad-row-exactly : (i : ℕ) → (answer ≡ bad-row i) ↔ FirstBad g rows i
  bad-row-exactly i = (λ e. by (bad-row i) refl ((mark-exactly (bad-row i)).0 e), λ b. (mark-exactly (bad-row i)).1 (first-bad b))
    where
      by : (x : Mark) → x ≡ bad-row i → Marked g rows x → FirstBad g rows i
      by x e (all-given a) = let z : ◌≡◌ {A = ℕ} 0 1 = cc in absurd (omega arith)
      by x e (first-bad {i = j} b) = let z : j ≡ i = cc in subst (FirstBad g rows) z b
      by x e (first-missing f b) = let z : ◌≡◌ {A = ℕ} 0 1 = cc in absurd (omega arith)

  -- 25 is given with a nonterminal and a string exactly when no row is bad and it is the first that is missing.
  pub missing-exactly : (A : ℕ) (z : Str) → (answer ≡ missing A z) ↔ (((i : ℕ) → ¬ Bad g rows i) × FirstMissing g rows A z)
  missing-exactly A z = (λ e. by (missing A z) refl ((mark-exactly (missing A z)).0 e), λ (f, b). (mark-exactly (missing A z)).1 (first-missing f b))
    where
      by : (x : Mark) → x ≡ missing A z → Marked g rows x → ((i : ℕ) → ¬ Bad g rows i) × FirstMissing g rows A z
      by x e (all-given a) = let z : ◌≡◌ {A = ℕ} 0 1 = cc in absurd (omega arith)
      by x e (first-bad b) = let z : ◌≡◌ {A = ℕ} 0 1 = cc in absurd (omega arith)
      by x e (first-missing {A = B} {z = y} f b) =
          let p : B ≡ A = cc in
          let q : y ≡ z = cc in
          (f, subst (FirstMissing g rows A) q (subst (λ (C : ℕ). FirstMissing g rows C y) p b))
