-- The refusals 3 to 7 of a number, of a field, of a symbol and of the whole table, each exactly when the rules give it. Assumes nothing.
use Prim.Native.Nat.{ℕ, ◌+◌, ◌≤◌, ◌<◌}
use native.Mathlib.Omega.{arith}
use mathlib.Core.Path.{◌≡◌, refl, sym, ap, subst, ◌∙◌}
use mathlib.Core.Logic.Iff
use mathlib.Core.Logic.{◌⊎◌, inl, inr, ⊎_elim, ◌↔◌, ◌≢◌}
use mathlib.Core.List.{List, [], ◌∷◌, ◌++◌, append_assoc}
use mathlib.Core.Bool.{Bool, true, false, ◌&&◌}
use lib.ListN.{length, get_or, drop, length-drop}
use lib.Dec.{leb, eqb}
use borrow.Author.Tests.{leb-false, lt-leb, ne_eqb, eqb-false}
use Rattle.cfg.specs.Grammar.{Sym, Grammar, InRange}
use Rattle.cfg.specs.Reading.{Reading, got, refused, pick, ◌then◌}
use Rattle.cfg.specs.Number.{number}
use Rattle.cfg.specs.Written.{symbol_of}
use Rattle.cfg.specs.Table.{field, is_symbol, symbol, ends, read_table}
use Rattle.cfg.specs.Write.{write_number, write_numbers, code_of, table_numbers, write_table, Bytes, Limits}
use Rattle.cfg.specs.Refused.{Unfinished, Malformed, Wants, NextNumber, Outside, LeftOver, TableRefused, ends-early, wrong-number, wrong-count, out_of_range, left_over}
use Rattle.cfg.proofs.Field.{got-refused, field-got-least, field-got-most}
use Rattle.cfg.proofs.Marks.{not-both, bool_cases}
use Rattle.cfg.proofs.Numbers.{NumberIs, unfinished, malformed, one, two, number_is, ends_at, ends-second-at, malformed-at, number-written, number-stands, behind-bytes, Reads, reads-inside, Small, small-prefix, numbers-written, numbers-stand}
use Rattle.cfg.proofs.RoundTrip.{code-symbol, code-passes, passes-range, field-read, field-number, table-small, written_read, read-written}
use Rattle.cfg.proofs.Questions.{run, Accepts, kinds, Fails, Stops, run-got, accepts-run, run-stops, stops-run}
use Rattle.cfg.proofs.TableQuestions.{table_tree, run-table, live_table, kinds-table, accepts-table, table-accepts}

refused-apart : {A : Type 0} {r s : ℕ} → ◌≡◌ {A = Reading A} (refused r) (refused s) → r ≡ s
refused-apart e = cc

-- ---- a number

module _ (b : List ℕ) (at : ℕ) where
  unfinished-at : Unfinished (drop at b) → number b at ≡ refused 3
  unfinished-at h = go (drop at b) refl h
    where
      go : (c : List ℕ) → drop at b ≡ c → Unfinished c → number b at ≡ refused 3
      go [] e h = sym (ends_at b at e)
      go (low ∷ []) e h = sym (ends-second-at b at low e h)
      go (low ∷ high ∷ c) e h = absurd h

  malformed-there : Malformed (drop at b) → number b at ≡ refused 4
  malformed-there h = go (drop at b) refl h
    where
      go : (c : List ℕ) → drop at b ≡ c → Malformed c → number b at ≡ refused 4
      go [] e h = absurd h
      go (low ∷ []) e h = absurd h
      go (low ∷ high ∷ c) e h = sym (malformed-at b at low high c e h.0 h.1)

  -- no other refusal is given
  number-refused : (r : ℕ) → number b at ≡ refused r → ((r ≡ 3) × Unfinished (drop at b)) ⊎ ((r ≡ 4) × Malformed (drop at b))
  number-refused r e = by (number b at) (number_is b at) e
    where
      by : (m : Reading ℕ) → NumberIs b at m → m ≡ refused r → ((r ≡ 3) × Unfinished (drop at b)) ⊎ ((r ≡ 4) × Malformed (drop at b))
      by m (unfinished h) e = inl (sym (refused-apart e), h)
      by m (malformed h) e = inr (sym (refused-apart e), h)
      by m (one low c f l) e = absurd (got-refused e)
      by m (two low high c f l z h) e = absurd (got-refused e)

  pub number-refusals : (r : ℕ) → number b at ≡ refused r → (r ≡ 3) ⊎ (r ≡ 4)
  number-refusals r e = ⊎_elim (λ h. inl h.0) (λ h. inr h.0) (number-refused r e)

  -- 3: the bytes end before the number does
  pub number-three : (number b at ≡ refused 3) ↔ Unfinished (drop at b)
  number-three = (λ e. ⊎_elim (λ h. h.1) (λ h. absurd (let z : ◌≡◌ {A = ℕ} 3 4 = h.0 in omega arith)) (number-refused 3 e), unfinished-at)

  -- 4: a number over two groups, or not shortest
  pub number-four : (number b at ≡ refused 4) ↔ Malformed (drop at b)
  number-four = (λ e. ⊎_elim (λ h. absurd (let z : ◌≡◌ {A = ℕ} 4 3 = h.0 in omega arith)) (λ h. h.1) (number-refused 4 e), malformed-there)

  -- read: the number stands there, in at most two groups
  pub number-got : Bytes b → (v next : ℕ) → (number b at ≡ got v next) ↔ ((drop at b ≡ write_number v ++ drop next b) × (v < 16384) × (next ≡ at + length (write_number v)))
  number-got bytes v next = (
    λ e.
        let (w, h) = number-written b bytes at v next e in
        let stands = number-stands b at v (drop next b) h w in
        let same : next ≡ at + length (write_number v) = cc in
        (w, h, same),
    λ (w, h, same). number-stands b at v (drop next b) h w ∙ ap (got v) (sym same),
  )

-- ---- a number that is tested

-- a test's own refusal is none of the number's: the number is read, and does not pass
module _ (b : List ℕ) (at : ℕ) (ok : ℕ → Bool) (kind : ℕ) (own : 5 ≤ kind) where
  abbrev answer : Reading ℕ
  answer = number b at then λ v next. pick (ok v) (got v next) (refused kind)

  tested : (m : Reading ℕ) → number b at ≡ m → (m then λ v next. pick (ok v) (got v next) (refused kind)) ≡ refused kind
      → (v : ℕ) × (next : ℕ) × (number b at ≡ got v next) × (ok v ≡ false)
  tested (got v next) e f = ⊎_elim (λ (o : ok v ≡ true). absurd (got-refused (rw o at f))) (λ (o : ok v ≡ false). (v, next, e, o)) (bool_cases (ok v))
  tested (refused r) e f =
      let same : r ≡ kind = refused-apart f in
      absurd (⊎_elim (λ (h : r ≡ 3). omega arith) (λ (h : r ≡ 4). omega arith) (number-refusals b at r e))

  test-refused : (answer ≡ refused kind) ↔ ((v : ℕ) × (next : ℕ) × (number b at ≡ got v next) × (ok v ≡ false))
  test-refused = (λ e. tested (number b at) refl e, λ (v, next, e, o). rw (e, o))

-- any other refusal is the number's
module _ (b : List ℕ) (at : ℕ) (ok : ℕ → Bool) (kind r : ℕ) (other : r ≢ kind) where
  untested : (m : Reading ℕ) → (m then λ v next. pick (ok v) (got v next) (refused kind)) ≡ refused r → m ≡ refused r
  untested (got v next) f = by (ok v) f
    where
      by : (t : Bool) → pick t (got v next) (refused kind) ≡ refused r → got v next ≡ refused r
      by true f = f
      by false f = absurd (other (sym (refused-apart f)))
  untested (refused s) f = f

  number_passed : ((number b at then λ v next. pick (ok v) (got v next) (refused kind)) ≡ refused r) ↔ (number b at ≡ refused r)
  number_passed = (λ e. untested (number b at) e, λ e. rw e)

-- a field's own refusal: the number is read, and lies outside its limits
pub field-outside : (b : List ℕ) (kind least most at : ℕ) → 5 ≤ kind
    → (field b kind least most at ≡ refused kind) ↔ ((v : ℕ) × (next : ℕ) × (number b at ≡ got v next) × ((v < least) ⊎ (most < v)))
field-outside b kind least most at own = (
  λ e. let (v, next, m, o) = (test-refused b at (λ v. leb least v && leb v most) kind own).0 e in (v, next, m, by v (leb least v) refl o),
  λ (v, next, m, o). (test-refused b at (λ v. leb least v && leb v most) kind own).1 (v, next, m, back v o),
)
  where
    by : (v : ℕ) (t : Bool) → leb least v ≡ t → (t && leb v most) ≡ false → (v < least) ⊎ (most < v)
    by v true e o = inr (leb-false v most o)
    by v false e o = inl (leb-false least v e)

    back : (v : ℕ) → (v < least) ⊎ (most < v) → (leb least v && leb v most) ≡ false
    back v (inl h) = rw (lt-leb least v h)
    back v (inr h) = go (leb least v)
      where
        go : (t : Bool) → (t && leb v most) ≡ false
        go true = lt-leb v most h
        go false = refl

pub field-passed : (b : List ℕ) (kind least most at r : ℕ) → r ≢ kind → (field b kind least most at ≡ refused r) ↔ (number b at ≡ refused r)
field-passed b kind least most at r other = number_passed b at (λ v. leb least v && leb v most) kind r other

-- a field is read exactly when the number is, and lies within its limits
pub field-got : (b : List ℕ) (kind least most at v next : ℕ) → (field b kind least most at ≡ got v next) ↔ ((number b at ≡ got v next) × (least ≤ v) × (v ≤ most))
field-got b kind least most at v next = (
  λ e. (field-number b kind least most at v next e, field-got-least b kind least most at e, field-got-most b kind least most at e),
  λ (e, h, k). field-read b kind least most at v next e h k,
)

-- a symbol's: the number is read, and is no symbol's in range
pub symbol-outside : (b : List ℕ) (g : Grammar) (at : ℕ)
    → (symbol b g.n g.t at ≡ refused 6) ↔ ((v : ℕ) × (next : ℕ) × (number b at ≡ got v next) × ((s : Sym) → v ≡ code_of s → InRange g s → ⊥))
symbol-outside b g at = (
  λ e.
      let (v, next, m, o) = (test-refused b at (is_symbol g.n g.t) 6 (omega arith)).0 e in
      (v, next, m, λ s f r. not-both (code-passes g s r) (rw f at o)),
  λ (v, next, m, never). (test-refused b at (is_symbol g.n g.t) 6 (omega arith)).1
      (v, next, m, ⊎_elim (λ (o : is_symbol g.n g.t v ≡ true). absurd (never (symbol_of v) (sym (code-symbol v)) (passes-range g v o))) (λ o. o) (bool_cases (is_symbol g.n g.t v))),
)

-- ---- the table

-- numbers that stand at the start are read, and the rest is behind them
read-before : (b : List ℕ) (vs c : List ℕ) → Small vs → b ≡ write_numbers vs ++ c → Reads b 0 vs (length (write_numbers vs)) × (drop (length (write_numbers vs)) b ≡ c)
read-before b vs c h e =
    let all : 0 + length (write_numbers vs) ≡ length (write_numbers vs) = omega arith in
    (rw all at (numbers-stand b 0 vs c h e), rw all at (behind-bytes b 0 (write_numbers vs) c e))

-- numbers that others could complete begin a table, and want the next
wanted : (vs : List ℕ) (v : ℕ) (rest : List ℕ) (kind : ℕ) → Accepts table_tree (vs ++ (v ∷ rest)) → get_or (kinds table_tree (vs ++ (v ∷ rest))) (length vs) 0 ≡ kind → Wants vs kind
wanted vs v rest kind h e =
    let (g, limits, all) = accepts-table (vs ++ (v ∷ rest)) h in
    let same : get_or (kinds table_tree (table_numbers g)) (length vs) 0 ≡ kind = rw all e in
    record { g = g; limits = limits; v = v; rest = rest; all = all; same = rw (kinds-table g) at same }

-- each row by its number
module _ {b : List ℕ} where
  pub refusal-rows : {r : ℕ} → TableRefused b r → (3 ≤ r) × (r ≤ 7)
  refusal-rows (ends-early o) = (omega arith, omega arith)
  refusal-rows (wrong-number o) = (omega arith, omega arith)
  refusal-rows (wrong-count o) = (omega arith, omega arith)
  refusal-rows (out_of_range o) = (omega arith, omega arith)
  refusal-rows (left_over o) = (omega arith, omega arith)

  is-three : TableRefused b 3 → NextNumber Unfinished b
  is-three (ends-early o) = o

  is-four : TableRefused b 4 → NextNumber Malformed b
  is-four (wrong-number o) = o

  is-five : TableRefused b 5 → Outside b 5
  is-five (wrong-count o) = o

  is-six : TableRefused b 6 → Outside b 6
  is-six (out_of_range o) = o

  is-seven : TableRefused b 7 → LeftOver b
  is-seven (left_over o) = o

module _ (b : List ℕ) where
  -- what stops the questions refuses the table
  passed_on : (r : ℕ) → run b table_tree 0 ≡ refused r → read_table b ≡ refused r
  passed_on r e = sym (run-table b) ∙ rw e

  stopped : (r : ℕ) (vs : List ℕ) (kind : ℕ) → Wants vs kind → (c : List ℕ) → b ≡ write_numbers vs ++ c
      → ((x : ℕ) → drop x b ≡ c → Fails table_tree b vs x kind r) → read_table b ≡ refused r
  stopped r vs kind w c e fails =
      let accepts : Accepts table_tree (vs ++ (w.v ∷ w.rest)) = rw w.all at (table-accepts w.g w.limits) in
      let same : get_or (kinds table_tree (vs ++ (w.v ∷ w.rest))) (length vs) 0 ≡ kind = rw (← w.all, kinds-table w.g) w.same in
      let small : Small (vs ++ (w.v ∷ w.rest)) = subst Small w.all (table-small w.g w.limits) in
      let (reads, behind) = read-before b vs c (small-prefix vs (w.v ∷ w.rest) small) e in
      passed_on r (stops-run b table_tree live_table 0 r vs (length (write_numbers vs)) reads w.v w.rest accepts kind same (fails (length (write_numbers vs)) behind))

  outside-refused : (kind : ℕ) → Outside b kind → read_table b ≡ refused kind
  outside-refused kind o =
      stopped kind o.vs kind o.wants (write_number o.v ++ o.c) o.bytes (λ x e.
      inr (
        o.v,
        x + length (write_number o.v),
        number-stands b x o.v o.c o.groups e,
        refl,
        λ rest h. let (g, limits, all) = accepts-table (o.vs ++ (o.v ∷ rest)) h in
            o.outside (record { g = g; limits = limits; rest = rest; all = all ∙ sym (append_assoc o.vs (o.v ∷ []) rest) }),
      ))

  left-over-refused : LeftOver b → read_table b ≡ refused 7
  unfolding write_table
  left-over-refused o =
      let (reads, behind) = read-before b (table_numbers o.g) (o.x ∷ o.c) (table-small o.g o.limits) o.bytes in
      let (a, e) = accepts-run b table_tree (table_numbers o.g) 0 (length (write_numbers (table_numbers o.g))) (table-accepts o.g o.limits) reads in
      let short : length (write_numbers (table_numbers o.g)) ≢ length b = omega (arith, length-drop (length (write_numbers (table_numbers o.g))) b, ap length behind) in
      sym (run-table b) ∙ rw (e, ne_eqb (length (write_numbers (table_numbers o.g))) (length b) short)

  pub refused-by : (r : ℕ) → TableRefused b r → read_table b ≡ refused r
  refused-by r (ends-early o) = stopped 3 o.vs o.kind o.wants o.c o.bytes (λ x e. inl ((number-three b x).1 (rw e o.next)))
  refused-by r (wrong-number o) = stopped 4 o.vs o.kind o.wants o.c o.bytes (λ x e. inl ((number-four b x).1 (rw e o.next)))
  refused-by r (wrong-count o) = outside-refused 5 o
  refused-by r (out_of_range o) = outside-refused 6 o
  refused-by r (left_over o) = left-over-refused o

  module _ (bytes : Bytes b) where
    stops-refused : (r : ℕ) → Stops table_tree b 0 r → TableRefused b r
    stops-refused r s = ⊎_elim unread outside s.fails
      where
        wants : Wants s.vs s.kind
        wants = wanted s.vs s.v s.rest s.kind s.goes s.same

        before : b ≡ write_numbers s.vs ++ drop s.x b
        before = numbers-written b bytes 0 s.vs s.x s.reads

        next : (P : List ℕ → Type 0) → P (drop s.x b) → NextNumber P b
        next P h = record { vs = s.vs; kind = s.kind; wants = wants; c = drop s.x b; bytes = before; next = h }

        unread : number b s.x ≡ refused r → TableRefused b r
        unread e = ⊎_elim
            (λ (h : (r ≡ 3) × Unfinished (drop s.x b)). subst (TableRefused b) (sym h.0) (ends-early (next Unfinished h.1)))
            (λ (h : (r ≡ 4) × Malformed (drop s.x b)). subst (TableRefused b) (sym h.0) (wrong-number (next Malformed h.1)))
            (number-refused b s.x r e)

        outside : (v : ℕ) × (y : ℕ) × (number b s.x ≡ got v y) × (r ≡ s.kind) × ((rest : List ℕ) → Accepts table_tree (s.vs ++ (v ∷ rest)) → ⊥) → TableRefused b r
        outside (v, y, e, same, never) =
            let (stands, groups) = number-written b bytes s.x v y e in
            let o : Outside b s.kind = record {
              vs = s.vs;
              wants = wants;
              v = v;
              groups = groups;
              c = drop y b;
              bytes = before ∙ ap (λ (l : List ℕ). write_numbers s.vs ++ l) stands;
              outside = λ h. never h.rest (subst (Accepts table_tree) (h.all ∙ append_assoc s.vs (v ∷ []) h.rest) (table-accepts h.g h.limits));
            } in
            ⊎_elim
            (λ (k : s.kind ≡ 5). subst (TableRefused b) (sym (same ∙ k)) (wrong-count (subst (Outside b) k o)))
            (λ (k : s.kind ≡ 6). subst (TableRefused b) (sym (same ∙ k)) (out_of_range (subst (Outside b) k o)))
            s.known

    read-left-over : (g : Grammar) (y : ℕ) → run b table_tree 0 ≡ got g y → y ≢ length b → LeftOver b
    unfolding write_table
    read-left-over g y e short =
        let (vs, h, r) = run-got b table_tree 0 g y e in
        let (g', limits, all) = accepts-table vs h in
        let inside = reads-inside b 0 vs y (omega arith) r in
        go g' limits (drop y b) (subst (λ (l : List ℕ). b ≡ write_numbers l ++ drop y b) (sym all) (numbers-written b bytes 0 vs y r)) (omega (arith, length-drop y b))
      where
        go : (g : Grammar) → Limits g → (c : List ℕ) → b ≡ write_table g ++ c → 1 ≤ length c → LeftOver b
        go g limits [] e h = absurd (omega arith)
        go g limits (x ∷ c) e h = record { g = g; limits = limits; x = x; c = c; bytes = e }

    refused-so : (r : ℕ) → read_table b ≡ refused r → TableRefused b r
    refused-so r e = by (run b table_tree 0) refl (run-table b ∙ e)
      where
        by : (m : Reading Grammar) → run b table_tree 0 ≡ m → (m then λ g next. ends b g next) ≡ refused r → TableRefused b r
        by (refused s) m f = stops-refused r (run-stops b table_tree live_table 0 r (m ∙ f))
        by (got g y) m f = ⊎_elim
            (λ (t : eqb y (length b) ≡ true). absurd (got-refused (rw t at f)))
            (λ (t : eqb y (length b) ≡ false).
            let same : 7 ≡ r = refused-apart (rw t at f) in
            subst (TableRefused b) same (left_over (read-left-over g y m (eqb-false y (length b) t))))
            (bool_cases (eqb y (length b)))

    -- a table is refused exactly so
    pub table-refused : (r : ℕ) → (read_table b ≡ refused r) ↔ TableRefused b r
    table-refused r = (refused-so r, refused-by r)

    pub table-three : (read_table b ≡ refused 3) ↔ NextNumber Unfinished b
    table-three = Iff.trans (table-refused 3) (is-three, ends-early)

    pub table-four : (read_table b ≡ refused 4) ↔ NextNumber Malformed b
    table-four = Iff.trans (table-refused 4) (is-four, wrong-number)

    pub table-five : (read_table b ≡ refused 5) ↔ Outside b 5
    table-five = Iff.trans (table-refused 5) (is-five, wrong-count)

    pub table-six : (read_table b ≡ refused 6) ↔ Outside b 6
    table-six = Iff.trans (table-refused 6) (is-six, out_of_range)

    pub table-seven : (read_table b ≡ refused 7) ↔ LeftOver b
    table-seven = Iff.trans (table-refused 7) (is-seven, left_over)

    -- every table is the writing of a grammar within the limits, or is refused
    pub read-or-refused : ((g : Grammar) × (b ≡ write_table g) × Limits g) ⊎ ((r : ℕ) × TableRefused b r)
    read-or-refused = by (read_table b) refl
      where
        by : (m : Reading Grammar) → read_table b ≡ m → ((g : Grammar) × (b ≡ write_table g) × Limits g) ⊎ ((r : ℕ) × TableRefused b r)
        by (got g next) e = let (w, h) = read-written b bytes g next e in inl (g, w, h)
        by (refused r) e = inr (r, refused-so r e)

-- by one number only, and then it is no such writing
pub one-refusal : (b : List ℕ) (r s : ℕ) → TableRefused b r → TableRefused b s → r ≡ s
one-refusal b r s h k = refused-apart (sym (refused-by b r h) ∙ refused-by b s k)

pub refused-unwritten : (g : Grammar) → Limits g → (r : ℕ) → TableRefused (write_table g) r → ⊥
refused-unwritten g h r k = got-refused (sym (written_read g h) ∙ refused-by (write_table g) r k)
