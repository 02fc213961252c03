-- A table is read exactly when it is the writing of a grammar within the limits: what is written is read back, and what is read was written. Assumes nothing.
use Prim.Native.Nat.{ℕ, zero, suc, ◌+◌, ◌*◌, ◌-◌, ◌/◌, ◌%◌, ◌≤◌, ◌<◌, min}
use native.Mathlib.Omega.{arith}
use mathlib.Core.Path.{◌≡◌, refl, sym, ap, subst, ◌∙◌}
use mathlib.Core.Logic.{⊎_elim, ◌↔◌, ◌≢◌}
use mathlib.Core.List.Memᴰ
use mathlib.Core.List.{List, [], ◌∷◌, ◌++◌, map, append_assoc, append-nil, Memᴰ}
use mathlib.Core.Bool.{Bool, true, false, ◌&&◌}
use lib.ListN.{length, take, drop, length-append, length-map}
use lib.Seq.{drop-length, take_at, drop_at}
use lib.Dec.{leb, eqb}
use borrow.Author.Tests.{eqb-true, eqb-false, lt-ltb, le-leb, eq-eqb, ne_eqb}
use Rattle.cfg.specs.Grammar.{Sym, nonterminal, terminal, Production, Grammar, InRange, AllInRange}
use Rattle.cfg.specs.Reading.{got, refused, pick}
use Rattle.cfg.specs.Number.{number}
use Rattle.cfg.specs.Written.{symbol_of, productions_of}
use Rattle.cfg.specs.Table.{field, is_symbol, symbol, symbols, production, productions, header, Header, grammar_of, read_table}
use Rattle.cfg.specs.Write.{write_numbers, code_of, production_numbers, all_numbers, table_numbers, write_table, Bytes, ProductionLimits, symbol_count, Limits}
use Rattle.cfg.proofs.Field.{field-got-most}
use Rattle.cfg.proofs.Sound.{then-inverse, pick-inverse, range-in, symbol-ranged}
use Rattle.cfg.proofs.Meaning.{header-limits}
use Rattle.cfg.proofs.Numbers.{Reads, reads-split, reads-join, Small, small-append, numbers-written, numbers-stand, written-bytes}

-- ---- symbols and their codes

even-code : (i : ℕ) → (2 * i % 2 ≡ 0) × (2 * i / 2 ≡ i)
even-code i = omega arith

odd_code : (x : ℕ) → ((2 * x + 1) % 2 ≢ 0) × ((2 * x + 1) / 2 ≡ x)
odd_code x = omega arith

pub symbol-code : (s : Sym) → symbol_of (code_of s) ≡ s
symbol-code (nonterminal i) = rw (eq-eqb (2 * i % 2) 0 (even-code i).0, (even-code i).1)
symbol-code (terminal x) = rw (ne_eqb ((2 * x + 1) % 2) 0 (odd_code x).0, (odd_code x).1)

pub code-symbol : (c : ℕ) → code_of (symbol_of c) ≡ c
code-symbol c = go (eqb (c % 2) 0) refl
  where
    go : (b : Bool) → eqb (c % 2) 0 ≡ b → code_of (pick b (nonterminal (c / 2)) (terminal (c / 2))) ≡ c
    go true e = omega (arith, eqb-true (c % 2) 0 e)
    go false e = let odd : c % 2 ≢ 0 = eqb-false (c % 2) 0 e in omega arith

symbols-codes : (ss : List Sym) → map symbol_of (map code_of ss) ≡ ss
symbols-codes [] = refl
symbols-codes (s ∷ ss) = rw (symbol-code s, symbols-codes ss)

-- a code passes the reader's test exactly when its symbol is in range
pub code-passes : (g : Grammar) (s : Sym) → InRange g s → is_symbol g.n g.t (code_of s) ≡ true
code-passes g (nonterminal i) h = rw (eq-eqb (2 * i % 2) 0 (even-code i).0, (even-code i).1) (lt-ltb i g.n h)
code-passes g (terminal x) h = rw (ne_eqb ((2 * x + 1) % 2) 0 (odd_code x).0, (odd_code x).1, le-leb 5 x h.0) (le-leb x (g.t + 4) h.1)

pub passes-range : (g : Grammar) (c : ℕ) → is_symbol g.n g.t c ≡ true → InRange g (symbol_of c)
passes-range g c e = (range-in g (symbol_of c ∷ []) (symbol-ranged g.n g.t c [] e tt)).0

-- ---- one number that is tested

module _ (b : List ℕ) (refusal least most at v next : ℕ) where
  pub field-read : number b at ≡ got v next → least ≤ v → v ≤ most → field b refusal least most at ≡ got v next
  field-read e h k = rw (e, le-leb least v h, le-leb v most k)

  pub field-number : field b refusal least most at ≡ got v next → number b at ≡ got v next
  field-number e =
      let (w, x, m, k) = then-inverse (number b at) (λ v next. pick (leb least v && leb v most) (got v next) (refused refusal)) e in
      let (ok, same) = pick-inverse (leb least w && leb w most) w x refusal k in
      m ∙ (rw ok at k)

symbol-number : (b : List ℕ) (n t at c next : ℕ) → symbol b n t at ≡ got c next → (number b at ≡ got c next) × (is_symbol n t c ≡ true)
symbol-number b n t at c next e =
    let (w, x, m, k) = then-inverse (number b at) (λ c next. pick (is_symbol n t c) (got c next) (refused 6)) e in
    let (ok, same) = pick-inverse (is_symbol n t w) w x 6 k in
    (m ∙ (rw ok at k), rw same at ok)

-- ---- productions

-- all of some productions keep their limits
abbrev pub AllLimits : Grammar → List Production → Type 0
AllLimits g qs = (q : Production) → Memᴰ q qs → ProductionLimits g q

module _ (b : List ℕ) (g : Grammar) where
  -- symbols in range, whose numbers stand there, are read; and what is read was so
  symbols-read : (ss : List Sym) (ws : List ℕ) (at next : ℕ) → AllInRange g ss → Reads b at (map code_of ss) next
      → symbols b g.n g.t (length ss) ws at ≡ got (ws ++ map code_of ss) next
  unfolding symbols
  symbols-read [] ws at next h r = rw (append-nil ws, r)
  symbols-read (s ∷ ss) ws at next h (mid, e, r) =
      rw (e, code-passes g s h.0) (symbols-read ss (ws ++ (code_of s ∷ [])) mid next h.1 r ∙ ap (λ (l : List ℕ). got l next) (append_assoc ws (code_of s ∷ []) (map code_of ss)))

  pub record SymbolsRead (count : ℕ) (ws : List ℕ) (at : ℕ) (ws' : List ℕ) (next : ℕ) : Type 0 where
    pub ss : List Sym
    pub size : length ss ≡ count
    pub words : ws' ≡ ws ++ map code_of ss
    pub range : AllInRange g ss
    pub numbers : Reads b at (map code_of ss) next

  symbols-more : (c count : ℕ) (ws : List ℕ) (at mid : ℕ) (ws' : List ℕ) (next : ℕ) → number b at ≡ got c mid → is_symbol g.n g.t c ≡ true
      → SymbolsRead count (ws ++ (c ∷ [])) mid ws' next → SymbolsRead (suc count) ws at ws' next
  symbols-more c count ws at mid ws' next e ok rest = record {
    ss = symbol_of c ∷ rest.ss;
    size = ap suc rest.size;
    words = rw (code-symbol c) (rest.words ∙ append_assoc ws (c ∷ []) (map code_of rest.ss));
    range = (passes-range g c ok, rest.range);
    numbers = (mid, rw (code-symbol c) e, rest.numbers);
  }

  symbols-were : (count : ℕ) (ws : List ℕ) (at : ℕ) (ws' : List ℕ) (next : ℕ) → symbols b g.n g.t count ws at ≡ got ws' next → SymbolsRead count ws at ws' next
  unfolding symbols
  symbols-were zero ws at ws' next e =
      let same : ws ≡ ws' = cc in
      let end : at ≡ next = cc in
      record { ss = []; size = refl; words = sym same ∙ sym (append-nil ws); range = tt; numbers = end }
  symbols-were (suc count) ws at ws' next e =
      let (c, x, s, r) = then-inverse (symbol b g.n g.t at) (λ c next. symbols b g.n g.t count (ws ++ (c ∷ [])) next) e in
      let (m, ok) = symbol-number b g.n g.t at c x s in
      symbols-more c count ws at x ws' next m ok (symbols-were count (ws ++ (c ∷ [])) x ws' next r)

  -- so a production within its limits, which keeps the symbols in all at most 4,096
  production-read : (q : Production) (total : ℕ) (ws : List ℕ) (at next : ℕ) → ProductionLimits g q → total + length q.right ≤ 4096
      → Reads b at (production_numbers q) next → production b g.n g.t total ws at ≡ got (ws ++ production_numbers q) next
  production-read q total ws at next h l (x, e, (y, f, r)) =
      let left : field b 6 0 (g.n - 1) at ≡ got q.left x = field-read b 6 0 (g.n - 1) at q.left x e (omega arith) (omega (arith, h.left)) in
      let size : field b 5 0 (min 64 (4096 - total)) x ≡ got (length q.right) y = field-read b 5 0 (min 64 (4096 - total)) x (length q.right) y f (omega arith) (omega (arith, h.size)) in
      rw (left, size)
      (symbols-read q.right (ws ++ (q.left ∷ length q.right ∷ [])) y next h.right r
      ∙ ap (λ (l : List ℕ). got l next) (append_assoc ws (q.left ∷ length q.right ∷ []) (map code_of q.right)))

  pub record ProductionRead (total : ℕ) (ws : List ℕ) (at : ℕ) (ws' : List ℕ) (next : ℕ) : Type 0 where
    pub q : Production
    pub words : ws' ≡ ws ++ production_numbers q
    pub limits : ProductionLimits g q
    pub few : total ≤ 4096 → total + length q.right ≤ 4096
    pub numbers : Reads b at (production_numbers q) next

  production-made : (left size total : ℕ) (ws : List ℕ) (at x y : ℕ) (ws' : List ℕ) (next : ℕ) → left < g.n → size ≤ min 64 (4096 - total)
      → number b at ≡ got left x → number b x ≡ got size y → SymbolsRead size (ws ++ (left ∷ size ∷ [])) y ws' next → ProductionRead total ws at ws' next
  production-made left size total ws at x y ws' next small short e f read = record {
    q = record { left = left; right = read.ss };
    words = rw read.size (read.words ∙ append_assoc ws (left ∷ size ∷ []) (map code_of read.ss));
    limits = record { left = small; size = omega (arith, read.size); right = read.range };
    few = λ h. omega (arith, read.size);
    numbers = (x, e, (y, rw read.size f, read.numbers));
  }

  production-was : 1 ≤ g.n → (total : ℕ) (ws : List ℕ) (at : ℕ) (ws' : List ℕ) (next : ℕ) → production b g.n g.t total ws at ≡ got ws' next
      → ProductionRead total ws at ws' next
  production-was some total ws at ws' next e =
      let (left, x, f, e₁) = then-inverse (field b 6 0 (g.n - 1) at) _ e in
      let (size, y, k, e₂) = then-inverse (field b 5 0 (min 64 (4096 - total)) x) _ e₁ in
      let small = field-got-most b 6 0 (g.n - 1) at f in
      let short = field-got-most b 5 0 (min 64 (4096 - total)) x k in
      production-made left size total ws at x y ws' next (omega arith) short (field-number b 6 0 (g.n - 1) at left x f)
      (field-number b 5 0 (min 64 (4096 - total)) x size y k) (symbols-were size (ws ++ (left ∷ size ∷ [])) y ws' next e₂)

  -- one production more: how many symbols there are then
  grown : (i : ℕ) (ws : List ℕ) (q : Production) → 2 * i ≤ length ws
      → (2 * (i + 1) ≤ length (ws ++ production_numbers q)) × (length (ws ++ production_numbers q) - 2 * (i + 1) ≡ length ws - 2 * i + length q.right)
  grown i ws q h =
      let long : length (ws ++ production_numbers q) ≡ length ws + (2 + length q.right) = length-append ws (production_numbers q) ∙ ap (λ (k : ℕ). length ws + suc (suc k)) (length-map q.right code_of) ∙ omega arith in
      (omega arith, omega arith)

  -- so all of some productions, behind i that were read into the words ws
  productions-read : (qs : List Production) (i : ℕ) (ws : List ℕ) (at next : ℕ) → AllLimits g qs → 2 * i ≤ length ws → length ws - 2 * i + symbol_count qs ≤ 4096
      → Reads b at (all_numbers qs) next → productions b g.n g.t i (length qs) ws at ≡ got (ws ++ all_numbers qs) next
  unfolding productions
  productions-read [] i ws at next a h l r = rw (append-nil ws, r)
  productions-read (q ∷ qs) i ws at next a h l r =
      let (mid, here, rest) = reads-split b at (production_numbers q) (all_numbers qs) next r in
      let (two, total) = grown i ws q h in
      let first : production b g.n g.t (length ws - 2 * i) ws at ≡ got (ws ++ production_numbers q) mid = production-read q (length ws - 2 * i) ws at mid (a q (Memᴰ.head refl)) (omega arith) here in
      rw first (productions-read qs (i + 1) (ws ++ production_numbers q) mid next (λ p m. a p (Memᴰ.tail m)) two (omega arith) rest
      ∙ ap (λ (l : List ℕ). got l next) (append_assoc ws (production_numbers q) (all_numbers qs)))

  pub record ProductionsRead (i p : ℕ) (ws : List ℕ) (at : ℕ) (ws' : List ℕ) (next : ℕ) : Type 0 where
    pub qs : List Production
    pub count : length qs ≡ p
    pub words : ws' ≡ ws ++ all_numbers qs
    pub limits : AllLimits g qs
    pub few : length ws - 2 * i + symbol_count qs ≤ 4096
    pub numbers : Reads b at (all_numbers qs) next

  productions-more : (i p : ℕ) (ws : List ℕ) (at : ℕ) (ws₁ : List ℕ) (x : ℕ) (ws' : List ℕ) (next : ℕ) → 2 * i ≤ length ws
      → (first : ProductionRead (length ws - 2 * i) ws at ws₁ x) → ProductionsRead (i + 1) p (ws ++ production_numbers first.q) x ws' next
      → ProductionsRead i (suc p) ws at ws' next
  productions-more i p ws at ws₁ x ws' next h first rest = record {
    qs = first.q ∷ rest.qs;
    count = ap suc rest.count;
    words = rest.words ∙ append_assoc ws (production_numbers first.q) (all_numbers rest.qs);
    limits = λ q m. ⊎_elim (λ (s : q ≡ first.q). subst (ProductionLimits g) (sym s) first.limits) (λ k. rest.limits q k) (Memᴰ.cases_cons m);
    few = omega (arith, rest.few, grown i ws first.q h);
    numbers = reads-join b at (production_numbers first.q) (all_numbers rest.qs) x next first.numbers rest.numbers;
  }

  productions-were : 1 ≤ g.n → (p i : ℕ) (ws : List ℕ) (at : ℕ) (ws' : List ℕ) (next : ℕ) → 2 * i ≤ length ws → length ws - 2 * i ≤ 4096
      → productions b g.n g.t i p ws at ≡ got ws' next → ProductionsRead i p ws at ws' next
  unfolding productions
  productions-were some zero i ws at ws' next h l e =
      let same : ws ≡ ws' = cc in
      let end : at ≡ next = cc in
      record { qs = []; count = refl; words = sym same ∙ sym (append-nil ws); limits = λ q m. absurd (Memᴰ.not-nil m); few = omega arith; numbers = end }
  productions-were some (suc p) i ws at ws' next h l e =
      let (ws₁, x, f, e₁) = then-inverse (production b g.n g.t (length ws - 2 * i) ws at) _ e in
      let first : ProductionRead (length ws - 2 * i) ws at ws₁ x = production-was some (length ws - 2 * i) ws at ws₁ x f in
      let (two, total) = grown i ws first.q h in
      let many = first.few l in
      productions-more i p ws at ws₁ x ws' next h first
      (productions-were some p (i + 1) (ws ++ production_numbers first.q) x ws' next two (omega arith) (rw first.words at e₁))

-- the productions that stand in their own words
productions-of : (qs : List Production) → productions_of (length qs) (all_numbers qs) ≡ qs
productions-of [] = refl
productions-of (q ∷ qs) =
    let size : length (map code_of q.right) ≡ length q.right = length-map q.right code_of in
    let codes : take (length q.right) (map code_of q.right ++ all_numbers qs) ≡ map code_of q.right = take_at (map code_of q.right) (all_numbers qs) (length q.right) size in
    let rest : drop (2 + length q.right) (production_numbers q ++ all_numbers qs) ≡ all_numbers qs = drop_at (production_numbers q) (all_numbers qs) (2 + length q.right) (omega arith) in
    rw (codes, symbols-codes q.right, rest, productions-of qs)

words-productions : (p : ℕ) (ws : List ℕ) (qs : List Production) → length qs ≡ p → ws ≡ all_numbers qs → productions_of p ws ≡ qs
words-productions p ws qs e f = rw (← e, f) (productions-of qs)

-- ---- the header

header_read : (b : List ℕ) (g : Grammar) (next : ℕ) → Limits g → Reads b 0 (g.n ∷ g.t ∷ g.start ∷ length g.productions ∷ []) next
    → header b ≡ got (record { n = g.n; t = g.t; start = g.start; p = length g.productions }) next
header_read b g next h (x, e, (y, f, (z, k, (w, l, end)))) =
    rw (field-read b 5 1 128 0 g.n x e h.some h.nonterminals)
    (rw (field-read b 5 0 4089 x g.t y f (omega arith) h.terminals)
    (rw (field-read b 6 0 (g.n - 1) y g.start z k (omega arith) (omega (arith, h.start)))
    (rw (field-read b 5 0 512 z (length g.productions) w l (omega arith) h.productions, end))))

header-was : (b : List ℕ) (h : Header) (next : ℕ) → header b ≡ got h next → Reads b 0 (h.n ∷ h.t ∷ h.start ∷ h.p ∷ []) next
header-was b h next e =
    let (n, x, f, e₁) = then-inverse (field b 5 1 128 0) _ e in
    let (t, y, k, e₂) = then-inverse (field b 5 0 4089 x) _ e₁ in
    let (start, z, l, e₃) = then-inverse (field b 6 0 (n - 1) y) _ e₂ in
    let (p, w, m, e₄) = then-inverse (field b 5 0 512 z) _ e₃ in
    let same : record { n = n; t = t; start = start; p = p } ≡ h = cc in
    let end : w ≡ next = cc in
    rw (← same) (x, field-number b 5 1 128 0 n x f, (y, field-number b 5 0 4089 x t y k, (z, field-number b 6 0 (n - 1) y start z l, (w, field-number b 5 0 512 z p w m, end))))

-- ---- the table

-- the numbers of a grammar within the limits, read up to the end, are the table read
table-read : (b : List ℕ) (g : Grammar) → Limits g → Reads b 0 (table_numbers g) (length b) → read_table b ≡ got g (length b)
unfolding read_table
table-read b g h r =
    let (mid, head, rest) = reads-split b 0 (g.n ∷ g.t ∷ g.start ∷ length g.productions ∷ []) (all_numbers g.productions) (length b) r in
    rw (
      header_read b g mid h head,
      productions-read b g g.productions 0 [] mid (length b) h.each (omega arith) (omega (arith, h.symbols)) rest,
      eq-eqb (length b) (length b) refl,
      productions-of g.productions,
    )

-- a grammar within the limits, whose numbers are read up to a place
pub record ReadsTable (b : List ℕ) (g : Grammar) (next : ℕ) : Type 0 where
  pub limits : Limits g
  pub numbers : Reads b 0 (table_numbers g) next

table-made : (b : List ℕ) (h : Header) (ws : List ℕ) (x y : ℕ) (qs : List Production) → header b ≡ got h x → length qs ≡ h.p → productions_of h.p ws ≡ qs
    → AllLimits (grammar_of h ws) qs → symbol_count qs ≤ 4096 → Reads b x (all_numbers qs) y → ReadsTable b (grammar_of h ws) y
table-made b h ws x y qs f count same each few numbers =
    let limits = header-limits b h x f in
    record {
      limits = record {
        some = limits.some;
        nonterminals = limits.nonterminals;
        terminals = limits.terminals;
        start = limits.start;
        productions = rw (same, count) limits.productions;
        each = subst (AllLimits (grammar_of h ws)) (sym same) each;
        symbols = rw same few;
      };
      numbers = rw (same, count) (reads-join b 0 (h.n ∷ h.t ∷ h.start ∷ h.p ∷ []) (all_numbers qs) x y (header-was b h x f) numbers);
    }

-- all productions are read: they are those of a grammar within the limits
pub productions-table : (b : List ℕ) (h : Header) (ws : List ℕ) (x y : ℕ) → header b ≡ got h x → productions b h.n h.t 0 h.p [] x ≡ got ws y → ReadsTable b (grammar_of h ws) y
productions-table b h ws x y f r =
    let read = productions-were b (grammar_of h ws) (header-limits b h x f).some h.p 0 [] x ws y (omega arith) (omega arith) r in
    table-made b h ws x y read.qs f read.count (words-productions h.p ws read.qs read.count read.words) read.limits (omega (arith, read.few)) read.numbers

-- a table that is read is read to its end, as the numbers of a grammar within the limits
pub table-was : (b : List ℕ) (g : Grammar) (next : ℕ) → read_table b ≡ got g next → ReadsTable b g (length b) × (next ≡ length b)
unfolding read_table
table-was b g next e =
    let (h, x, f, e₁) = then-inverse (header b) _ e in
    let (ws, y, r, e₂) = then-inverse (productions b h.n h.t 0 h.p [] x) _ e₁ in
    let (ok, same) = pick-inverse (eqb y (length b)) (grammar_of h ws) y 7 e₂ in
    let end : y ≡ length b = eqb-true y (length b) ok in
    let place : got (grammar_of h ws) y ≡ got g next = rw ok at e₂ in
    let next-end : y ≡ next = cc in
    (subst (ReadsTable b g) end (subst (λ (k : Grammar). ReadsTable b k y) same (productions-table b h ws x y f r)), sym next-end ∙ end)

-- ---- what is written is read, and what is read was written

codes-small : (g : Grammar) → Limits g → (ss : List Sym) → AllInRange g ss → Small (map code_of ss)
codes-small g h [] r = tt
codes-small g h (nonterminal i ∷ ss) r = (omega (arith, h.nonterminals, r.0), codes-small g h ss r.1)
codes-small g h (terminal x ∷ ss) r = (omega (arith, h.terminals, r.0), codes-small g h ss r.1)

productions-small : (g : Grammar) → Limits g → (qs : List Production) → AllLimits g qs → Small (all_numbers qs)
productions-small g h [] a = tt
productions-small g h (q ∷ qs) a =
    let l : ProductionLimits g q = a q (Memᴰ.head refl) in
    small-append (production_numbers q) (all_numbers qs) (omega (arith, l.left, h.nonterminals), (omega (arith, l.size), codes-small g h q.right l.right))
    (productions-small g h qs (λ p m. a p (Memᴰ.tail m)))

pub table-small : (g : Grammar) → Limits g → Small (table_numbers g)
table-small g h = (
  omega (arith, h.nonterminals),
  (omega (arith, h.terminals), (omega (arith, h.start, h.nonterminals), (omega (arith, h.productions), productions-small g h g.productions h.each))),
)

-- a table is bytes
pub table-bytes : (g : Grammar) → Limits g → Bytes (write_table g)
unfolding write_table
table-bytes g h = written-bytes (table_numbers g) (table-small g h)

-- a grammar within the limits, written, is read back as itself
pub written_read : (g : Grammar) → Limits g → read_table (write_table g) ≡ got g (length (write_table g))
unfolding write_table
written_read g h =
    let all : 0 + length (write_numbers (table_numbers g)) ≡ length (write_numbers (table_numbers g)) = omega arith in
    table-read (write_numbers (table_numbers g)) g h
    (rw all at (numbers-stand (write_numbers (table_numbers g)) 0 (table_numbers g) [] (table-small g h) (sym (append-nil (write_numbers (table_numbers g))))))

-- what is read was written
pub read-written : (b : List ℕ) → Bytes b → (g : Grammar) (next : ℕ) → read_table b ≡ got g next → (b ≡ write_table g) × Limits g
unfolding write_table
read-written b bytes g next e =
    let (read, end) = table-was b g next e in
    (numbers-written b bytes 0 (table_numbers g) (length b) read.numbers ∙ ap (λ (l : List ℕ). write_numbers (table_numbers g) ++ l) (drop-length b) ∙ append-nil (write_numbers (table_numbers g)), read.limits)

-- so a table is read exactly when it is the writing of a grammar within the limits
pub table-exactly : (b : List ℕ) → Bytes b → (g : Grammar) (next : ℕ) → (read_table b ≡ got g next) ↔ ((b ≡ write_table g) × Limits g × (next ≡ length b))
table-exactly b bytes g next = (
  λ e. let (w, h) = read-written b bytes g next e in (w, h, (table-was b g next e).1),
  λ (w, h, end). rw (end, w) (written_read g h),
)

-- no two tables are read as one grammar
pub one_table : (b c : List ℕ) → Bytes b → Bytes c → (g : Grammar) (x y : ℕ) → read_table b ≡ got g x → read_table c ≡ got g y → b ≡ c
one_table b c i j g x y e f = (read-written b i g x e).0 ∙ sym (read-written c j g y f).0

-- no two grammars are written as one table
pub one-grammar : (g h : Grammar) → Limits g → Limits h → write_table g ≡ write_table h → g ≡ h
one-grammar g h i j e =
    let first : read_table (write_table h) ≡ got g (length (write_table g)) = rw (← e) (written_read g i) in
    let second : read_table (write_table h) ≡ got h (length (write_table h)) = written_read h j in
    cc
