-- The table as questions: its reader is theirs, and the numbers that answer them are those of the grammars within the limits. Assumes nothing.
use Prim.Native.Nat.{ℕ, zero, suc, ◌+◌, ◌*◌, ◌-◌, ◌≤◌, ◌<◌, min}
use native.Mathlib.Omega.{arith}
use mathlib.Core.Path.{◌≡◌, refl, sym, ap, subst, ◌∙◌}
use mathlib.Core.Logic.{◌⊎◌, inl, inr}
use mathlib.Core.List.{List, [], ◌∷◌, ◌++◌, map, append_assoc, append-nil}
use mathlib.Core.Bool.{Bool, true, false, ◌&&◌}
use lib.ListN.{length}
use lib.Dec.{leb, eqb}
use borrow.Author.Tests.{leb-true, le-leb, lt-ltb, eq-eqb, eqb-true}
use Rattle.cfg.specs.Grammar.{Sym, nonterminal, terminal, Production, Grammar, InRange}
use Rattle.cfg.specs.Reading.{Reading, got, refused, pick, ◌then◌}
use Rattle.cfg.specs.Number.{number}
use Rattle.cfg.specs.Written.{symbol_of}
use Rattle.cfg.specs.Table.{field, is_symbol, symbols, productions, header, Header, ends, grammar_of, read_table}
use Rattle.cfg.specs.Write.{write_numbers, code_of, all_numbers, table_numbers, write_table, Limits}
use Rattle.cfg.specs.Refused.{all_kinds, table_kinds}
use Rattle.cfg.proofs.Sound.{then-inverse, pick-inverse, both, sized}
use Rattle.cfg.proofs.Numbers.{Reads, numbers-stand, reads_same}
use Rattle.cfg.proofs.RoundTrip.{code-symbol, passes-range, table-was, written_read}
use Rattle.cfg.proofs.Questions.{Tree, done, ask, run, Accepts, kinds, Live, accepts-small, run-got, accepts-run}

-- the tests and the questions of the table, in its order
abbrev inside : ℕ → ℕ → ℕ → Bool
inside least most v = leb least v && leb v most

abbrev symbols_tree : {A : Type 0} → ℕ → ℕ → ℕ → List ℕ → (List ℕ → Tree A) → Tree A
symbols_tree n t zero ws more = more ws
symbols_tree n t (suc count) ws more = ask 6 (is_symbol n t) (λ c. symbols_tree n t count (ws ++ (c ∷ [])) more)

abbrev productions_tree : {A : Type 0} → ℕ → ℕ → ℕ → ℕ → List ℕ → (List ℕ → Tree A) → Tree A
productions_tree n t i zero ws more = more ws
productions_tree n t i (suc p) ws more =
    ask 6 (inside 0 (n - 1)) (λ left.
    ask 5 (inside 0 (min 64 (4096 - (length ws - 2 * i)))) (λ size.
    symbols_tree n t size (ws ++ (left ∷ size ∷ [])) (λ ws. productions_tree n t (i + 1) p ws more)))

pub table_tree : Tree Grammar
table_tree =
    ask 5 (inside 1 128) (λ n.
    ask 5 (inside 0 4089) (λ t.
    ask 6 (inside 0 (n - 1)) (λ start.
    ask 5 (inside 0 512) (λ p.
    productions_tree n t 0 p [] (λ ws. done (grammar_of (record { n = n; t = t; start = start; p = p }) ws))))))

-- ---- its reader

then-assoc : {A B C : Type 0} (m : Reading A) (f : A → ℕ → Reading B) (g : B → ℕ → Reading C) → ((m then f) then g) ≡ (m then λ a x. (f a x then g))
then-assoc (got a x) f g = refl
then-assoc (refused r) f g = refl

then_same : {A B : Type 0} (m : Reading A) (f g : A → ℕ → Reading B) → ((a : A) (x : ℕ) → f a x ≡ g a x) → (m then f) ≡ (m then g)
then_same (got a x) f g e = e a x
then_same (refused r) f g e = refl

-- a number that is tested, what follows it, and what follows that
asked : {B C : Type 0} (m : Reading ℕ) (ok : ℕ → Bool) (kind : ℕ) (f : ℕ → ℕ → Reading B) (g : B → ℕ → Reading C) (h : ℕ → ℕ → Reading C) → ((v x : ℕ) → h v x ≡ (f v x then g))
    → (m then λ v x. pick (ok v) (h v x) (refused kind)) ≡ (((m then λ v x. pick (ok v) (got v x) (refused kind)) then f) then g)
asked (refused r) ok kind f g h e = refl
asked (got v x) ok kind f g h e = by (ok v)
  where
    by : (t : Bool) → pick t (h v x) (refused kind) ≡ ((pick t (got v x) (refused kind) then f) then g)
    by true = e v x
    by false = refl

module _ {A : Type 0} (b : List ℕ) (n t : ℕ) where
  run-symbols : (more : List ℕ → Tree A) (count : ℕ) (ws : List ℕ) (at : ℕ) → run b (symbols_tree n t count ws more) at ≡ (symbols b n t count ws at then λ ws next. run b (more ws) next)
  unfolding symbols
  run-symbols more zero ws at = refl
  run-symbols more (suc count) ws at = asked (number b at) (is_symbol n t) 6 _ _ _ (λ c x. run-symbols more count (ws ++ (c ∷ [])) x)

  run-productions : (more : List ℕ → Tree A) (p i : ℕ) (ws : List ℕ) (at : ℕ)
      → run b (productions_tree n t i p ws more) at ≡ (productions b n t i p ws at then λ ws next. run b (more ws) next)
  unfolding productions
  run-productions more zero i ws at = refl
  run-productions more (suc p) i ws at =
      let rest : List ℕ → ℕ → Reading (List ℕ) = λ ws next. productions b n t (i + 1) p ws next in
      let last : List ℕ → ℕ → Reading A = λ ws next. run b (more ws) next in
      asked (number b at) (inside 0 (n - 1)) 6 (λ left x. (field b 5 0 (min 64 (4096 - (length ws - 2 * i))) x then λ size y. symbols b n t size (ws ++ (left ∷ size ∷ [])) y) then rest) last _
      (λ left x.
      asked (number b x) (inside 0 (min 64 (4096 - (length ws - 2 * i)))) 5 (λ size y. symbols b n t size (ws ++ (left ∷ size ∷ [])) y then rest) last _
      (λ size y.
      run-symbols (λ ws. productions_tree n t (i + 1) p ws more) size (ws ++ (left ∷ size ∷ [])) y
      ∙ then_same (symbols b n t size (ws ++ (left ∷ size ∷ [])) y) _ _ (λ ws z. run-productions more p (i + 1) ws z)
      ∙ sym (then-assoc (symbols b n t size (ws ++ (left ∷ size ∷ [])) y) rest last))
      ∙ ap (λ (m : Reading (List ℕ)). m then last) (sym (then-assoc (field b 5 0 (min 64 (4096 - (length ws - 2 * i))) x) _ rest)))
      ∙ ap (λ (m : Reading (List ℕ)). m then last) (sym (then-assoc (field b 6 0 (n - 1) at) _ rest))

run-header : (b : List ℕ) → run b table_tree 0 ≡ (header b then λ h x. productions b h.n h.t 0 h.p [] x then λ ws next. got (grammar_of h ws) next)
unfolding table_tree
run-header b =
    let last : Header → ℕ → Reading Grammar = λ h x. productions b h.n h.t 0 h.p [] x then λ ws next. got (grammar_of h ws) next in
    asked (number b 0) (inside 1 128) 5 _ last _ (λ n x.
    asked (number b x) (inside 0 4089) 5 _ last _ (λ t y.
    asked (number b y) (inside 0 (n - 1)) 6 _ last _ (λ start z.
    asked (number b z) (inside 0 512) 5 (λ p w. got (record { n = n; t = t; start = start; p = p }) w) last _ (λ p w.
    run-productions b n t (λ ws. done (grammar_of (record { n = n; t = t; start = start; p = p }) ws)) p 0 [] w))))

pub run-table : (b : List ℕ) → (run b table_tree 0 then λ g next. ends b g next) ≡ read_table b
unfolding read_table
run-table b =
    rw (run-header b)
    (then-assoc (header b) _ (λ g next. ends b g next)
    ∙ then_same (header b) _ _ (λ h x. then-assoc (productions b h.n h.t 0 h.p [] x) _ (λ g next. ends b g next)))

-- ---- its questions can be answered

live-done : {A : Type 0} (a : A) → Live (done a)
unfolding Live
live-done a = tt

live-field : {A : Type 0} (kind least most : ℕ) (go : ℕ → Tree A) → (kind ≡ 5) ⊎ (kind ≡ 6) → least ≤ most → most < 16384
    → ((v : ℕ) → least ≤ v → v ≤ most → Live (go v)) → Live (ask kind (inside least most) go)
unfolding Live
live-field kind least most go k h small live = (
  k,
  (least, rw (le-leb least least (omega arith), le-leb least most h)),
  λ v o. let (p, q) = both (leb least v) (leb v most) o in (omega (arith, leb-true v most q), live v (leb-true least v p) (leb-true v most q)),
)

code-small : (n t c : ℕ) → n ≤ 128 → t ≤ 4089 → is_symbol n t c ≡ true → c < 16384
code-small n t c h k e = rw (← (code-symbol c)) (by (symbol_of c) (passes-range (sized n t) c e))
  where
    by : (s : Sym) → InRange (sized n t) s → code_of s < 16384
    by (nonterminal i) r = omega arith
    by (terminal x) r = omega arith

module _ {A : Type 0} (n t : ℕ) (some : 1 ≤ n) (few : n ≤ 128) (terminals : t ≤ 4089) where
  live-symbols : (more : List ℕ → Tree A) → ((ws : List ℕ) → Live (more ws)) → (count : ℕ) (ws : List ℕ) → Live (symbols_tree n t count ws more)
  unfolding Live
  live-symbols more l zero ws = l ws
  live-symbols more l (suc count) ws = (
    inr refl,
    (0, lt-ltb 0 n (omega arith)),
    λ c o. (code-small n t c few terminals o, live-symbols more l count (ws ++ (c ∷ []))),
  )

  live-productions : (more : List ℕ → Tree A) → ((ws : List ℕ) → Live (more ws)) → (p i : ℕ) (ws : List ℕ) → Live (productions_tree n t i p ws more)
  live-productions more l zero i ws = l ws
  live-productions more l (suc p) i ws =
      live-field 6 0 (n - 1) _ (inr refl) (omega arith) (omega arith) (λ left h k.
      live-field 5 0 (min 64 (4096 - (length ws - 2 * i))) _ (inl refl) (omega arith) (omega arith) (λ size h k.
      live-symbols (λ ws. productions_tree n t (i + 1) p ws more) (λ ws. live-productions more l p (i + 1) ws) size (ws ++ (left ∷ size ∷ []))))

pub live_table : Live table_tree
unfolding table_tree
live_table =
    live-field 5 1 128 _ (inl refl) (omega arith) (omega arith) (λ n h k.
    live-field 5 0 4089 _ (inl refl) (omega arith) (omega arith) (λ t h' k'.
    live-field 6 0 (n - 1) _ (inr refl) (omega arith) (omega arith) (λ start h'' k''.
    live-field 5 0 512 _ (inl refl) (omega arith) (omega arith) (λ p l m.
    live-productions n t h k k' (λ ws. done (grammar_of (record { n = n; t = t; start = start; p = p }) ws)) (λ ws. live-done _) p 0 []))))

-- ---- their refusals

module _ {A : Type 0} (n t : ℕ) where
  kinds-symbols : (more : List ℕ → Tree A) (ss : List Sym) (ws rest : List ℕ)
      → kinds (symbols_tree n t (length ss) ws more) (map code_of ss ++ rest) ≡ map (λ (s : Sym). 6) ss ++ kinds (more (ws ++ map code_of ss)) rest
  kinds-symbols more [] ws rest = rw (append-nil ws)
  kinds-symbols more (s ∷ ss) ws rest =
      ap (λ (l : List ℕ). 6 ∷ l) (kinds-symbols more ss (ws ++ (code_of s ∷ [])) rest
      ∙ ap (λ (l : List ℕ). map (λ (s : Sym). 6) ss ++ kinds (more l) rest) (append_assoc ws (code_of s ∷ []) (map code_of ss)))

  kinds-productions : (last : List ℕ → A) (qs : List Production) (i : ℕ) (ws : List ℕ)
      → kinds (productions_tree n t i (length qs) ws (λ ws. done (last ws))) (all_numbers qs) ≡ all_kinds qs
  kinds-productions last [] i ws = refl
  kinds-productions last (q ∷ qs) i ws =
      ap (λ (l : List ℕ). 6 ∷ 5 ∷ l)
      (kinds-symbols (λ ws. productions_tree n t (i + 1) (length qs) ws (λ ws. done (last ws))) q.right (ws ++ (q.left ∷ length q.right ∷ [])) (all_numbers qs)
      ∙ ap (λ (l : List ℕ). map (λ (s : Sym). 6) q.right ++ l) (kinds-productions last qs (i + 1) _))

pub kinds-table : (g : Grammar) → kinds table_tree (table_numbers g) ≡ table_kinds g
unfolding table_tree
kinds-table g = ap (λ (l : List ℕ). 5 ∷ 5 ∷ 6 ∷ 5 ∷ l) (kinds-productions g.n g.t (λ ws. grammar_of (record { n = g.n; t = g.t; start = g.start; p = length g.productions }) ws) g.productions 0 [])

-- ---- the numbers that answer them

pub accepts-table : (vs : List ℕ) → Accepts table_tree vs → (g : Grammar) × Limits g × (table_numbers g ≡ vs)
accepts-table vs h =
    let all : 0 + length (write_numbers vs) ≡ length (write_numbers vs) = omega arith in
    let reads : Reads (write_numbers vs) 0 vs (length (write_numbers vs)) = rw all at (numbers-stand (write_numbers vs) 0 vs [] (accepts-small table_tree live_table vs h) (sym (append-nil (write_numbers vs)))) in
    let (g, e) = accepts-run (write_numbers vs) table_tree vs 0 (length (write_numbers vs)) h reads in
    let read : read_table (write_numbers vs) ≡ got g (length (write_numbers vs)) = sym (run-table (write_numbers vs)) ∙ rw (e, eq-eqb (length (write_numbers vs)) (length (write_numbers vs)) refl) in
    let was = (table-was (write_numbers vs) g (length (write_numbers vs)) read).0 in
    (g, was.limits, reads_same (write_numbers vs) 0 (table_numbers g) vs was.numbers reads)

pub table-accepts : (g : Grammar) → Limits g → Accepts table_tree (table_numbers g)
table-accepts g h =
    let (a, x, e, f) = then-inverse (run (write_table g) table_tree 0) (λ a next. ends (write_table g) a next) (run-table (write_table g) ∙ written_read g h) in
    let (ok, same) = pick-inverse (eqb x (length (write_table g))) a x 7 f in
    let end : x ≡ length (write_table g) = eqb-true x (length (write_table g)) ok in
    let (vs, k, r) = run-got (write_table g) table_tree 0 a x e in
    let was = (table-was (write_table g) g (length (write_table g)) (written_read g h)).0 in
    subst (Accepts table_tree) (reads_same (write_table g) 0 vs (table_numbers g) (subst (Reads (write_table g) 0 vs) end r) was.numbers) k
