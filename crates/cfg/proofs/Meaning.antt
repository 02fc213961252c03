-- What the refusals 8 and 9 say of a table that is read. Assumes nothing.
use Prim.Native.Nat.{ℕ, zero, suc, ◌+◌, ◌-◌, ◌≤◌, ◌<◌}
use native.Mathlib.Omega.{arith}
use mathlib.Core.Path.{◌≡◌, refl}
use mathlib.Core.Logic.{◌↔◌, ⊎_elim}
use mathlib.Core.List.Memᴰ
use mathlib.Core.List.{List, [], ◌∷◌, Memᴰ}
use mathlib.Core.Bool.{Bool, true, false}
use lib.ListN.{length, get_or, drop}
use lib.Dec.{eqb}
use borrow.Author.Tests.{not-true, eqb-true}
use Rattle.cfg.specs.Reading.{got, pick}
use Rattle.cfg.specs.Grammar.{Sym, nonterminal, Rule, AllInRange, Grammar, Production, Productive, LeftRecursive, Ranged, Accepted}
use Rattle.cfg.specs.Written.{productions_of}
use Rattle.cfg.specs.Words.{Sound, Below}
use Rattle.cfg.specs.Table.{read_table, header, field, productions, grammar_of, Header}
use Rattle.cfg.proofs.Field.{field-got-least, field-got-most}
use Rattle.cfg.proofs.Sound.{then-inverse, pick-inverse, productions-sound, InTable, range-in}
use Rattle.cfg.specs.Closure.{closure}
use Rattle.cfg.specs.Corners.{left_recursive}
use Rattle.cfg.specs.Accept.{misses, unproductive, test_refusal, accept_table}
use Rattle.cfg.proofs.Marks.{not-both, bool_cases, any_here, any-witness}
use Rattle.cfg.proofs.Decides.{Numbered, closure-decides, left-recursive-decides}

-- sound words hold numbered productions
sound-left : (n p : ℕ) (ws : List ℕ) → Sound n p ws → (q : Production) → Memᴰ q (productions_of p ws) → (q.left < n) × Below n q.right
sound-left n zero ws s q i = absurd (Memᴰ.not-nil i)
sound-left n (suc p) ws s q (Memᴰ.head e) = rw e (s.0.left, s.0.right)
sound-left n (suc p) ws s q (Memᴰ.tail i) = sound-left n p (drop (2 + get_or ws 1 0) ws) s.1 q i

pub sound-numbered : (n p : ℕ) (ws : List ℕ) → n ≤ 128 → Sound n p ws → Numbered n (productions_of p ws)
sound-numbered n p ws few s = record { few = few; left = λ q i. (sound-left n p ws s q i).0; right = λ q i. (sound-left n p ws s q i).1 }

-- a header that is read keeps its limits
pub record Limits (h : Header) : Type 0 where
  pub some : 1 ≤ h.n
  pub nonterminals : h.n ≤ 128
  pub terminals : h.t ≤ 4089
  pub start : h.start < h.n
  pub productions : h.p ≤ 512

pub header-limits : (b : List ℕ) (h : Header) (next : ℕ) → header b ≡ got h next → Limits h
header-limits b h next e =
    let (n, x, f, e₁) = then-inverse (field b 5 1 128 0) _ e in
    let (t, y, g, e₂) = then-inverse (field b 5 0 4089 x) _ e₁ in
    let (start, z, k, e₃) = then-inverse (field b 6 0 (n - 1) y) _ e₂ in
    let (p, w, l, e₄) = then-inverse (field b 5 0 512 z) _ e₃ in
    let same : record { n = n; t = t; start = start; p = p } ≡ h = cc in
    let least : 1 ≤ n = field-got-least b 5 1 128 0 f in
    let small : start ≤ n - 1 = field-got-most b 6 0 (n - 1) y k in
    rw (← same)
    (record {
      some = least;
      nonterminals = field-got-most b 5 1 128 0 f;
      terminals = field-got-most b 5 0 4089 x g;
      start = omega arith;
      productions = field-got-most b 5 0 512 z l;
    })

-- every grammar that is read has its numbers in range
pub record TableRead (g : Grammar) : Type 0 where
  pub numbered : Numbered g.n g.productions
  pub ranged : Ranged g
  pub terminals : g.t ≤ 4089

rules-in : (g : Grammar) → ((q : Production) → Memᴰ q g.productions → InTable g.n g.t q) → {A : ℕ} {γ : List Sym} → Rule g A γ → (A < g.n) × AllInRange g γ
rules-in g all {A} {γ} m = let q = all (record { left = A; right = γ }) m in (q.0, range-in g γ q.1)

pub table-read : (b : List ℕ) (g : Grammar) (next : ℕ) → read_table b ≡ got g next → TableRead g
unfolding read_table
table-read b g next e =
    let (h, x, f, e₁) = then-inverse (header b) _ e in
    let (ws, y, r, e₂) = then-inverse (productions b h.n h.t 0 h.p [] x) _ e₁ in
    let (ok, same) = pick-inverse (eqb y (length b)) (grammar_of h ws) y 7 e₂ in
    let limits = header-limits b h x f in
    let (sound, all) = productions-sound b h.n h.t limits.some h.p x ws y r in
    rw (← same)
    (record {
      numbered = sound-numbered h.n h.p ws limits.nonterminals sound;
      ranged = record { start = limits.start; rules = rules-in (grammar_of h ws) all };
      terminals = limits.terminals;
    })

module _ (g : Grammar) (N : Numbered g.n g.productions) where
  abbrev n : ℕ
  n = g.n

  abbrev ps : List Production
  ps = g.productions

  -- 8: a nonterminal is unproductive
  pub unproductive-decides : (unproductive ps n ≡ true) ↔ ((a : ℕ) × (a < n) × (Productive g (nonterminal a ∷ []) → ⊥))
  unfolding misses
  unproductive-decides = (
    λ e. let (a, l, t) = any-witness n _ e in (a, l, λ c. not-both ((closure-decides true g N a).1 c) (not-true _ t)),
    λ w. any_here n _ w.0 w.1 (⊎_elim (λ m. absurd (w.2 ((closure-decides true g N w.0).0 m))) (λ f. rw f) (bool_cases (get_or (closure true ps n) w.0 false))),
  )

  -- what the tests answer, and exactly when: no two of the cases can hold
  pub data Tested : ℕ → Type 0 where
    unproductive-eight : (a : ℕ) → a < n → (Productive g (nonterminal a ∷ []) → ⊥) → Tested 8
    left-recursive-nine : ((a : ℕ) → a < n → Productive g (nonterminal a ∷ [])) → LeftRecursive g → Tested 9
    passed_none : ((a : ℕ) → a < n → Productive g (nonterminal a ∷ [])) → (LeftRecursive g → ⊥) → Tested 0

  all-productive : unproductive ps n ≡ false → (a : ℕ) → a < n → Productive g (nonterminal a ∷ [])
  all-productive e a l = ⊎_elim
      (λ m. (closure-decides true g N a).0 m)
      (λ f. absurd (not-both (unproductive-decides.1 (a, l, λ c. not-both ((closure-decides true g N a).1 c) f)) e))
      (bool_cases (get_or (closure true ps n) a false))

  pub tested : Tested (test_refusal ps n)
  unfolding test_refusal
  tested = go (unproductive ps n) refl (left_recursive (closure false ps n) ps n) refl
    where
      go : (u : Bool) → unproductive ps n ≡ u → (l : Bool) → left_recursive (closure false ps n) ps n ≡ l → Tested (pick u 8 (pick l 9 0))
      go true e l f = let (a, k, v) = unproductive-decides.0 e in unproductive-eight a k v
      go false e true f = left-recursive-nine (all-productive e) ((left-recursive-decides g N).0 f)
      go false e false f = passed_none (all-productive e) (λ r. not-both ((left-recursive-decides g N).1 r) f)

-- an accepted table is an accepted grammar's
pub accepted : (b : List ℕ) (g : Grammar) (next : ℕ) → accept_table b ≡ got g next → Accepted g × TableRead g
unfolding accept_table
accepted b g next e =
    let (h, x, f, e₁) = then-inverse (read_table b) _ e in
    let (z, same) = pick-inverse (eqb (test_refusal h.productions h.n) 0) h x (test_refusal h.productions h.n) e₁ in
    let read = table-read b h x f in
    rw (← same) (by h read (test_refusal h.productions h.n) (eqb-true (test_refusal h.productions h.n) 0 z) (tested h read.numbered), read)
  where
    by : (h : Grammar) (read : TableRead h) (r : ℕ) → r ≡ 0 → Tested h read.numbered r → Accepted h
    by h read r e (unproductive-eight a l u) = absurd (omega arith)
    by h read r e (left-recursive-nine p l) = absurd (omega arith)
    by h read r e (passed_none p l) = record { ranged = read.ranged; productive = p; not-left-recursive = l }
