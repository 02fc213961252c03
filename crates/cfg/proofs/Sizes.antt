-- A grammar that is read has at most 512 productions and at most 4,096 nonterminal occurrences. Assumes nothing.
use Prim.Native.Nat.{ℕ, zero, suc, ◌+◌, ◌*◌, ◌-◌, ◌≤◌, min}
use native.Mathlib.Nat.{min-le_left, min-le_right}
use native.Mathlib.Omega.{arith}
use mathlib.Core.Path.{◌≡◌, refl, ap, ◌∙◌, subst}
use mathlib.Core.List.{List, [], ◌∷◌, ◌++◌, map}
use lib.ListN.{length, get_or, take, drop, length-append, length-drop, length-take, length-map}
use lib.Dec.{eqb}
use Rattle.cfg.specs.Grammar.{Sym, nonterminal, terminal, Grammar}
use Rattle.cfg.specs.Reading.{got}
use Rattle.cfg.specs.Written.{symbol_of, productions_of, nonterminals, occurrences}
use Rattle.cfg.specs.Words.{Sound}
use Rattle.cfg.specs.Table.{field, header, production, productions, read_table, grammar_of}
use Rattle.cfg.specs.Accept.{test_refusal, accept_table}
use Rattle.cfg.proofs.Field.{field-got-most}
use Rattle.cfg.proofs.Sound.{then-inverse, pick-inverse, Symbols, symbols-sound, productions-sound}
use Rattle.cfg.proofs.Meaning.{header-limits}

pub length-productions : (p : ℕ) (ws : List ℕ) → length (productions_of p ws) ≡ p
length-productions zero ws = refl
length-productions (suc p) ws = ap suc (length-productions p (drop (2 + get_or ws 1 0) ws))

nonterminals-few : (ss : List Sym) → nonterminals ss ≤ length ss
nonterminals-few [] = omega arith
nonterminals-few (nonterminal i ∷ ss) = omega (arith, nonterminals-few ss)
nonterminals-few (terminal x ∷ ss) = omega (arith, nonterminals-few ss)

-- each production takes two words that are no symbols
pub occurrences-few : (n p : ℕ) (ws : List ℕ) → Sound n p ws → occurrences (productions_of p ws) + 2 * p ≤ length ws
occurrences-few n zero ws s = omega arith
occurrences-few n (suc p) ws s =
    let size : ℕ = get_or ws 1 0 in
    let codes = take size (drop 2 ws) in
    let rest = occurrences-few n p (drop (2 + size) ws) s.1 in
    let here = nonterminals-few (map symbol_of codes) in
    let few : length (map symbol_of codes) ≤ size = rw (length-map codes symbol_of, length-take size (drop 2 ws)) (min-le_left size (length (drop 2 ws))) in
    omega (arith, s.0.whole, length-drop (2 + size) ws)

module _ (b : List ℕ) (n t : ℕ) where
  production-length : (total : ℕ) (ws : List ℕ) (at : ℕ) (ws' : List ℕ) (next : ℕ) → production b n t total ws at ≡ got ws' next → (length ws + 2 ≤ length ws') × (length ws' ≤ length ws + 2 + (4096 - total))
  production-length total ws at ws' next r =
      let (left, x, f, r₁) = then-inverse (field b 6 0 (n - 1) at) _ r in
      let (size, y, g, r₂) = then-inverse (field b 5 0 (min 64 (4096 - total)) x) _ r₁ in
      let read : Symbols n t size (ws ++ (left ∷ size ∷ [])) ws' = symbols-sound b n t size (ws ++ (left ∷ size ∷ [])) y ws' next r₂ in
      let most = field-got-most b 5 0 (min 64 (4096 - total)) x g in
      let least = min-le_right 64 (4096 - total) in
      let long : length ws' ≡ length ws + 2 + size = ap length read.all ∙ simp length-append (omega (arith, read.size)) in
      (omega arith, omega arith)

  productions-length : (i p : ℕ) (ws : List ℕ) (at : ℕ) (ws' : List ℕ) (next : ℕ) → 2 * i ≤ length ws → length ws ≤ 2 * i + 4096 → productions b n t i p ws at ≡ got ws' next
      → length ws' ≤ 2 * (i + p) + 4096
  unfolding productions
  productions-length i zero ws at ws' next l h r = let same : ws ≡ ws' = cc in rw (← same) (omega arith)
  productions-length i (suc p) ws at ws' next l h r =
      let (ws₁, x, f, r₁) = then-inverse (production b n t (length ws - 2 * i) ws at) _ r in
      let (low, high) = production-length (length ws - 2 * i) ws at ws₁ x f in
      let rest = productions-length (i + 1) p ws₁ x ws' next (omega arith) (omega arith) r₁ in
      omega arith

-- the limits of the rules on the sizes of a grammar
pub record Sizes (g : Grammar) : Type 0 where
  pub some : 1 ≤ g.n
  pub nonterminals : g.n ≤ 128
  pub productions : length g.productions ≤ 512
  pub positions : occurrences g.productions ≤ 4096

pub table-sizes : (b : List ℕ) (g : Grammar) (next : ℕ) → read_table b ≡ got g next → Sizes g
unfolding read_table
table-sizes b g next e =
    let (h, x, f, e₁) = then-inverse (header b) _ e in
    let (ws, y, r, e₂) = then-inverse (productions b h.n h.t 0 h.p [] x) _ e₁ in
    let (ok, same) = pick-inverse (eqb y (length b)) (grammar_of h ws) y 7 e₂ in
    let limits = header-limits b h x f in
    let (sound, all) = productions-sound b h.n h.t limits.some h.p x ws y r in
    let long = productions-length b h.n h.t 0 h.p [] x ws y (omega arith) (omega arith) r in
    rw (← same)
    (record {
      some = limits.some;
      nonterminals = limits.nonterminals;
      productions = rw (length-productions h.p ws) limits.productions;
      positions = omega (arith, occurrences-few h.n h.p ws sound);
    })

pub accepted-sizes : (b : List ℕ) (g : Grammar) (next : ℕ) → accept_table b ≡ got g next → Sizes g
unfolding accept_table
accepted-sizes b g next e =
    let (g', x, r, p) = then-inverse (read_table b) _ e in
    let (ok, same) = pick-inverse (eqb (test_refusal g'.productions g'.n) 0) g' x (test_refusal g'.productions g'.n) p in
    subst Sizes same (table-sizes b g' x r)
