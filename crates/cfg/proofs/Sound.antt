-- The words that the reader puts down are sound. Assumes nothing.
use Prim.Native.Nat.{ℕ, zero, suc, ◌+◌, ◌*◌, ◌-◌, ◌/◌, ◌%◌, ◌≤◌, ◌<◌, min}
use native.Mathlib.Numerals.{add-one}
use native.Mathlib.Omega.{arith}
use mathlib.Core.Path.{◌≡◌, refl, sym, ap, subst, ◌∙◌}
use mathlib.Core.List.{List, [], ◌∷◌, ◌++◌, map, append_assoc, append-nil, Memᴰ}
use mathlib.Core.Bool.{Bool, true, false, ◌&&◌}
use mathlib.Core.Logic.{⊎_elim}
use lib.ListN.{length, get_or, take, drop, length-append, length-drop, get_or-append}
use lib.Seq.{take-append-le, drop-append-le, take_all, drop-length}
use lib.Dec.{ltb, leb, eqb}
use borrow.Author.Tests.{ltb-true, leb-true}
use Rattle.cfg.specs.Reading.{Reading, got, refused, pick, ◌then◌}
use Rattle.cfg.specs.Number.{number}
use Rattle.cfg.specs.Grammar.{Sym, nonterminal, terminal, Production, Grammar, AllInRange}
use Rattle.cfg.specs.Written.{symbol_of, production_at, productions_of}
use Rattle.cfg.specs.Words.{Below, Sound, SoundHead}
use Rattle.cfg.specs.Table.{field, is_symbol, symbol, symbols, production, productions}
use Rattle.cfg.proofs.Field.{got-refused, field-got-most}

-- what was read before the rest
pub then-inverse : {A B : Type 0} (m : Reading A) (f : A → ℕ → Reading B) {b : B} {next : ℕ} → (m then f) ≡ got b next
    → (a : A) × (x : ℕ) × (m ≡ got a x) × (f a x ≡ got b next)
then-inverse (got a x) f e = (a, x, refl, e)
then-inverse (refused r) f e = absurd (got-refused (sym e))

-- a test that did not refuse
pub pick-inverse : {A : Type 0} (t : Bool) (a : A) (x r : ℕ) {b : A} {next : ℕ} → pick t (got a x) (refused r) ≡ got b next → (t ≡ true) × (a ≡ b)
pick-inverse true a x r e = (refl, cc)
pick-inverse false a x r e = absurd (got-refused (sym e))

-- a grammar of these sizes, for the range of its symbols
abbrev pub sized : ℕ → ℕ → Grammar
sized n t = record { n = n; t = t; start = 0; productions = [] }

pub range-below : (n t : ℕ) (ss : List Sym) → AllInRange (sized n t) ss → Below n ss
range-below n t [] h = tt
range-below n t (nonterminal i ∷ ss) h = (h.0, range-below n t ss h.1)
range-below n t (terminal x ∷ ss) h = range-below n t ss h.1

pub range-in : (g : Grammar) (ss : List Sym) → AllInRange (sized g.n g.t) ss → AllInRange g ss
range-in g [] h = tt
range-in g (nonterminal i ∷ ss) h = (h.0, range-in g ss h.1)
range-in g (terminal x ∷ ss) h = (h.0, range-in g ss h.1)

pub both : (a b : Bool) → (a && b) ≡ true → (a ≡ true) × (b ≡ true)
both true b e = (refl, e)
both false b e = (e, absurd (let z : ◌≡◌ {A = ℕ} 0 1 = cc in omega arith))

pub symbol-ranged : (n t c : ℕ) (ss : List Sym) → is_symbol n t c ≡ true → AllInRange (sized n t) ss → AllInRange (sized n t) (symbol_of c ∷ ss)
symbol-ranged n t c ss e w = go (eqb (c % 2) 0) refl e
  where
    go : (b : Bool) → eqb (c % 2) 0 ≡ b → pick b (ltb (c / 2) n) (leb 5 (c / 2) && leb (c / 2) (t + 4)) ≡ true
        → AllInRange (sized n t) (pick b (nonterminal (c / 2)) (terminal (c / 2)) ∷ ss)
    go true q z = (ltb-true (c / 2) n z, w)
    go false q z = let (h, k) = both (leb 5 (c / 2)) (leb (c / 2) (t + 4)) z in ((leb-true 5 (c / 2) h, leb-true (c / 2) (t + 4) k), w)

-- symbols that are read stand behind what was there
pub record Symbols (n t count : ℕ) (ws ws' : List ℕ) : Type 0 where
  pub codes : List ℕ
  pub all : ws' ≡ ws ++ codes
  pub size : length codes ≡ count
  pub ranged : AllInRange (sized n t) (map symbol_of codes)

pub symbols-sound : (b : List ℕ) (n t count : ℕ) (ws : List ℕ) (at : ℕ) (ws' : List ℕ) (next : ℕ) → symbols b n t count ws at ≡ got ws' next → Symbols n t count ws ws'
unfolding symbols
symbols-sound b n t zero ws at ws' next e =
    let same : ws ≡ ws' = cc in
    record { codes = []; all = sym same ∙ sym (append-nil ws); size = refl; ranged = tt }
symbols-sound b n t (suc count) ws at ws' next e =
    let (c, x, s, r) = then-inverse (symbol b n t at) (λ c next. symbols b n t count (ws ++ (c ∷ [])) next) e in
    let (v, y, m, k) = then-inverse (number b at) (λ c next. pick (is_symbol n t c) (got c next) (refused 6)) s in
    let (ok, same) = pick-inverse (is_symbol n t v) v y 6 k in
    let rest : Symbols n t count (ws ++ (c ∷ [])) ws' = symbols-sound b n t count (ws ++ (c ∷ [])) x ws' next r in
    record {
      codes = c ∷ rest.codes;
      all = rest.all ∙ append_assoc ws (c ∷ []) rest.codes;
      size = ap suc rest.size;
      ranged = symbol-ranged n t c (map symbol_of rest.codes) (rw same at ok) rest.ranged;
    }

-- the words behind p productions
abbrev pub behind : ℕ → List ℕ → List ℕ
behind zero ws = ws
behind (suc p) ws = behind p (drop (2 + get_or ws 1 0) ws)

head-append : (n : ℕ) (ws vs : List ℕ) → SoundHead n ws → SoundHead n (ws ++ vs)
head-append n ws vs h =
    let zeroth : get_or (ws ++ vs) 0 0 ≡ get_or ws 0 0 = get_or-append ws vs 0 0 (omega (arith, h.whole)) in
    let first : get_or (ws ++ vs) 1 0 ≡ get_or ws 1 0 = get_or-append ws vs 0 1 (omega (arith, h.whole)) in
    let words : take (get_or ws 1 0) (drop 2 (ws ++ vs)) ≡ take (get_or ws 1 0) (drop 2 ws) =
    ap (take (get_or ws 1 0)) (drop-append-le 2 ws vs (omega (arith, h.whole)))
    ∙ take-append-le (get_or ws 1 0) (drop 2 ws) vs (omega (arith, h.whole, length-drop 2 ws)) in
    record {
      whole = rw (first, length-append) (omega (arith, h.whole));
      left = rw zeroth h.left;
      right = rw (first, words) h.right;
    }

-- one production more, where the words so far are used up
sound_more : (n p : ℕ) (ws vs : List ℕ) → Sound n p ws → behind p ws ≡ [] → SoundHead n vs → length vs ≡ 2 + get_or vs 1 0
    → Sound n (suc p) (ws ++ vs) × (behind (suc p) (ws ++ vs) ≡ [])
sound_more n zero ws vs s e h l = rw e ((h, tt), rw (← l) (drop-length vs))
sound_more n (suc p) ws vs s e h l =
    let first : get_or (ws ++ vs) 1 0 ≡ get_or ws 1 0 = get_or-append ws vs 0 1 (omega (arith, s.0.whole)) in
    let rest : drop (2 + get_or ws 1 0) (ws ++ vs) ≡ drop (2 + get_or ws 1 0) ws ++ vs = drop-append-le (2 + get_or ws 1 0) ws vs s.0.whole in
    let (more, used) = sound_more n p (drop (2 + get_or ws 1 0) ws) vs s.1 e h l in
    ((head-append n ws vs s.0, rw (first, rest) more), rw (first, rest) used)

-- a production with every number in range, and all of those in some words
abbrev pub InTable : ℕ → ℕ → Production → Type 0
InTable n t q = (q.left < n) × AllInRange (sized n t) q.right

abbrev pub AllInTable : ℕ → ℕ → ℕ → List ℕ → Type 0
AllInTable n t p ws = (q : Production) → Memᴰ q (productions_of p ws) → InTable n t q

ranged-more : (n t p : ℕ) (ws vs : List ℕ) → Sound n p ws → behind p ws ≡ [] → AllInTable n t p ws → InTable n t (production_at vs) → AllInTable n t (suc p) (ws ++ vs)
ranged-more n t zero ws vs s e f h q m =
    let m' : Memᴰ q (production_at vs ∷ []) = subst (λ (l : List ℕ). Memᴰ q (productions_of 1 (l ++ vs))) e m in
    subst (InTable n t) (sym (mathlib.Core.List.Memᴰ.eq_of_singleton m')) h
ranged-more n t (suc p) ws vs s e f h q m =
    let zeroth : get_or (ws ++ vs) 0 0 ≡ get_or ws 0 0 = get_or-append ws vs 0 0 (omega (arith, s.0.whole)) in
    let first : get_or (ws ++ vs) 1 0 ≡ get_or ws 1 0 = get_or-append ws vs 0 1 (omega (arith, s.0.whole)) in
    let rest : drop (2 + get_or ws 1 0) (ws ++ vs) ≡ drop (2 + get_or ws 1 0) ws ++ vs = drop-append-le (2 + get_or ws 1 0) ws vs s.0.whole in
    let words : take (get_or ws 1 0) (drop 2 (ws ++ vs)) ≡ take (get_or ws 1 0) (drop 2 ws) =
    ap (take (get_or ws 1 0)) (drop-append-le 2 ws vs (omega (arith, s.0.whole)))
    ∙ take-append-le (get_or ws 1 0) (drop 2 ws) vs (omega (arith, s.0.whole, length-drop 2 ws)) in
    ⊎_elim
    (λ (i : q ≡ production_at (ws ++ vs)). rw i (rw (zeroth, first, words) (f (production_at ws) (mathlib.Core.List.Memᴰ.head refl))))
    (λ i. ranged-more n t p (drop (2 + get_or ws 1 0) ws) vs s.1 e (λ r j. f r (mathlib.Core.List.Memᴰ.tail j)) h q (rw (first, rest) at i))
    (mathlib.Core.List.Memᴰ.cases_cons m)

module _ (b : List ℕ) (n t : ℕ) (some : 1 ≤ n) where
  production-sound : (total p : ℕ) (ws : List ℕ) (at : ℕ) (ws' : List ℕ) (next : ℕ) → Sound n p ws → behind p ws ≡ []
      → AllInTable n t p ws → production b n t total ws at ≡ got ws' next → Sound n (p + 1) ws' × (behind (p + 1) ws' ≡ []) × AllInTable n t (p + 1) ws'
  production-sound total p ws at ws' next s e t' r =
      let (left, x, f, r₁) = then-inverse (field b 6 0 (n - 1) at) _ r in
      let (size, y, g, r₂) = then-inverse (field b 5 0 (min 64 (4096 - total)) x) _ r₁ in
      let read : Symbols n t size (ws ++ (left ∷ size ∷ [])) ws' = symbols-sound b n t size (ws ++ (left ∷ size ∷ [])) y ws' next r₂ in
      let small : left ≤ n - 1 = field-got-most b 6 0 (n - 1) at f in
      let words : ws' ≡ ws ++ (left ∷ size ∷ read.codes) = read.all ∙ append_assoc ws (left ∷ size ∷ []) read.codes in
      let whole : take size read.codes ≡ read.codes = take_all size read.codes (omega (arith, read.size)) in
      let (sound, used) = sound_more n p ws (left ∷ size ∷ read.codes) s e
      (record { whole = omega (arith, read.size); left = omega (arith, small, some); right = rw whole (range-below n t (map symbol_of read.codes) read.ranged) })
      (omega (arith, read.size)) in
      rw (words, add-one p) (sound, used, ranged-more n t p ws (left ∷ size ∷ read.codes) s e t' (omega (arith, small, some), rw whole read.ranged))

  pub productions-ranged : (i p : ℕ) (ws : List ℕ) (at : ℕ) (ws' : List ℕ) (next : ℕ) → Sound n i ws → behind i ws ≡ [] → AllInTable n t i ws
      → productions b n t i p ws at ≡ got ws' next → Sound n (i + p) ws' × AllInTable n t (i + p) ws'
  unfolding productions
  productions-ranged i zero ws at ws' next s e t' r =
      let same : ws ≡ ws' = cc in
      let none : i + 0 ≡ i = omega arith in
      rw (none, ← same) (s, t')
  productions-ranged i (suc p) ws at ws' next s e t' r =
      let (ws₁, x, f, r₁) = then-inverse (production b n t (length ws - 2 * i) ws at) _ r in
      let (s₁, e₁, t₁) = production-sound (length ws - 2 * i) i ws at ws₁ x s e t' f in
      let one : i + suc p ≡ (i + 1) + p = omega arith in
      rw one (productions-ranged (i + 1) p ws₁ x ws' next s₁ e₁ t₁ r₁)

  pub productions-sound : (p at : ℕ) (ws' : List ℕ) (next : ℕ) → productions b n t 0 p [] at ≡ got ws' next → Sound n p ws' × AllInTable n t p ws'
  productions-sound p at ws' next r =
      let all : 0 + p ≡ p = omega arith in
      rw all at (productions-ranged 0 p [] at ws' next tt refl (λ q m. absurd (mathlib.Core.List.Memᴰ.not-nil m)) r)
