-- No byte of a text is looked at more than twice, apart from comparing names and literals: the bytes are handed to the automaton one by one, each step
-- takes of the rest of the text no more than the byte behind a quote, and numbering takes no byte at all. Assumes nothing.
use Prim.Native.Nat.{ℕ, suc, ◌+◌, ◌/◌, ◌≤◌, ◌<◌}
use native.Mathlib.Omega.{arith}
use mathlib.Core.Path.{◌≡◌, refl, sym}
use mathlib.Core.List.{List, [], ◌∷◌, ◌++◌}
use mathlib.Core.Bool.{Bool, true, false}
use lib.ListN.{get_or}
use lib.Dec.{leb, eqb}
use borrow.Author.Tests.{eqb-true, eq-eqb, ne_eqb}
use Rattle.cfg.specs.Reading.{pick}
use Rattle.abnf_tables.specs.Run.{Run, on, refused, ◌then◌}
use Rattle.abnf_tables.specs.Bytes.{letter}
use Rattle.abnf_tables.specs.Tables.{Tables, code_of, element, used, defined, literal, opened}
use Rattle.abnf_rules.specs.Machine.{State, to, begins, spaced, wanted, inside, step, scanned}
use Rattle.abnf_rules.specs.declared.machine.Mode.{Mode}
use Rattle.abnf_rules.specs.declared.machine.Mode.TheVariants.{Blank, Naming, Equals, Want, Name, Quote, After, Spaced}
use Rattle.abnf_rules.specs.declared.machine.Line.{Line}
use Rattle.abnf_rules.specs.declared.machine.Line.TheVariants.{Inside, Comment, Return, Ended}
use Rattle.abnf.specs.Numbering.{number_of, symbol_of, right, alternatives, productions_from, grammar_of}
use Rattle.abnf_grammar.specs.Looks.{looks, looked, times, Alike, SameBehindQuotes}

-- ---- how often

times_none : (j : ℕ) → times j [] ≡ 0
unfolding times
times_none j = refl

times-append : (j : ℕ) (xs ys : List ℕ) → times j (xs ++ ys) ≡ times j xs + times j ys
unfolding times
times-append j [] ys = omega arith
times-append j (x ∷ xs) ys = let h = times-append j xs ys in omega arith

-- of one byte: its own place, and at most the next
looks-few : (j at b : ℕ) → times j (looks at b) ≤ pick (eqb at j) 1 0 + pick (eqb (at + 1) j) 1 0
unfolding times
looks-few j at b = by (eqb b 34)
  where
    by : (a : Bool) → pick (eqb at j) 1 0 + times j (pick a ((at + 1) ∷ []) []) ≤ pick (eqb at j) 1 0 + pick (eqb (at + 1) j) 1 0
    by true = omega arith
    by false = omega arith

-- never before its turn
looked-before : (j at : ℕ) (bs : List ℕ) → j < at → times j (looked at bs) ≡ 0
unfolding looked
looked-before j at [] h = times_none j
looked-before j at (b ∷ bs) h =
    let f = rw (ne_eqb at j (λ e. omega arith), ne_eqb (at + 1) j (λ e. omega arith)) at (looks-few j at b) in
    omega (arith, times-append j (looks at b) (looked (at + 1) bs), looked-before j (at + 1) bs (omega arith), f)

-- once where these bytes begin
looked-first : (at : ℕ) (bs : List ℕ) → times at (looked at bs) ≤ 1
unfolding looked
looked-first at [] = omega (arith, times_none at)
looked-first at (b ∷ bs) =
    let f = rw (eq-eqb at at refl, ne_eqb (at + 1) at (λ e. omega arith)) at (looks-few at at b) in
    omega (arith, times-append at (looks at b) (looked (at + 1) bs), looked-before at (at + 1) bs (omega arith), f)

-- and twice anywhere
looked-few : (j at : ℕ) (bs : List ℕ) → times j (looked at bs) ≤ 2
unfolding looked
looked-few j at [] = omega (arith, times_none j)
looked-few j at (b ∷ bs) = by (eqb at j) refl (eqb (at + 1) j) refl (looked-few j (at + 1) bs)
  where
    once : at + 1 ≡ j → times j (looked (at + 1) bs) ≤ 1
    once s = rw (sym s) (looked-first (at + 1) bs)

    sum : times j (looks at b ++ looked (at + 1) bs) ≡ times j (looks at b) + times j (looked (at + 1) bs)
    sum = times-append j (looks at b) (looked (at + 1) bs)

    by : (x : Bool) → eqb at j ≡ x → (y : Bool) → eqb (at + 1) j ≡ y → times j (looked (at + 1) bs) ≤ 2 → times j (looks at b ++ looked (at + 1) bs) ≤ 2
    by true e y f r =
        let s : at ≡ j = eqb-true at j e in
        let k = rw (e, ne_eqb (at + 1) j (λ q. omega arith)) at (looks-few j at b) in
        omega (arith, sum, looked-before j (at + 1) bs (omega arith), k)
    by false e true f r =
        let s : at + 1 ≡ j = eqb-true (at + 1) j f in
        let k = rw (e, f) at (looks-few j at b) in
        let o : times j (looked (at + 1) bs) ≤ 1 = once s in
        omega (arith, sum, k)
    by false e false f r = let k = rw (e, f) at (looks-few j at b) in omega (arith, sum, k)

-- no byte of a text is looked at more than twice
pub looked-twice : (text : List ℕ) (j : ℕ) → times j (looked 0 text) ≤ 2
looked-twice text j = looked-few j 0 text

-- ---- that this is all: what a step takes of the text

module _ (text other : List ℕ) (w : Alike text other) where
  used-sees : (from : ℕ) (t : Tables) → used text from t ≡ used other from t
  unfolding used
  used-sees from t = rw (w.found false from t.names)

  defined-sees : (from : ℕ) (t : Tables) → defined text from t ≡ defined other from t
  unfolding defined
  defined-sees from t = rw (w.found false from t.names)

  literal-sees : (from : ℕ) (t : Tables) → literal text from t ≡ literal other from t
  unfolding literal
  literal-sees from t = rw (w.found true from t.literals)

  -- where an element begins with a quote, the next byte
  begins-sees : (at b : ℕ) (t : Tables) → (b ≡ 34 → get_or text (at + 1) 0 ≡ get_or other (at + 1) 0) → begins text at b t ≡ begins other at b t
  unfolding begins
  begins-sees at b t h = by (eqb b 34) refl
    where
      by : (a : Bool) → eqb b 34 ≡ a
          → pick (letter b) (element at t then to (Name at)) (pick a (pick (eqb (get_or text (at + 1) 0) 34) (refused 18 at) (element at t then to (Quote at))) (pick (eqb b 91) (element at t then λ u. opened at u then to Want) (refused 18 at)))
          ≡ pick (letter b) (element at t then to (Name at)) (pick a (pick (eqb (get_or other (at + 1) 0) 34) (refused 18 at) (element at t then to (Quote at))) (pick (eqb b 91) (element at t then λ u. opened at u then to Want) (refused 18 at)))
      by true e = rw (h (eqb-true b 34 e))
      by false e = refl

  inside-sees : (at b : ℕ) (m : Mode) (t : Tables) → (b ≡ 34 → get_or text (at + 1) 0 ≡ get_or other (at + 1) 0) → inside text at b m t ≡ inside other at b m t
  unfolding inside wanted spaced
  inside-sees at b Blank t h = refl
  inside-sees at b (Naming from) t h = rw (defined-sees from t)
  inside-sees at b Equals t h = refl
  inside-sees at b Want t h = rw (begins-sees at b t h)
  inside-sees at b (Name from) t h = rw (used-sees from t)
  inside-sees at b (Quote from) t h = rw (literal-sees (from + 1) t)
  inside-sees at b After t h = refl
  inside-sees at b Spaced t h = rw (begins-sees at b t h)

  step-sees : (at b : ℕ) (l : Line) (m : Mode) (t : Tables) → (b ≡ 34 → get_or text (at + 1) 0 ≡ get_or other (at + 1) 0) → step text at b l m t ≡ step other at b l m t
  unfolding step
  step-sees at b Inside m t h = inside-sees at b m t h
  step-sees at b Comment m t h = refl
  step-sees at b Return m t h = refl
  step-sees at b Ended m t h = refl

  -- the bytes handed over one by one are read alike in two texts that differ in nothing but what is not looked at
  pub scan-sees : (at : ℕ) (bs : List ℕ) (s : State) → SameBehindQuotes text other at bs → scanned text at bs s ≡ scanned other at bs s
  unfolding scanned
  scan-sees at [] s h = refl
  scan-sees at (b ∷ bs) s h =
      let e : step text at b s.line s.mode s.tables ≡ step other at b s.line s.mode s.tables = step-sees at b s.line s.mode s.tables (λ q. let k : at + 0 + 1 ≡ at + 1 = omega arith in rw k at (h 0 q)) in
      rw e (by (step other at b s.line s.mode s.tables) (λ u. scan-sees (at + 1) bs u (λ i q. let k : at + 1 + i + 1 ≡ at + suc i + 1 = omega arith in rw k (h (suc i) q))))
    where
      by : (r : Run State) → ((u : State) → scanned text (at + 1) bs u ≡ scanned other (at + 1) bs u)
          → pick (leb 32768 at) (refused 20 at) (r then scanned text (at + 1) bs) ≡ pick (leb 32768 at) (refused 20 at) (r then scanned other (at + 1) bs)
      by (on u) f = rw (f u)
      by (refused n p) f = refl

  -- numbering takes of the text no more than the order of names
  number-sees : (names : List ℕ) (l : ℕ) → number_of text names l ≡ number_of other names l
  unfolding number_of
  number-sees names l = rw (w.ordered (get_or names l 0) names)

  symbol-sees : (names : List ℕ) (c : ℕ) → symbol_of text names c ≡ symbol_of other names c
  unfolding symbol_of
  symbol-sees names c = rw (number-sees names (c / 2))

  right-sees : (names : List ℕ) (l : ℕ) (is : List ℕ) → right text names l is ≡ right other names l is
  unfolding right
  right-sees names l [] = refl
  right-sees names l (i ∷ is) = rw (right-sees names l is, symbol-sees names (code_of i))

  alternatives-see : (names : List ℕ) (l a : ℕ) (is : List ℕ) → alternatives text names l a is ≡ alternatives other names l a is
  unfolding alternatives
  alternatives-see names l a [] = refl
  alternatives-see names l a (i ∷ is) = rw (alternatives-see names l a is, right-sees names l is)

  productions-see : (names items : List ℕ) (l : ℕ) (xs : List ℕ) → productions_from text names items l xs ≡ productions_from other names items l xs
  unfolding productions_from
  productions-see names items l [] = refl
  productions-see names items l (x ∷ xs) = rw (number-sees names x, alternatives-see names l (number_of other names x) items, productions-see names items (l + 1) xs)

  pub numbering-sees : (t : Tables) → grammar_of text t ≡ grammar_of other t
  unfolding grammar_of
  numbering-sees t = rw (number-sees t.names (get_or t.lefts 0 0), productions-see t.names t.items 0 t.lefts)
