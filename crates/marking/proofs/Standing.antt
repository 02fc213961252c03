-- The sets of a level stand in the result: level 0 where the result is wiped, the others by what was decided. Assumes nothing.
use Prim.Native.Nat.{ℕ, ◌+◌, ◌*◌, ◌≤◌, ◌<◌}
use native.Mathlib.Omega.{arith}
use mathlib.Core.Path.{◌≡◌, refl, sym, ap, ◌∙◌, subst}
use mathlib.Core.Logic.{◌↔◌}
use mathlib.Core.List.Memᴰ
use mathlib.Core.List.Memᴰ.{not-nil}
use mathlib.Core.List.{List, []}
use lib.ListN.{length, get_or, drop, replicate, length-replicate, get_or-replicate}
use Rattle.cfg.specs.Grammar.{Grammar, Accepted}
use Rattle.k_tuple.specs.Strings.{Str, width_of}
use Rattle.k_tuples.specs.Sets.{◌∈◌}
use Rattle.k_tuples.specs.States.{State, set_of}
use Rattle.k_tuples.specs.Blocks.{IsStored, sets_in}
use Rattle.k_tuples.proofs.Blocks.{zeros-stored, stored-sets, is-stored}
use Rattle.analysis.specs.Promises.{IsSetOf}
use Rattle.engine.specs.Call.{wiped}
use Rattle.decision.specs.declared.Links.{Links}
use Rattle.decision.specs.declared.Layout.{Layout}
use Rattle.decision.specs.Own.{left_at}
use Rattle.decision.specs.Steps.{held, production_set, grammar_of, Given}
use Rattle.decision.specs.Onward.{Known, choices_in, JoinedFor}
use Rattle.decision.proofs.Answering.{table-ok}
use Rattle.decision_theory.specs.Needed.{Of, Ahead, OneProduction, Needs, needs-none, smallest, Choice, ChoiceIs, Decided, RightFor, right-one, right-several, own}
use Rattle.decision_theory.specs.Marking.{Row, Wanted}
use Rattle.decision_theory.proofs.Kept.{needed-right}
use Rattle.decision_theory.proofs.Needed.{own-means, choice-of, decided-right, needs-one}
use Rattle.marking.specs.Lines.{Stand}
use Rattle.marking.specs.Levels.{row_of, Stands}

-- nothing has level 0 that needs a k
needs-zero : (g : Grammar) (A : ℕ) (k : ℕ) → k ≡ 0 → Needs g A k → OneProduction g A
needs-zero g A k e (needs-none one) = one
needs-zero g A k e (smallest n h s none) = absurd (omega arith)

-- what is right for a k above 0
pub record Several (g : Grammar) (A k : ℕ) (xs : List Choice) : Type 0 where
  pub several : ¬ OneProduction g A
  pub needs : Needs g A k
  pub sets : (i : ℕ) → i ∈ own g A → (x : Choice) × (x ∈ xs) × ChoiceIs g k i x

right-for : (g : Grammar) (A k : ℕ) (xs : List Choice) → 1 ≤ k → (d : Decided) → d ≡ record { k = k; choices = xs } → RightFor g A d → Several g A k xs
right-for g A k xs h d e (right-one o one) = absurd (let z : 0 ≡ k = ap (λ (d : Decided). d.k) e in omega arith)
right-for g A k xs h d e (right-several {k = j} {xs = ys} n l each s needs) =
    let z : j ≡ k = ap (λ (d : Decided). d.k) e in
    let y : ys ≡ xs = ap (λ (d : Decided). d.choices) e in
    record {
      several = n;
      needs = subst (Needs g A) z needs;
      sets = λ i m. let (x, p, q) = choice-of g j each i m in (x, subst (λ (l : List Choice). x ∈ l) y p, subst (λ (t : ℕ). ChoiceIs g t i x) z q);
    }

module _ {limit c : ℕ} {table : List ℕ} {u : Layout} {links : Links} {κ : List ℕ} {R S : ℕ} (given : Given limit c table u links R S) (known : Known limit c (grammar_of table) κ) where
  abbrev g : Grammar
  g = grammar_of table

  abbrev width : ℕ
  width = width_of (g.t + 5)

  ok : Accepted g
  ok = table-ok given.on

  -- a production by its left side
  is-of : (i : ℕ) → i < u.p → Of g (left_at links i) i
  is-of i h = let m : i < length g.productions = omega (arith, given.sized.p) in (m, sym (given.sides.each i m))

  of_is : (A i : ℕ) → Of g A i → (i < u.p) × (left_at links i ≡ A)
  of_is A i o = (omega (arith, given.sized.p, o.0), given.sides.each i o.0 ∙ o.1)

  left-inside : (i : ℕ) → i < u.p → left_at links i < g.n
  left-inside i h = omega (arith, given.sized.n, given.fit.inside i h)

  -- what the buffers and numbers are
  pub stand-is : {result : List ℕ} {at : ℕ} → IsStored at width u.b u.sets result → Stand u links κ result
  stand-is {result} {at} s = record {
    sets = record { k = at; width = width; store = s };
    fit = given.fit;
    long = known.long;
    room = omega (arith, given.sized.b, given.on.c<1025);
  }

  wanted-own : (k : ℕ) (r : Row) → Wanted g r → (r.production < u.p) × (left_at links r.production ≡ r.nonterminal)
  wanted-own k r q = of_is r.nonterminal r.production q.own

  -- ---- level 0

  one_at : (A : ℕ) → A < g.n → get_or κ A 0 ≡ 0 → OneProduction g A
  one_at A h e = needs-zero g A (get_or κ A 0) e (needed-right g ok c given.on.c>0 limit A (get_or κ A 0) (known.each A h))

  pub wiped-stored : (result : List ℕ) → result ≡ wiped (u.sets * u.b) result → IsStored 0 width u.b u.sets result
  wiped-stored result e =
      subst (IsStored 0 width u.b u.sets) (sym e)
      (is-stored (zeros-stored 0 width u.b u.sets (drop (u.sets * u.b) result) (omega (arith, given.sized.b))) u.sets (sym (length-replicate {A = List Str} u.sets [])))

  wiped-sets : (result : List ℕ) → result ≡ wiped (u.sets * u.b) result → held u result ≡ replicate u.sets []
  wiped-sets result e =
      let s = stored-sets (zeros-stored 0 width u.b u.sets (drop (u.sets * u.b) result) (omega (arith, given.sized.b))) in
      ap (sets_in u.b u.sets) e ∙ (rw (length-replicate {A = List Str} u.sets []) at s)

  pub zero-stands : (result : List ℕ) → result ≡ wiped (u.sets * u.b) result → Stands g width 0 u links κ result
  zero-stands result e = record {
    stand = stand-is (wiped-stored result e);
    at = 0;
    store = wiped-stored result e;
    wants = λ i h q z. (
      λ m.
          let none : production_set u (held u result) i ≡ [] =
          ap (λ (F : State). set_of F (u.n + i)) (wiped-sets result e) ∙ get_or-replicate {A = List Str} u.sets (u.n + i) [] [] (let w = given.fit.whole in omega arith) in
          absurd (not-nil (subst (λ (a : List Str). z ∈ a) none m)),
      λ w. absurd (w.several (one_at (left_at links i) (left-inside i h) q)),
    );
    own = λ r _ w. wanted-own 0 r w;
  }

  -- ---- a level above 0

  module _ {k : ℕ} (k>0 : 1 ≤ k) {result : List ℕ} where
    -- the choices of A, by its productions' sets
    own-set : (A : ℕ) → JoinedFor limit c k g u A result → Several g A k (choices_in u g (held u result) A)
    own-set A j = right-for g A k (choices_in u g (held u result) A) k>0 (record { k = k; choices = choices_in u g (held u result) A }) refl (decided-right g ok c given.on.c>0 A limit _ j.decided)

    set_is : (A : ℕ) → JoinedFor limit c k g u A result → (i : ℕ) → Of g A i → IsSetOf (Ahead g k i) (production_set u (held u result) i)
    set_is A j i o =
        let (x, m, is) = (own-set A j).sets i ((own-means g A i).1 o) in
        let (h, n, e) = Memᴰ.of_map (λ (i : ℕ). record { production = i; ahead = production_set u (held u result) i }) (own g A) m in
        let same : h ≡ i = ap (λ (y : Choice). y.production) e ∙ is.number in
        let ahead : x.ahead ≡ production_set u (held u result) i = sym (ap (λ (y : Choice). y.ahead) e) ∙ ap (production_set u (held u result)) same in
        subst (IsSetOf (Ahead g k i)) ahead is.set

    pub level-stands : {at : ℕ} → IsStored at width u.b u.sets result → ((A : ℕ) → A < g.n → get_or κ A 0 ≡ k → JoinedFor limit c k g u A result) → Stands g width k u links κ result
    level-stands {at} s all = record {
      stand = stand-is s;
      at = at;
      store = s;
      wants = λ i h q z. wants i h (all (left_at links i) (left-inside i h) q) z;
      own = λ r _ w. wanted-own k r w;
    }
      where
        wants : (i : ℕ) → i < u.p → JoinedFor limit c k g u (left_at links i) result → (z : Str) → (z ∈ production_set u (held u result) i) ↔ Wanted g (row_of (left_at links i) z i)
        wants i h j z =
            let is = set_is (left_at links i) j i (is-of i h) in
            let several = own-set (left_at links i) j in (
              λ m.
                  let (x, spelled) = is.words z m in
                  record {
                    inside = left-inside i h;
                    several = several.several;
                    own = is-of i h;
                    k = k;
                    needs = several.needs;
                    word = x;
                    spelled = spelled;
                    ahead = (is.has x).0 (Memᴰ.cast (sym spelled) m);
                  },
              λ w.
                  let same : w.k ≡ k = needs-one g (left_at links i) w.needs several.needs in
                  Memᴰ.cast w.spelled ((is.has w.word).1 (subst (λ (j : ℕ). Ahead g j i w.word) same w.ahead)),
            )
