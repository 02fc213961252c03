-- The left sides and the links between the productions of one left side, and what a nonterminal begins with. Assumes nothing.
use Prim.Native.Nat.{ℕ, suc, ◌+◌, ◌-◌, ◌≤◌, ◌<◌}
use native.Mathlib.Omega.{arith}
use native.Mathlib.Decide.{ℕ_discrete, dec_lt}
use mathlib.Core.Path.{◌≡◌, refl, sym, ap, ◌∙◌}
use mathlib.Core.List.{List, []}
use borrow.Author.Count.{below_more}
use lib.ListN.{length, get_or, set, drop, replicate, length-set, length-replicate, get_or-replicate}
use lib.Seq.{get_or-set_same, get_or-set_other}
use Rattle.cfg.specs.Grammar.{Grammar, Production}
use Rattle.cfg.specs.Written.{productions_of}
use Rattle.cfg.specs.Words.{Sound, SpanAt}
use Rattle.cfg.specs.declared.table.Span.{Span}
use Rattle.cfg.proofs.Cursor.{Cursor, cursor-start, cursor-next, span-first, span_left}
use Rattle.cfg.proofs.Sizes.{length-productions}
use Rattle.decision_theory.specs.Needed.{OneProduction}
use Rattle.decision_theory.specs.Steps.{standing}
use Rattle.decision_theory.proofs.Steps.{begun-one, begun-several}
use Rattle.decision.specs.declared.Links.{Links}
use Rattle.decision.specs.Own.{left_at, next_at, first_at, FirstFrom, LinkedFrom, Linked, SidesOf, Sided, LinkedOne, AllLinked, OneOwn, Begun, AllBegun}
use Rattle.decision.specs.Steps.{Told, StandAt}
use Rattle.decision.proofs.Padded.{zeros-at}

abbrev none : Production
none = record { left = 0; right = [] }

-- ---- the left sides

-- the loop: i left sides are written, and nothing else
pub record Sides (p : ℕ) (words : List ℕ) (links : Links) (i at : ℕ) : Type 0 where
  pub cursor : Cursor 128 p words i at
  pub lefts-long : length links.left ≡ 512
  pub nexts-long : length links.next ≡ 512
  pub firsts-long : length links.first ≡ 128
  pub done : (j : ℕ) → j < i → (left_at links j ≡ (get_or (productions_of p words) j none).left) × (left_at links j < 128)
  pub unlinked : (A : ℕ) → A < 128 → first_at links A ≡ p
  pub behind : (j : ℕ) → get_or (productions_of p words) (i + j) none ≡ get_or (productions_of (p - i) (drop at words)) j none

module _ (p : ℕ) (words : List ℕ) where
  pub sides-start : Sound 128 p words → Sides p words (record { left = replicate 512 0; next = replicate 512 p; first = replicate 128 p }) 0 0
  sides-start s =
      let all : p - 0 ≡ p = omega arith in
      record {
        cursor = cursor-start 128 p words s;
        lefts-long = length-replicate {A = ℕ} 512 0;
        nexts-long = length-replicate {A = ℕ} 512 p;
        firsts-long = length-replicate {A = ℕ} 128 p;
        done = λ j h. absurd (omega arith);
        unlinked = λ A h. get_or-replicate 128 A p 0 h;
        behind = λ j. let z : 0 + j ≡ j = omega arith in rw (z, all);
      }

  module _ {links : Links} {i at : ℕ} (w : Sides p words links i at) where
    pub sides-more : {span : Span} {l : ℕ} → i < p → p ≤ 512 → SpanAt words at span → l ≡ span.left → Sides p words (record { left = set links.left i l; next = links.next; first = links.first }) (i + 1) span.to
    sides-more {span} {l} h few s e =
        let first = span-first 128 p words i at w.cursor h span s in
        let head : (get_or (productions_of p words) i none).left ≡ span.left =
        ap (λ (j : ℕ). (get_or (productions_of p words) j none).left) (let z : i ≡ i + 0 = omega arith in z) ∙ ap (λ (x : Production). x.left) (w.behind 0) ∙ rw first in
        let here : get_or (set links.left i l) i 0 ≡ l = get_or-set_same links.left i l 0 (omega (arith, w.lefts-long)) in
        record {
          cursor = cursor-next 128 p words i at w.cursor h span s;
          lefts-long = length-set links.left i l ∙ w.lefts-long;
          nexts-long = w.nexts-long;
          firsts-long = w.firsts-long;
          done = below_more _ i
              (λ j k. rw (get_or-set_other links.left i j l 0 (λ (q : j ≡ i). omega arith)) (w.done j k))
              (here ∙ e ∙ sym head, omega (arith, here, e, span_left 128 p words i at w.cursor h span s));
          unlinked = w.unlinked;
          behind = λ j. let z : i + 1 + j ≡ i + suc j = omega arith in ap (λ (n : ℕ). get_or (productions_of p words) n none) z ∙ w.behind (suc j) ∙ rw first;
        }

    pub sides-end : p ≤ i → p ≤ 512 → Sided (productions_of p words) p links
    sides-end h few = record {
      sides = record { each = λ j k. (w.done j (omega (arith, rw (length-productions p words) at k))).0 };
      unlinked = record {
        lefts-long = w.lefts-long;
        nexts-long = w.nexts-long;
        firsts-long = w.firsts-long;
        few = few;
        small = λ j k. (w.done j (omega arith)).1;
        nexts = λ j k l. absurd (omega arith);
        firsts = λ A k. rw (w.unlinked A k) (record { above = omega arith; below = omega arith; here = λ l. absurd (omega arith); none = λ j l m. absurd (omega arith) });
      };
    }

-- ---- the links

-- what is first depends on the left sides alone
first-same : (links links' : Links) {p A from f : ℕ} → ((j : ℕ) → j < p → left_at links' j ≡ left_at links j) → FirstFrom links p A from f → FirstFrom links' p A from f
first-same links links' same w = record {
  above = w.above;
  below = w.below;
  here = λ h. same _ h ∙ w.here h;
  none = λ j h l e. w.none j h l (sym (same j (omega (arith, w.below))) ∙ e);
}

module _ {links : Links} {p i : ℕ} (w : LinkedFrom links p (i + 1)) (h : i < p) where
  abbrev a : ℕ
  a = left_at links i

  abbrev after : Links
  after = record { left = links.left; next = set links.next i (first_at links a); first = set links.first a i }

  same : (j : ℕ) → j < p → left_at after j ≡ left_at links j
  same j l = refl

  next-is : next_at after i ≡ first_at links a
  next-is = get_or-set_same links.next i (first_at links a) 0 (omega (arith, w.few, w.nexts-long))

  first-is : first_at after a ≡ i
  first-is = get_or-set_same links.first a i 0 (omega (arith, w.firsts-long, w.small i h))

  pub link-more : LinkedOne links p i after
  link-more = record {
    linked = record {
      lefts-long = w.lefts-long;
      nexts-long = length-set links.next i (first_at links a) ∙ w.nexts-long;
      firsts-long = length-set links.first a i ∙ w.firsts-long;
      few = w.few;
      small = w.small;
      nexts = λ j l m. next j l m (ℕ_discrete j i);
      firsts = λ A l. first A l (ℕ_discrete A a);
    };
    same = same;
  }
    where
      next : (j : ℕ) → i ≤ j → j < p → Dec (j ≡ i) → FirstFrom after p (left_at after j) (j + 1) (next_at after j)
      next j l m (yes q) = rw (q, next-is) (first-same links after same (w.firsts a (w.small i h)))
      next j l m (no q) =
          let still : next_at after j ≡ next_at links j = get_or-set_other links.next i j (first_at links a) 0 q in
          rw still (first-same links after same (w.nexts j (omega arith) m))

      first : (A : ℕ) → A < 128 → Dec (A ≡ a) → FirstFrom after p A i (first_at after A)
      first A l (yes q) = rw (q, first-is) (record { above = omega arith; below = omega arith; here = λ _. same i h; none = λ j m k. absurd (omega arith) })
      first A l (no q) =
          let still : first_at after A ≡ first_at links A = get_or-set_other links.first a A i 0 q in
          let old = first-same links after same (w.firsts A l) in
          rw still (record { above = omega (arith, old.above); below = old.below; here = old.here; none = λ j m k. before old j m k (ℕ_discrete j i) })
        where
          before : {f : ℕ} → FirstFrom after p A (i + 1) f → (j : ℕ) → i ≤ j → j < f → Dec (j ≡ i) → ¬ left_at after j ≡ A
          before old j m k (yes e) s = q (sym (rw (e, same i h) at s))
          before old j m k (no e) s = old.none j (omega arith) k s

-- the loop, from the last production down
pub record Linking (ps : List Production) (p : ℕ) (links : Links) (i : ℕ) : Type 0 where
  pub below : i ≤ p
  pub all : length ps ≡ p
  pub sides : SidesOf ps links
  pub linked : LinkedFrom links p i

pub links-start : (p : ℕ) (words : List ℕ) {links : Links} → Sided (productions_of p words) p links → Linking (productions_of p words) p links p
links-start p words s = record { below = omega arith; all = length-productions p words; sides = s.sides; linked = s.unlinked }

module _ {ps : List Production} {p : ℕ} {links : Links} {i : ℕ} (w : Linking ps p links i) where
  pub links-behind : 0 < i → LinkedFrom links p (i - 1 + 1)
  links-behind h = let e : i - 1 + 1 ≡ i = omega arith in rw e w.linked

  pub links-inside : 0 < i → i - 1 < p
  links-inside h = omega (arith, w.below)

  pub links-more : {links' : Links} → 0 < i → LinkedOne links p (i - 1) links' → Linking ps p links' (i - 1)
  links-more h one = record {
    below = omega (arith, w.below);
    all = w.all;
    sides = record { each = λ j l. one.same j (omega (arith, w.all)) ∙ w.sides.each j l };
    linked = one.linked;
  }

  pub links_end : i ≤ 0 → AllLinked ps p links
  links_end h = let e : i ≡ 0 = omega arith in record { sides = w.sides; linked = rw e at w.linked }

-- ---- what it begins with

module _ {links : Links} {p A : ℕ} (w : Linked links p) (l : A < 128) where
  first : FirstFrom links p A 0 (first_at links A)
  first = w.firsts A l

  pub begins-none : p ≤ first_at links A → Begun links p A 22
  begins-none h = Begun.several (λ (i, m, e, only). first.none i (omega arith) (omega arith) e) refl

  module _ (h : first_at links A < p) where
    second : FirstFrom links p A (first_at links A + 1) (next_at links (first_at links A))
    second = rw (first.here h) at (w.nexts (first_at links A) (omega arith) h)

    pub begins-several : next_at links (first_at links A) < p → Begun links p A 22
    begins-several m = Begun.several (λ (i, k, e, only).
        let x : first_at links A ≡ i = only (first_at links A) h (first.here h) in
        let y : next_at links (first_at links A) ≡ i = only (next_at links (first_at links A)) m (second.here m) in
        omega (arith, second.above)) refl

    pub begins-one : p ≤ next_at links (first_at links A) → Begun links p A 0
    begins-one m = Begun.one (first_at links A, h, first.here h, λ j k e. by j k e (dec_lt j (first_at links A)) (dec_lt (first_at links A) j)) refl
      where
        by : (j : ℕ) → j < p → left_at links j ≡ A → Dec (j < first_at links A) → Dec (first_at links A < j) → j ≡ first_at links A
        by j k e (yes b) c = absurd (first.none j (omega arith) b e)
        by j k e (no b) (yes c) = absurd (second.none j (omega arith) (omega arith) e)
        by j k e (no b) (no c) = omega arith

pub record Begins (links : Links) (p n : ℕ) (ρ : List ℕ) (a : ℕ) : Type 0 where
  pub below : a ≤ n
  pub each : (A : ℕ) → A < a → Begun links p A (get_or ρ A 0)
  pub others : (A : ℕ) → a ≤ A → get_or ρ A 0 ≡ 0
  pub long : length ρ ≡ 128

pub begins-start : (links : Links) (p n : ℕ) → Begins links p n (replicate 128 0) 0
begins-start links p n = record { below = omega arith; each = λ A h. absurd (omega arith); others = λ A h. zeros-at 128 A; long = length-replicate {A = ℕ} 128 0 }

module _ {links : Links} {p n : ℕ} {ρ : List ℕ} {a : ℕ} (w : Begins links p n ρ a) where
  pub begins-more : {r : ℕ} → a < n → n ≤ 128 → Begun links p a r → Begins links p n (set ρ a r) (a + 1)
  begins-more {r} h few b = record {
    below = omega arith;
    each = below_more _ a (λ A l. rw (get_or-set_other ρ a A r 0 (λ (q : A ≡ a). omega arith)) (w.each A l)) (rw (get_or-set_same ρ a r 0 (omega (arith, w.long))) b);
    others = λ A l. get_or-set_other ρ a A r 0 (λ (q : A ≡ a). omega arith) ∙ w.others A (omega arith);
    long = length-set ρ a r ∙ w.long;
  }

  pub begins-end : n ≤ a → AllBegun links p n ρ
  begins-end h = record { each = λ A l. w.each A (omega arith); others = λ A l. w.others A (omega (arith, w.below)); long = w.long }

-- ---- as the definition begins

module _ (c : ℕ) (g : Grammar) (links : Links) {p : ℕ} (sides : SidesOf g.productions links) (ep : p ≡ length g.productions) where
  -- the list and the grammar speak of the same productions
  one-own : (A : ℕ) → OneOwn links p A → OneProduction g A
  one-own A (i, h, e, only) =
      let l : i < length g.productions = omega arith in
      (i, (l, sym (sides.each i l) ∙ e), λ j o. only j (omega (arith, o.0)) (sides.each j o.0 ∙ o.1))

  own-one : (A : ℕ) → OneProduction g A → OneOwn links p A
  own-one A (i, o, only) =
      (i, omega (arith, o.0), sides.each i o.0 ∙ o.1, λ j h e. let l : j < length g.productions = omega arith in only j (l, sym (sides.each j l) ∙ e))

  pub begun-stand : {n : ℕ} {ρ : List ℕ} → n ≡ g.n → AllBegun links p n ρ → StandAt c g 0 ρ (replicate 128 0)
  unfolding standing
  begun-stand {n} {ρ} en b = record {
    each = λ A h. told A (b.each A (omega (arith, en)));
    others = λ A h. (b.others A (omega (arith, en)), zeros-at 128 A);
    long = (b.long, length-replicate {A = ℕ} 128 0);
  }
    where
      told : (A : ℕ) → Begun links p A (get_or ρ A 0) → Told ρ (replicate 128 0) A (standing c g A 0)
      told A (Begun.one o e) = rw (begun-one g c A (one-own A o)) (record { refusal = e; k = zeros-at 128 A })
      told A (Begun.several n e) = rw (begun-several g c A (λ o. n (own-one A o))) (record { refusal = e; k = zeros-at 128 A })
