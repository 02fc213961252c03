-- The strings that are not marked: the first of a production, the least of a nonterminal, and the first nonterminal that has one. Assumes nothing.
use Prim.Native.Nat.{ℕ, ◌+◌, ◌*◌, ◌^◌, ◌≤◌, ◌<◌}
use native.Mathlib.Omega.{arith}
use native.Mathlib.Decide.{dec_lt}
use mathlib.Core.Path.{◌≡◌, refl, sym, ◌∙◌, subst}
use mathlib.Core.Bool.{Bool, true, false, true≢false}
use mathlib.Core.List.{List}
use borrow.Author.Tests.{ltb-true, ltb-false}
use lib.ListN.{length, get_or}
use Rattle.std.specs.Prelude.{Option, Some, None}
use Rattle.k_tuple.specs.declared.Terminals.{Terminals}
use Rattle.k_tuple.specs.Packed.{number_of, less_of}
use Rattle.decision.specs.declared.Links.{Links}
use Rattle.decision.specs.declared.Layout.{Layout}
use Rattle.decision.specs.Own.{left_at, next_at, first_at, Linked}
use Rattle.decision_theory.specs.Needed.{Rising}
use Rattle.marking.specs.Bits.{is_marked}
use Rattle.marking.specs.Lines.{numbers_at, mark_of, FreeIn, FirstFree, Improved, Free, Least, end_of, Lacked}
use Rattle.marking.specs.declared.lack.Missed.{Missed}
use Rattle.marking.proofs.Numbers.{rising-places}

-- ---- the first of a production

module _ (marks : List ℕ) (i n : ℕ) where
  -- the first j marks are set
  pub record Seeking (j : ℕ) : Type 0 where
    pub below : j ≤ n
    pub marked : (h : ℕ) → h < j → is_marked marks (mark_of i h) ≡ true

  pub seeking-start : Seeking 0
  seeking-start = record { below = omega arith; marked = λ h l. absurd (omega arith) }

  pub seeking-more : {j : ℕ} {r : Bool} → Seeking j → j < n → r ≡ is_marked marks (1024 * i + j) → r ≡ true → Seeking (j + 1)
  seeking-more {j} s h e t = record { below = omega arith; marked = λ m l. by m l (dec_lt m j) }
    where
      by : (m : ℕ) → m < j + 1 → Dec (m < j) → is_marked marks (mark_of i m) ≡ true
      by m l (yes q) = s.marked m q
      by m l (no q) = let z : m ≡ j = omega arith in rw z (sym e ∙ t)

  pub seeking-found : {j : ℕ} {r : Bool} → Seeking j → r ≡ is_marked marks (1024 * i + j) → r ≡ false → j < n → FirstFree marks i n (Some j)
  seeking-found {j} s e t h = FirstFree.some j refl h s.marked (sym e ∙ t)

  pub seeking-none : {j : ℕ} → Seeking j → n ≤ j → FirstFree marks i n None
  seeking-none s h = FirstFree.none refl (λ m l. s.marked m (omega arith))

-- what is found
pub record FoundAt (marks : List ℕ) (i n j : ℕ) : Type 0 where
  pub inside : j < n
  pub marked : (h : ℕ) → h < j → is_marked marks (mark_of i h) ≡ true
  pub free : is_marked marks (mark_of i j) ≡ false

-- ---- the least of a production

pub found-at : {marks : List ℕ} {i n j : ℕ} {r : Option ℕ} → FirstFree marks i n r → r ≡ Some j → FoundAt marks i n j
found-at (FirstFree.none q all) e = absurd (cc)
found-at {j = j} (FirstFree.some m q h all free) e = let z : m ≡ j = cc in rw (← z) (record { inside = h; marked = all; free = free })

pub none_free : {vs marks : List ℕ} {i n : ℕ} {r : Option ℕ} {best : Option Terminals} → n ≡ length vs → FirstFree marks i n r → r ≡ None → Improved vs marks i best best
none_free c (FirstFree.none q all) e = Improved.none (λ v f. let l = f.inside in true≢false (sym (all f.j (omega arith)) ∙ f.free)) refl
none_free c (FirstFree.some j q h all free) e = absurd (cc)

module _ {vs marks : List ℕ} {i n j : ℕ} (up : Rising vs) (count : n ≡ length vs) (a : FoundAt marks i n j) (x : Terminals) (at : (number_of x ≡ get_or vs j 0) × (x.lo < 2 ^ 64)) where
  free-here : FreeIn vs marks i (number_of x)
  free-here = record { j = j; inside = omega (arith, a.inside); is = sym at.0; free = a.free }

  least-here : (v : ℕ) → FreeIn vs marks i v → number_of x ≤ v
  least-here v f = by (dec_lt f.j j) (dec_lt j f.j)
    where
      by : Dec (f.j < j) → Dec (j < f.j) → number_of x ≤ v
      by (yes l) m = absurd (true≢false (sym (a.marked f.j l) ∙ f.free))
      by (no l) (yes m) = let z = rising-places vs up j f.j m f.inside in let y = f.is in let x = at.0 in omega arith
      by (no l) (no m) =
          let z : f.j ≡ j = omega arith in
          let y : get_or vs j 0 ≡ v = subst (λ (q : ℕ). get_or vs q 0 ≡ v) z f.is in
          let x = at.0 in
          omega arith

  pub first_found : {best : Option Terminals} → best ≡ None → Improved vs marks i best (Some x)
  first_found e = Improved.better x refl free-here least-here (λ y q. absurd (cc)) at.1

  pub better-found : {best : Option Terminals} {y : Terminals} {b : Bool} → best ≡ Some y → b ≡ less_of x y → b ≡ true → Improved vs marks i best (Some x)
  unfolding less_of
  better-found {best} {y} f e t =
      let l = ltb-true (number_of x) (number_of y) (sym e ∙ t) in
      Improved.better x refl free-here least-here (λ z q. let same : z ≡ y = cc in rw same (omega arith)) at.1

  pub worse-found : {best : Option Terminals} {y : Terminals} {b : Bool} → best ≡ Some y → b ≡ less_of x y → b ≡ false → Improved vs marks i best best
  unfolding less_of
  worse-found {best} {y} f e t =
      let l = ltb-false (number_of x) (number_of y) (sym e ∙ t) in
      Improved.worse y f (λ v q. let z = least-here v q in omega arith) refl

-- ---- the least of a nonterminal

module _ (u : Layout) (links : Links) (result marks : List ℕ) (A : ℕ) where
  -- strings of productions below one place, and of those below a later one, where none of A's lies between
  free-shift : {from to v : ℕ} → ((j : ℕ) → from ≤ j → j < to → ¬ left_at links j ≡ A) → Free u links result marks A to v → Free u links result marks A from v
  free-shift {from} {to} {v} none f = by (dec_lt f.i from)
    where
      by : Dec (f.i < from) → Free u links result marks A from v
      by (yes l) = record { i = f.i; below = l; inside = f.inside; own = f.own; here = f.here }
      by (no l) = absurd (none f.i (omega arith) f.below f.own)

  free-later : {from to v : ℕ} → from ≤ to → Free u links result marks A from v → Free u links result marks A to v
  free-later h f = record { i = f.i; below = let l = f.below in omega arith; inside = f.inside; own = f.own; here = f.here }

  least-shift : {from to : ℕ} {l : Option Terminals} → from ≤ to → ((j : ℕ) → from ≤ j → j < to → ¬ left_at links j ≡ A) → Least u links result marks A from l → Least u links result marks A to l
  least-shift h none w = record {
    none = λ e v f. w.none e v (free-shift none f);
    some = λ x e. free-later h (w.some x e);
    least = λ x e v f. w.least x e v (free-shift none f);
    fits = w.fits;
  }

  -- before the first
  pub least_start : Linked links u.p → A < 128 → Least u links result marks A (first_at links A) None
  least_start w h =
      let f = w.firsts A h in
      least-shift {from = 0} (omega arith) (λ j a b. f.none j a b)
      (record { none = λ e v q. let l = q.below in omega arith; some = λ x e. absurd (cc); least = λ x e. absurd (cc); fits = λ x e. absurd (cc) })

  -- production i and those below it
  free-split : {i v : ℕ} → Free u links result marks A (i + 1) v → ¬ FreeIn (numbers_at u result i) marks i v → Free u links result marks A i v
  free-split {i} {v} f n = by (dec_lt f.i i)
    where
      by : Dec (f.i < i) → Free u links result marks A i v
      by (yes l) = record { i = f.i; below = l; inside = f.inside; own = f.own; here = f.here }
      by (no l) = let z : f.i ≡ i = let b = f.below in omega arith in absurd (n (subst (λ (x : ℕ). FreeIn (numbers_at u result x) marks x v) z f.here))

  -- the least of both
  least-both : {i : ℕ} {best r : Option Terminals} → i < u.p → left_at links i ≡ A → Least u links result marks A i best → Improved (numbers_at u result i) marks i best r → Least u links result marks A (i + 1) r
  least-both {i} {best} {r} h own w (Improved.none n e) = rw e (record {
    none = λ t v f. w.none t v (free-split f (n v));
    some = λ x t. free-later (omega arith) (w.some x t);
    least = λ x t v f. w.least x t v (free-split f (n v));
    fits = w.fits;
  })
  least-both {i} {best} {r} h own w (Improved.worse y t n e) = rw e (record {
    none = λ q. absurd (cc);
    some = λ x q. free-later (omega arith) (w.some x q);
    least = λ x q v f. let same : x ≡ y = cc in rw same (by v f (dec_lt f.i i));
    fits = w.fits;
  })
    where
      by : (v : ℕ) (f : Free u links result marks A (i + 1) v) → Dec (f.i < i) → number_of y ≤ v
      by v f (yes l) = w.least y t v (record { i = f.i; below = l; inside = f.inside; own = f.own; here = f.here })
      by v f (no l) = let z : f.i ≡ i = let b = f.below in omega arith in n v (subst (λ (x : ℕ). FreeIn (numbers_at u result x) marks x v) z f.here)
  least-both {i} {best} {r} h own w (Improved.better y t free least under fits) = record {
    none = λ q. absurd (cc);
    some = λ x q. let same : x ≡ y = cc in rw same (record { i = i; below = omega arith; inside = h; own = own; here = free });
    least = λ x q v f. let same : x ≡ y = cc in rw same (by v f (dec_lt f.i i) best refl);
    fits = λ x q. let same : x ≡ y = cc in rw same fits;
  }
    where
      by : (v : ℕ) (f : Free u links result marks A (i + 1) v) → Dec (f.i < i) → (b : Option Terminals) → best ≡ b → number_of y ≤ v
      by v f (yes l) (Some z) e = let q = w.least z e v (record { i = f.i; below = l; inside = f.inside; own = f.own; here = f.here }) in let p = under z e in omega arith
      by v f (yes l) None e = absurd (w.none e v (record { i = f.i; below = l; inside = f.inside; own = f.own; here = f.here }))
      by v f (no l) b e = let z : f.i ≡ i = let q = f.below in omega arith in least v (subst (λ (x : ℕ). FreeIn (numbers_at u result x) marks x v) z f.here)

  -- and on to the next production of A's
  pub record Leasting (i : ℕ) (best : Option Terminals) : Type 0 where
    pub below : i ≤ u.p
    pub own : i < u.p → left_at links i ≡ A
    pub least : Least u links result marks A i best

  pub leasting-start : Linked links u.p → A < 128 → Leasting (first_at links A) None
  leasting-start w h = let f = w.firsts A h in record { below = f.below; own = f.here; least = least_start w h }

  pub leasting-more : {i : ℕ} {best r : Option Terminals} → Linked links u.p → Leasting i best → i < u.p → Improved (numbers_at u result i) marks i best r → Leasting (next_at links i) r
  leasting-more {i} {best} {r} w s h m =
      let own = s.own h in
      let f = w.nexts i (omega arith) h in
      record {
        below = f.below;
        own = λ l. f.here l ∙ own;
        least = least-shift f.above (λ j a b e. f.none j a b (e ∙ sym own)) (least-both h own s.least m);
      }

  pub leasting-end : {i : ℕ} {best : Option Terminals} → Leasting i best → u.p ≤ i → Least u links result marks A u.p best
  leasting-end {i} {best} s h = let z : i ≡ u.p = let b = s.below in omega arith in subst (λ (x : ℕ). Least u links result marks A x best) z s.least

-- ---- the first nonterminal

module _ (u : Layout) (links : Links) (κ result marks : List ℕ) (k : ℕ) where
  -- those of level k below a have all strings marked
  pub record Filled (a : ℕ) : Type 0 where
    pub each : (A : ℕ) → A < a → get_or κ A 0 ≡ k → (v : ℕ) → ¬ Free u links result marks A u.p v

  pub filled-start : Filled 0
  filled-start = record { each = λ A h. absurd (omega arith) }

  filled_next : {a : ℕ} → Filled a → (get_or κ a 0 ≡ k → (v : ℕ) → ¬ Free u links result marks a u.p v) → Filled (a + 1)
  filled_next {a} s n = record { each = λ A h e. by A h e (dec_lt A a) }
    where
      by : (A : ℕ) → A < a + 1 → get_or κ A 0 ≡ k → Dec (A < a) → (v : ℕ) → ¬ Free u links result marks A u.p v
      by A h e (yes l) = s.each A l e
      by A h e (no l) = let z : A ≡ a = omega arith in rw z (n (rw z at e))

  pub filled-other : {a : ℕ} → Filled a → (get_or κ a 0 ≡ k → ⊥) → Filled (a + 1)
  filled-other s n = filled_next s (λ e. absurd (n e))

  pub filled_more : {a : ℕ} {l : Option Terminals} → Filled a → Least u links result marks a u.p l → l ≡ None → Filled (a + 1)
  filled_more s w e = filled_next s (λ _. w.none e)

  pub lack-found : {a : ℕ} {l : Option Terminals} {m : Option Missed} {x : Terminals} → Filled a → a < end_of u.n m → get_or κ a 0 ≡ k → Least u links result marks a u.p l → l ≡ Some x
      → Lacked u links κ result marks k m (Some (record { nonterminal = a; string = x }))
  lack-found {x = x} s h e w t = Lacked.some _ refl h e (w.some x t) (w.least x t) s.each (w.fits x t)

  pub lack-none : {a : ℕ} {m : Option Missed} → Filled a → end_of u.n m ≤ a → Lacked u links κ result marks k m m
  lack-none s h = Lacked.none (λ A l. s.each A (omega arith)) refl
