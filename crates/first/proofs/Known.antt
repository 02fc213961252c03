-- A round that works out only the sets that are due gives what a whole round gives; and which are due after it. Assumes nothing.
use mathlib.Core.Path.{◌≡◌, refl, sym, ap, ◌∙◌, subst}
use mathlib.Core.Bool.{Bool, true, false, ◌&&◌, true≢false, false≢true}
use mathlib.Core.List.{List, [], ◌∷◌}
use Prim.Native.Nat.{ℕ, ◌<◌}
use native.Mathlib.Omega.{arith}
use borrow.Author.Tests.{ltb-true, ltb-false, eqb-true, eqb-false, eq-eqb, ne_eqb}
use lib.Dec.{ltb, eqb}
use lib.ListN.{length, get_or, set, length-set, get_or-eq_default}
use lib.Seq.{get_or-set_same, get_or-set_other, ext_get_or}
use Rattle.k_tuple.specs.Strings.{Str}
use Rattle.k_tuples.specs.Sets.{union, join_sets}
use Rattle.k_tuples.specs.States.{State, set_of}
use Rattle.k_tuples.specs.Work.{Answer, refused, got, ◌>>=◌, within}
use Rattle.k_tuples.proofs.Work.{got-inj, answer-of}
use Rattle.cfg.specs.Reading.{pick}
use Rattle.cfg.specs.Grammar.{Sym, nonterminal, terminal, Production}
use Rattle.cfg.specs.Marks.{Marked}
use Rattle.cfg.specs.Closure.{all_marked}
use Rattle.first_theory.specs.First.{Part, run, single, put, parts}
use Rattle.first_theory.specs.Compute.{part_set, join_parts, right_side, round_from}
use Rattle.first.specs.Due.{due_from, kept_of, new_set}

-- the same work after an answer
then_same : {A B : Type 0} (m : Answer A) {f g : A → Answer B} → ((a : A) → f a ≡ g a) → (m >>= f) ≡ (m >>= g)
then_same (refused r) h = refl
then_same (got a) h = h a

-- ---- what is not due

-- each right side of A has only nonterminals that are the same
abbrev pub Untouched : List Bool → ℕ → List Production → Type 0
Untouched same A [] = Unit {0}
Untouched same A (p ∷ ps) = (p.left ≡ A → all_marked true same p.right ≡ true) × Untouched same A ps

pub not-due : (same : List Bool) (A : ℕ) (ps : List Production) (due : List Bool) → A < length due → get_or (due_from same ps due) A false ≡ false
    → (get_or due A false ≡ false) × Untouched same A ps
unfolding due_from
not-due same A [] due h e = (e, tt)
not-due same A (p ∷ ps) due h e = by (all_marked true same p.right) refl (not-due same A ps _ (by_length (all_marked true same p.right)) e)
  where
    by_length : (b : Bool) → A < length (pick b due (set due p.left true))
    by_length true = h
    by_length false = rw length-set h

    by : (b : Bool) → all_marked true same p.right ≡ b → (get_or (pick b due (set due p.left true)) A false ≡ false) × Untouched same A ps
        → (get_or due A false ≡ false) × Untouched same A (p ∷ ps)
    by true t r = (r.0, (λ _. t, r.1))
    by false t r =
        let apart : p.left ≡ A → ⊥ = λ q. true≢false (sym (get_or-set_same due A true false h) ∙ subst (λ (l : ℕ). get_or (set due l true) A false ≡ false) q r.0) in
        (sym (get_or-set_other due p.left A true false (λ (q : A ≡ p.left). apart (sym q))) ∙ r.0, (λ q. absurd (apart q), r.1))

-- ---- sets that agree

-- two states agree on what is marked
abbrev pub Agree : List Bool → State → State → Type 0
Agree same X Y = (A : ℕ) → Marked same A → set_of X A ≡ set_of Y A

-- of two states of n sets it is enough to ask below n
pub agree-below : (same : List Bool) (n : ℕ) (X Y : State) → length X ≡ n → length Y ≡ n → ((A : ℕ) → A < n → Marked same A → set_of X A ≡ set_of Y A) → Agree same X Y
agree-below same n X Y x y h A m = by (ltb A n) refl
  where
    by : (b : Bool) → ltb A n ≡ b → set_of X A ≡ set_of Y A
    by true t = h A (ltb-true A n t) m
    by false t = let past = ltb-false A n t in get_or-eq_default X [] (omega arith) ∙ sym (get_or-eq_default Y [] (omega arith))

module _ (c k : ℕ) (same : List Bool) (X Y : State) (agree : Agree same X Y) where
  -- each part has one set in both
  abbrev SameParts : List Part → Type 0
  SameParts [] = Unit {0}
  SameParts (p ∷ ps) = (part_set k X p ≡ part_set k Y p) × SameParts ps

  both : (a b : Bool) → (a && b) ≡ true → (a ≡ true) × (b ≡ true)
  both true b e = (refl, e)
  both false b e = absurd (false≢true e)

  put_same : (a : ℕ) (ps : List Part) → SameParts ps → SameParts (put a ps)
  put_same a [] h = (refl, tt)
  put_same a (run u ∷ ps) h = (refl, h.1)
  put_same a (single A ∷ ps) h = (refl, h)

  parts_same : (γ : List Sym) → all_marked true same γ ≡ true → SameParts (parts γ)
  unfolding all_marked
  parts_same [] e = tt
  parts_same (terminal a ∷ γ) e = put_same a (parts γ) (parts_same γ e)
  parts_same (nonterminal A ∷ γ) e = let b = both (get_or same A false) (all_marked true same γ) e in (agree A b.0, parts_same γ b.1)

  joins-same : (a : List Str) (ps : List Part) → SameParts ps → join_parts c k X a ps ≡ join_parts c k Y a ps
  unfolding join_parts
  joins-same a [] h = refl
  joins-same a (p ∷ ps) h = ap (λ (b : List Str). within c (join_sets k a b) >>= λ d. join_parts c k X d ps) h.0 ∙ then_same (within c (join_sets k a (part_set k Y p))) (λ d. joins-same d ps h.1)

  right-same : (γ : List Sym) → all_marked true same γ ≡ true → right_side c k X γ ≡ right_side c k Y γ
  unfolding right_side
  right-same γ e = joins-same _ (parts γ) (parts_same γ e)

  -- the new set of a nonterminal whose right sides are not touched
  pub new-same : (A : ℕ) (ps : List Production) (new : List Str) → Untouched same A ps → new_set c k X A new ps ≡ new_set c k Y A new ps
  unfolding new_set
  new-same A [] new h = refl
  new-same A (p ∷ ps) new h = by (eqb p.left A) refl (λ b. new-same A ps b h.1)
    where
      by : (b : Bool) → eqb p.left A ≡ b → ((b : List Str) → new_set c k X A b ps ≡ new_set c k Y A b ps)
          → pick b (right_side c k X p.right >>= λ a. within c (union new a) >>= λ b. new_set c k X A b ps) (new_set c k X A new ps)
          ≡ pick b (right_side c k Y p.right >>= λ a. within c (union new a) >>= λ b. new_set c k Y A b ps) (new_set c k Y A new ps)
      by true t rest =
          ap (λ (m : Answer (List Str)). m >>= λ a. within c (union new a) >>= λ b. new_set c k X A b ps) (right-same p.right (h.0 (eqb-true p.left A t)))
          ∙ then_same (right_side c k Y p.right) (λ a. then_same (within c (union new a)) rest)
      by false t rest = rest new

-- ---- a round by its sets

-- each left side is below n
abbrev pub Lefts : ℕ → List Production → Type 0
Lefts n [] = Unit {0}
Lefts n (p ∷ ps) = (p.left < n) × Lefts n ps

module _ (c k : ℕ) (X : State) where
  -- one production of another nonterminal changes nothing
  new-other : (A : ℕ) (p : Production) (ps : List Production) (new : List Str) → (p.left ≡ A → ⊥) → new_set c k X A new (p ∷ ps) ≡ new_set c k X A new ps
  unfolding new_set
  new-other A p ps new d = rw (ne_eqb p.left A d)

  -- one of its own adds its product
  new-own : (A : ℕ) (p : Production) (ps : List Production) (new : List Str) → p.left ≡ A
      → new_set c k X A new (p ∷ ps) ≡ (right_side c k X p.right >>= λ a. within c (union new a) >>= λ b. new_set c k X A b ps)
  unfolding new_set
  new-own A p ps new q = rw (eq-eqb p.left A q)

  -- what a round gives a nonterminal
  pub round-new : (A : ℕ) (ps : List Production) (N Z : State) → A < length N → round_from c k X N ps ≡ got Z → new_set c k X A (set_of N A) ps ≡ got (set_of Z A)
  unfolding round_from new_set
  round-new A [] N Z h e = ap (λ (F : State). got (set_of F A)) (got-inj e)
  round-new A (p ∷ ps) N Z h e =
      let one = answer-of (right_side c k X p.right) (λ a. within c (union (set_of N p.left) a) >>= λ b. round_from c k X (set N p.left b) ps) Z e in
      let two = answer-of (within c (union (set_of N p.left) one.0)) (λ b. round_from c k X (set N p.left b) ps) Z one.2 in
      by one.0 one.1 two.0 two.1 (round-new A ps (set N p.left two.0) Z (rw length-set h) two.2) (eqb p.left A) refl
    where
      by : (a : List Str) → right_side c k X p.right ≡ got a → (b : List Str) → within c (union (set_of N p.left) a) ≡ got b → new_set c k X A (set_of (set N p.left b) A) ps ≡ got (set_of Z A)
          → (t : Bool) → eqb p.left A ≡ t → new_set c k X A (set_of N A) (p ∷ ps) ≡ got (set_of Z A)
      by a one b two later true t =
          let q = eqb-true p.left A t in
          let made : within c (union (set_of N A) a) ≡ got b = subst (λ (l : ℕ). within c (union (set_of N l) a) ≡ got b) q two in
          let there : set_of (set N p.left b) A ≡ b = ap (λ (l : ℕ). set_of (set N l b) A) q ∙ get_or-set_same N A b [] h in
          new-own A p ps (set_of N A) q ∙ rw (one, made) (rw there at later)
      by a one b two later false t =
          let d = eqb-false p.left A t in
          new-other A p ps (set_of N A) d ∙ rw (get_or-set_other N p.left A b [] (λ (q : A ≡ p.left). d (sym q))) at later

  -- ---- a round of what is due

  module _ (due : List Bool) (n : ℕ) where
    -- N' has the sets of N where they are due, and elsewhere what the productions to come make of them
    pub record Ahead (ps : List Production) (N N' : State) : Type 0 where
      pub long : length N ≡ n
      pub long' : length N' ≡ n
      pub same : (A : ℕ) → A < n → Marked due A → set_of N' A ≡ set_of N A
      pub rest : (A : ℕ) → A < n → get_or due A false ≡ false → new_set c k X A (set_of N A) ps ≡ got (set_of N' A)

    -- a production that is due, and has given b
    ahead-due : (p : Production) (ps : List Production) (N N' : State) (b : List Str) → p.left < n → Marked due p.left → Ahead (p ∷ ps) N N' → Ahead ps (set N p.left b) (set N' p.left b)
    ahead-due p ps N N' b l m h = record {
      long = length-set N p.left b ∙ h.long;
      long' = length-set N' p.left b ∙ h.long';
      same = λ A z d. by A z d (eqb p.left A) refl;
      rest = λ A z d.
          let apart : p.left ≡ A → ⊥ = λ q. true≢false (sym (subst (Marked due) q m) ∙ d) in
          let other : A ≡ p.left → ⊥ = λ q. apart (sym q) in
          rw (get_or-set_other N p.left A b [] other, get_or-set_other N' p.left A b [] other) (sym (new-other A p ps (set_of N A) apart) ∙ h.rest A z d);
    }
      where
        by : (A : ℕ) → A < n → Marked due A → (t : Bool) → eqb p.left A ≡ t → set_of (set N' p.left b) A ≡ set_of (set N p.left b) A
        by A z d true t =
            let q = eqb-true p.left A t in
            rw q (get_or-set_same N' A b [] (omega (arith, h.long')) ∙ sym (get_or-set_same N A b [] (omega (arith, h.long))))
        by A z d false t =
            let other : A ≡ p.left → ⊥ = λ q. eqb-false p.left A t (sym q) in
            rw (get_or-set_other N p.left A b [] other, get_or-set_other N' p.left A b [] other) (h.same A z d)

    -- a production that is not due, whose product gives b
    ahead-known : (p : Production) (ps : List Production) (N N' : State) (b : List Str) → p.left < n → get_or due p.left false ≡ false → new_set c k X p.left b ps ≡ got (set_of N' p.left)
        → Ahead (p ∷ ps) N N' → Ahead ps (set N p.left b) N'
    ahead-known p ps N N' b l m e h = record {
      long = length-set N p.left b ∙ h.long;
      long' = h.long';
      same = λ A z d.
          let other : A ≡ p.left → ⊥ = λ q. true≢false (sym (subst (Marked due) q d) ∙ m) in
          rw (get_or-set_other N p.left A b [] other) (h.same A z d);
      rest = λ A z d. by A z d (eqb p.left A) refl;
    }
      where
        by : (A : ℕ) → A < n → get_or due A false ≡ false → (t : Bool) → eqb p.left A ≡ t → new_set c k X A (set_of (set N p.left b) A) ps ≡ got (set_of N' A)
        by A z d true t =
            subst (λ (B : ℕ). new_set c k X B (set_of (set N p.left b) B) ps ≡ got (set_of N' B)) (eqb-true p.left A t)
            (rw (get_or-set_same N p.left b [] (omega (arith, h.long))) e)
        by A z d false t =
            let apart = eqb-false p.left A t in
            rw (get_or-set_other N p.left A b [] (λ (q : A ≡ p.left). apart (sym q))) (sym (new-other A p ps (set_of N A) apart) ∙ h.rest A z d)

    pub due-round : (ps : List Production) (N N' : State) → Lefts n ps → Ahead ps N N' → round_from c k X N' (kept_of due ps) ≡ round_from c k X N ps
    unfolding round_from kept_of new_set
    due-round [] N N' l h = ap got (ext_get_or [] N' N (h.long' ∙ sym h.long) (λ A z. by A (rw h.long' at z) (get_or due A false) refl))
      where
        by : (A : ℕ) → A < n → (t : Bool) → get_or due A false ≡ t → set_of N' A ≡ set_of N A
        by A z true t = h.same A z t
        by A z false t = sym (got-inj (h.rest A z t))
    due-round (p ∷ ps) N N' l h = by (get_or due p.left false) refl (λ M M' a. due-round ps M M' l.1 a)
      where
        by : (t : Bool) → get_or due p.left false ≡ t → ((M M' : State) → Ahead ps M M' → round_from c k X M' (kept_of due ps) ≡ round_from c k X M ps)
            → round_from c k X N' (pick t (p ∷ kept_of due ps) (kept_of due ps)) ≡ round_from c k X N (p ∷ ps)
        by true t later =
            ap (λ (old : List Str). right_side c k X p.right >>= λ a. within c (union old a) >>= λ b. round_from c k X (set N' p.left b) (kept_of due ps)) (h.same p.left l.0 t)
            ∙ then_same (right_side c k X p.right)
            (λ a. then_same (within c (union (set_of N p.left) a)) (λ b. later (set N p.left b) (set N' p.left b) (ahead-due p ps N N' b l.0 t h)))
        by false t later =
            let own = sym (new-own p.left p ps (set_of N p.left) refl) ∙ h.rest p.left l.0 t in
            let one = answer-of (right_side c k X p.right) (λ a. within c (union (set_of N p.left) a) >>= λ b. new_set c k X p.left b ps) (set_of N' p.left) own in
            let two = answer-of (within c (union (set_of N p.left) one.0)) (λ b. new_set c k X p.left b ps) (set_of N' p.left) one.2 in
            later (set N p.left two.0) N' (ahead-known p ps N N' two.0 l.0 t two.2 h)
            ∙ sym (ap (λ (m : Answer (List Str)). m >>= λ a. within c (union (set_of N p.left) a) >>= λ b. round_from c k X (set N p.left b) ps) one.1
            ∙ ap (λ (m : Answer (List Str)). m >>= λ b. round_from c k X (set N p.left b) ps) two.1)
