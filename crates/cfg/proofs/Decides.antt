-- The computed tests decide what they are to decide. Assumes nothing.
use Prim.Native.Nat.{ℕ, ◌≤◌, ◌<◌}
use mathlib.Core.Path.{◌≡◌, refl, sym, ap, ◌∙◌}
use mathlib.Core.Logic.{◌↔◌, ⊎_elim}
use mathlib.Core.List.Memᴰ
use mathlib.Core.List.{List, [], ◌∷◌, ◌++◌, Memᴰ}
use mathlib.Core.Bool.{Bool, true, false}
use lib.ListN.{get_or}
use lib.Dec.{eqb}
use borrow.Author.Tests.{eqb-true, eq-eqb}
use Rattle.cfg.specs.Reading.{pick}
use Rattle.cfg.specs.Grammar.{Sym, nonterminal, terminal, Production, Grammar, Closed, none_left, free-terminal, by-rule, Nullable, LeftCorner, Chain, one, more, LeftRecursive}
use Rattle.cfg.specs.Words.{Below}
use Rattle.cfg.proofs.Sound.{both}
use Rattle.cfg.specs.Marks.{Marked, no_marks}
use Rattle.cfg.specs.Closure.{closure, all_marked}
use Rattle.cfg.specs.Corners.{leading, corners, walk, comes_back, left_recursive}
use Rattle.cfg.proofs.Marks.{unmarked-all, marked-or-not, not-both, bool_cases, no-mark, any_here, any-witness}
use Rattle.cfg.proofs.Closes.{rounds-right, rounds-keep, kept-all}
use Rattle.cfg.proofs.Chains.{from-chain, Next, Reached, walk-reaches}

-- every nonterminal of a grammar's productions is below n
pub record Numbered (n : ℕ) (ps : List Production) : Type 0 where
  pub few : n ≤ 128
  pub left : (p : Production) → Memᴰ p ps → p.left < n
  pub right : (p : Production) → Memᴰ p ps → Below n p.right

module _ (free : Bool) (g : Grammar) (N : Numbered g.n g.productions) where
  -- n rounds mark the nonterminals that are closed, and no others: nullable at false, productive at true
  pub closure-decides : (a : ℕ) → Marked (closure free g.productions g.n) a ↔ Closed free g (nonterminal a ∷ [])
  unfolding all_marked
  closure-decides a = (
    λ m. let c = rounds-right free g g.n no_marks (λ x h. absurd (no-mark x h)) a m in by-rule c.1 c.2 none_left,
    λ c. (both _ _ (kept-all free g (closure free g.productions g.n) (rounds-keep free g g.n N.left g.n no_marks N.few (unmarked-all g.n no_marks)) c)).0,
  )

module _ {R S : ℕ → ℕ → Type 0} (f : (a b : ℕ) → R a b → S a b) where
  pub chain-map : {a b : ℕ} → Chain R a b → Chain S a b
  chain-map (one {A = a} {B = b} r) = one (f a b r)
  chain-map (more {A = a} {B = b} r c) = more (f a b r) (chain-map c)

-- a closed nonterminal before closed symbols
closed-cons : {free : Bool} {g : Grammar} {a : ℕ} {ss : List Sym} → Closed free g (nonterminal a ∷ []) → Closed free g ss → Closed free g (nonterminal a ∷ ss)
closed-cons (by-rule r c d) e = by-rule r c e

closed-head : {free : Bool} {g : Grammar} {a : ℕ} {ss : List Sym} → Closed free g (nonterminal a ∷ ss) → Closed free g (nonterminal a ∷ []) × Closed free g ss
closed-head (by-rule r c d) = (by-rule r c none_left, d)

module _ (g : Grammar) (N : Numbered g.n g.productions) where
  abbrev n : ℕ
  n = g.n

  abbrev ps : List Production
  ps = g.productions

  abbrev nulls : List Bool
  nulls = closure false ps n

  -- what `leading` gives of a right side
  leading_sound : (ss : List Sym) (b : ℕ) → Memᴰ b (leading nulls ss) → (α : List Sym) × (β : List Sym) × (ss ≡ α ++ (nonterminal b ∷ β)) × Nullable g α
  leading_sound [] b i = absurd (Memᴰ.not-nil i)
  leading_sound (terminal x ∷ ss) b i = absurd (Memᴰ.not-nil i)
  leading_sound (nonterminal a ∷ ss) b i = ⊎_elim
      (λ (e : b ≡ a). ([], ss, ap (λ (z : ℕ). nonterminal z ∷ ss) (sym e), none_left))
      (λ (j : Memᴰ b (pick (get_or nulls a false) (leading nulls ss) [])). ⊎_elim
      (λ (k : Marked nulls a).
      let (α, β, e, c) = leading_sound ss b (rw k at j) in
      (nonterminal a ∷ α, β, ap (λ (l : List Sym). nonterminal a ∷ l) e, closed-cons ((closure-decides false g N a).0 k) c))
      (λ (k : get_or nulls a false ≡ false). absurd (Memᴰ.not-nil (rw k at j)))
      (marked-or-not nulls a))
      (Memᴰ.cases_cons i)

  leading-all : (α β : List Sym) (b : ℕ) → Nullable g α → Memᴰ b (leading nulls (α ++ (nonterminal b ∷ β)))
  leading-all [] β b c = Memᴰ.head refl
  leading-all (nonterminal a ∷ α) β b c =
      let h = closed-head c in
      rw ((closure-decides false g N a).1 h.0) (Memᴰ.tail (leading-all α β b h.1))
  leading-all (terminal x ∷ α) β b (free-terminal e r) = absurd (not-both e refl)

  -- what `corners` gives of some of the productions
  corners-sound : (qs : List Production) → ((p : Production) → Memᴰ p qs → Memᴰ p ps) → (a b : ℕ) → Memᴰ b (corners nulls qs a) → LeftCorner g a b
  corners-sound [] f a b i = absurd (Memᴰ.not-nil i)
  corners-sound (p ∷ qs) f a b i = ⊎_elim
      (λ j. ⊎_elim
      (λ (e : eqb p.left a ≡ true).
      let (α, β, r, c) = leading_sound p.right b (rw e at j) in
      (α, β, Memᴰ.cast (λ k. record { left = sym (eqb-true p.left a e) k; right = sym r k }) (f p (Memᴰ.head refl)), c))
      (λ (e : eqb p.left a ≡ false). absurd (Memᴰ.not-nil (rw e at j)))
      (bool_cases (eqb p.left a)))
      (λ j. corners-sound qs (λ q k. f q (Memᴰ.tail k)) a b j)
      (Memᴰ.append_cases (pick (eqb p.left a) (leading nulls p.right) []) i)

  corners-all : (qs : List Production) (a b : ℕ) (p : Production) → Memᴰ p qs → p.left ≡ a → Memᴰ b (leading nulls p.right) → Memᴰ b (corners nulls qs a)
  corners-all [] a b p x3 l i = elim x3 [ ]
  corners-all (q ∷ qs) a b p (Memᴰ.head e) l i = Memᴰ.append_left {s = pick (eqb q.left a) (leading nulls q.right) []} (corners nulls qs a) (rw (eq-eqb q.left a (ap (λ (z : Production). z.left) (sym e) ∙ l), ← e) i)
  corners-all (q ∷ qs) a b p (Memᴰ.tail m) l i = Memᴰ.append_right (pick (eqb q.left a) (leading nulls q.right) []) (corners-all qs a b p m l i)

  -- the computed left corners are the left corners
  pub corners-decide : (a b : ℕ) → Memᴰ b (corners nulls ps a) ↔ LeftCorner g a b
  corners-decide a b = (
    corners-sound ps (λ p i. i) a b,
    λ c. corners-all ps a b (record { left = a; right = c.0 ++ (nonterminal b ∷ c.1) }) c.2 refl (leading-all c.0 c.1 b c.3),
  )

  -- a left corner is below n
  below-member : (α β : List Sym) (b : ℕ) → Below n (α ++ (nonterminal b ∷ β)) → b < n
  below-member [] β b w = w.0
  below-member (nonterminal i ∷ α) β b w = below-member α β b w.1
  below-member (terminal x ∷ α) β b w = below-member α β b w

  pub corner-below : (a b : ℕ) → Memᴰ b (corners nulls ps a) → b < n
  corner-below a b i =
      let c : LeftCorner g a b = (corners-decide a b).0 i in
      below-member c.0 c.1 b (N.right (record { left = a; right = c.0 ++ (nonterminal b ∷ c.1) }) c.2)

  module _ (a : ℕ) where
    reached : Reached (corners nulls ps) no_marks (corners nulls ps a) (walk nulls ps n a no_marks)
    reached = walk-reaches nulls ps n corner-below n a no_marks N.few (unmarked-all n no_marks)

    onward : (b x : ℕ) → Marked (walk nulls ps n a no_marks) b → Chain (Next (corners nulls ps)) b x → Marked (walk nulls ps n a no_marks) x
    onward b x m (one i) = ⊎_elim (λ k. absurd (no-mark b k)) (λ f. f x i) (reached.closed b m)
    onward b x m (more {B = c} i r) = onward c x (⊎_elim (λ k. absurd (no-mark b k)) (λ f. f c i) (reached.closed b m)) r

    from_start : (x : ℕ) → Chain (Next (corners nulls ps)) a x → Marked (walk nulls ps n a no_marks) x
    from_start x (one i) = reached.all x i
    from_start x (more {B = b} i r) = onward b x (reached.all b i) r

    -- the walk marks what chains of left corners reach, and nothing else
    pub walk-decides : (x : ℕ) → Marked (walk nulls ps n a no_marks) x ↔ Chain (LeftCorner g) a x
    walk-decides x = (
      λ m. ⊎_elim (λ k. absurd (no-mark x k)) (λ f. chain-map (λ c d i. (corners-decide c d).0 i) (from-chain (corners nulls ps) (corners nulls ps a) (λ y i. i) f)) (reached.sound x m),
      λ c. from_start x (chain-map (λ c d i. (corners-decide c d).1 i) c),
    )

  chain-below : (a x : ℕ) → Chain (LeftCorner g) a x → x < n
  chain-below a x (one c) = corner-below a x ((corners-decide a x).1 c)
  chain-below a x (more {B = b} c r) = chain-below b x r

  -- the whole test decides left recursion
  pub left-recursive-decides : (left_recursive (closure false ps n) ps n ≡ true) ↔ LeftRecursive g
  unfolding comes_back
  left-recursive-decides = (
    λ e. let (a, l, t) = any-witness n _ e in (a, (walk-decides a a).0 t),
    λ r. any_here n _ r.0 (chain-below r.0 r.0 r.1) ((walk-decides r.0 r.0).1 r.1),
  )
