-- The rounds compute the least closed marks. Assumes nothing.
use Prim.Native.Nat.{ℕ, zero, suc, ◌≤◌, ◌<◌}
use native.Mathlib.Omega.{arith}
use mathlib.Core.Path.{◌≡◌, refl, sym, ap, ◌∙◌}
use mathlib.Core.Logic.{◌⊎◌, inl, inr, ⊎_elim}
use mathlib.Core.List.Memᴰ
use mathlib.Core.List.{List, [], ◌∷◌, Memᴰ}
use mathlib.Core.Bool.{Bool, true, false}
use lib.ListN.{length, get_or, set, length-set}
use lib.Seq.{set-get_or}
use Rattle.cfg.specs.Reading.{pick}
use Rattle.cfg.specs.Grammar.{Sym, nonterminal, terminal, Production, Grammar, Rule, Closed, none_left, free-terminal, by-rule}
use Rattle.cfg.proofs.Sound.{both}
use Rattle.cfg.specs.Marks.{Marked}
use Rattle.cfg.proofs.Marks.{unmarked, marked-or-not, not-both, bool_cases, mark-kept, mark-cases, none-unmarked, unmarked-fewer, unmarked-less}
use Rattle.cfg.specs.Closure.{all_marked, close_one, close_round, close_rounds}

module _ (free : Bool) (g : Grammar) where
  abbrev ps : List Production
  ps = g.productions

  -- marks of closed nonterminals only
  abbrev pub Right : List Bool → Type 0
  Right m = (x : ℕ) → Marked m x → (γ : List Sym) × Rule g x γ × Closed free g γ

  all_right : (m : List Bool) → Right m → (ss : List Sym) → all_marked free m ss ≡ true → Closed free g ss
  unfolding all_marked
  all_right m r [] e = none_left
  all_right m r (nonterminal i ∷ ss) e =
      let (h, t) = both (get_or m i false) (all_marked free m ss) e in
      (let c = r i h in by-rule c.1 c.2 (all_right m r ss t))
  all_right m r (terminal x ∷ ss) e =
      let (h, t) = both free (all_marked free m ss) e in
      free-terminal h (all_right m r ss t)

  one_right : (p : Production) (m : List Bool) → Memᴰ p ps → Right m → Right (close_one free p m)
  unfolding close_one
  one_right p m i r x h = ⊎_elim
      (λ (t : all_marked free m p.right ≡ true).
      ⊎_elim (λ (e : x ≡ p.left). (p.right, Memᴰ.cast (λ k. record { left = e k; right = p.right }) i, all_right m r p.right t)) (λ (k : Marked m x). r x k) (mark-cases m p.left x (rw t at h)))
      (λ (f : all_marked free m p.right ≡ false). r x (rw f at h))
      (bool_cases (all_marked free m p.right))

  round-right : (qs : List Production) (m : List Bool) → ((p : Production) → Memᴰ p qs → Memᴰ p ps) → Right m → Right (close_round free qs m)
  unfolding close_round
  round-right [] m f r = r
  round-right (p ∷ qs) m f r = round-right qs (close_one free p m) (λ q i. f q (Memᴰ.tail i)) (one_right p m (f p (Memᴰ.head refl)) r)

  pub rounds-right : (k : ℕ) (m : List Bool) → Right m → Right (close_rounds free ps k m)
  unfolding close_rounds
  rounds-right zero m r = r
  rounds-right (suc k) m r = rounds-right k (close_round free ps m) (round-right ps m (λ p i. i) r)

  -- each of some productions has its left side marked, if its symbols are
  abbrev pub Kept : List Production → List Bool → Type 0
  Kept qs m = (p : Production) → Memᴰ p qs → all_marked free m p.right ≡ true → Marked m p.left

  pub kept-all : (m : List Bool) → Kept ps m → {ss : List Sym} → Closed free g ss → all_marked free m ss ≡ true
  unfolding all_marked
  kept-all m k none_left = refl
  kept-all m k (by-rule {A = A} {γ = γ} r c d) = rw (k (record { left = A; right = γ }) r (kept-all m k c), kept-all m k d)
  kept-all m k (free-terminal f d) = rw (kept-all m k d, f)

  -- a step and a round keep marks and length
  one_grows : (p : Production) (m : List Bool) (x : ℕ) → Marked m x → Marked (close_one free p m) x
  unfolding close_one
  one_grows p m x h = ⊎_elim
      (λ (t : all_marked free m p.right ≡ true). rw t (mark-kept m p.left x h))
      (λ (f : all_marked free m p.right ≡ false). rw f h)
      (bool_cases (all_marked free m p.right))

  one_size : (p : Production) (m : List Bool) → length (close_one free p m) ≡ length m
  unfolding close_one
  one_size p m = go (all_marked free m p.right)
    where
      go : (b : Bool) → length (pick b (set m p.left true) m) ≡ length m
      go true = length-set m p.left true
      go false = refl

  round-grows : (qs : List Production) (m : List Bool) (x : ℕ) → Marked m x → Marked (close_round free qs m) x
  unfolding close_round
  round-grows [] m x h = h
  round-grows (p ∷ qs) m x h = round-grows qs (close_one free p m) x (one_grows p m x h)

  round-size : (qs : List Production) (m : List Bool) → length (close_round free qs m) ≡ length m
  unfolding close_round
  round-size [] m = refl
  round-size (p ∷ qs) m = round-size qs (close_one free p m) ∙ one_size p m

  module _ (n : ℕ) (small : (p : Production) → Memᴰ p ps → p.left < n) where
    -- a step changes nothing and its production is kept, or it marks one more
    one-moves : (p : Production) (m : List Bool) → p.left < n → n ≤ length m
        → ((close_one free p m ≡ m) × (all_marked free m p.right ≡ true → Marked m p.left)) ⊎ (unmarked n (close_one free p m) < unmarked n m)
    unfolding close_one
    one-moves p m h l = ⊎_elim
        (λ (t : all_marked free m p.right ≡ true). ⊎_elim
        (λ (k : Marked m p.left). inl (rw t (ap (set m p.left) (sym k) ∙ set-get_or m p.left false), λ _. k))
        (λ (k : get_or m p.left false ≡ false). inr (rw t (unmarked-less n m p.left h (omega arith) k)))
        (marked-or-not m p.left))
        (λ (f : all_marked free m p.right ≡ false). inl (rw f refl, λ t. absurd (not-both t f)))
        (bool_cases (all_marked free m p.right))

    -- so does a round
    round-moves : (qs : List Production) (m : List Bool) → ((p : Production) → Memᴰ p qs → p.left < n) → n ≤ length m
        → ((close_round free qs m ≡ m) × Kept qs m) ⊎ (unmarked n (close_round free qs m) < unmarked n m)
    unfolding close_round
    round-moves [] m f l = inl (refl, λ p i. absurd (Memᴰ.not-nil i))
    round-moves (p ∷ qs) m f l = ⊎_elim
        (λ (s : (close_one free p m ≡ m) × (all_marked free m p.right ≡ true → Marked m p.left)). rw s.0 (⊎_elim
        (λ (r : (close_round free qs m ≡ m) × Kept qs m). inl (r.0, λ q i. ⊎_elim (λ (e : q ≡ p). rw e s.1) (λ j. r.1 q j) (Memᴰ.cases_cons i)))
        (λ r. inr r)
        (round-moves qs m (λ q i. f q (Memᴰ.tail i)) l)))
        (λ s. inr (omega (arith, unmarked-fewer n (close_one free p m) (close_round free qs (close_one free p m)) (round-grows qs (close_one free p m)))))
        (one-moves p m (f p (Memᴰ.head refl)) l)

    rounds-still : (k : ℕ) (m : List Bool) → close_round free ps m ≡ m → close_rounds free ps k m ≡ m
    unfolding close_rounds
    rounds-still zero m e = refl
    rounds-still (suc k) m e = rw e (rounds-still k m e)

    -- as many rounds as marks are missing are enough
    pub rounds-keep : (k : ℕ) (m : List Bool) → n ≤ length m → unmarked n m ≤ k → Kept ps (close_rounds free ps k m)
    unfolding close_rounds
    rounds-keep zero m l u = λ p i t. none-unmarked n m (omega arith) p.left (small p i)
    rounds-keep (suc k) m l u = ⊎_elim
        (λ (r : (close_round free ps m ≡ m) × Kept ps m). rw (r.0, rounds-still k m r.0) r.1)
        (λ r. rounds-keep k (close_round free ps m) (omega (arith, round-size ps m)) (omega arith))
        (round-moves ps m small l)
