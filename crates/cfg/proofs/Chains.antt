-- What the walk marks is what chains of left corners reach. Assumes nothing.
use Prim.Native.Nat.{ℕ, zero, suc, ◌≤◌, ◌<◌}
use native.Mathlib.Omega.{arith}
use mathlib.Core.Path.{◌≡◌, refl, ◌∙◌}
use mathlib.Core.Logic.{◌⊎◌, inl, inr, ⊎_elim}
use mathlib.Core.List.Memᴰ
use mathlib.Core.List.{List, [], ◌∷◌, Memᴰ}
use mathlib.Core.Bool.{Bool, true, false}
use lib.ListN.{length, get_or, set, length-set}
use Rattle.cfg.specs.Grammar.{Production, Chain, one, more}
use Rattle.cfg.specs.Marks.{Marked}
use Rattle.cfg.proofs.Marks.{unmarked, marked-or-not, mark-kept, mark-here, mark-cases, none-unmarked, unmarked-fewer, unmarked-less}
use Rattle.cfg.specs.Corners.{corners, turn, visit, walk}

-- b is one of those that `next` gives for a
abbrev pub Next : (ℕ → List ℕ) → ℕ → ℕ → Type 0
Next next a b = Memᴰ b (next a)

-- x is one of some nonterminals, or is reached from one of them
pub data From (next : ℕ → List ℕ) (x : ℕ) : List ℕ → Type 0 where
  here : {b : ℕ} {bs : List ℕ} → (x ≡ b) ⊎ Chain (Next next) b x → From next x (b ∷ bs)
  later : {b : ℕ} {bs : List ℕ} → From next x bs → From next x (b ∷ bs)

module _ (next : ℕ → List ℕ) where
  -- the marks r, made from m by walks from all of bs
  pub record Reached (m : List Bool) (bs : List ℕ) (r : List Bool) : Type 0 where
    pub kept : (x : ℕ) → Marked m x → Marked r x
    pub size : length r ≡ length m
    pub sound : (x : ℕ) → Marked r x → Marked m x ⊎ From next x bs
    pub closed : (x : ℕ) → Marked r x → Marked m x ⊎ ((y : ℕ) → Memᴰ y (next x) → Marked r y)
    pub all : (y : ℕ) → Memᴰ y bs → Marked r y

  pub from-chain : {x b : ℕ} (bs : List ℕ) → ((y : ℕ) → Memᴰ y bs → Memᴰ y (next b)) → From next x bs → Chain (Next next) b x
  from-chain {b = b} [] f x3 = elim x3 [ ]
  from-chain (c ∷ bs) f (here (inl e)) = one (Memᴰ.cast e (f c (Memᴰ.head refl)))
  from-chain (c ∷ bs) f (here (inr k)) = more (f c (Memᴰ.head refl)) k
  from-chain (c ∷ bs) f (later r) = from-chain bs (λ y i. f y (Memᴰ.tail i)) r

  reached-none : (m : List Bool) → Reached m [] m
  reached-none m = record {
    kept = λ x h. h;
    size = refl;
    sound = λ x h. inl h;
    closed = λ x h. inl h;
    all = λ y i. absurd (Memᴰ.not-nil i);
  }

  -- first b, then the others
  reached-more : (m m' r : List Bool) (b : ℕ) (bs : List ℕ) → Reached m (b ∷ []) m' → Reached m' bs r → Reached m (b ∷ bs) r
  reached-more m m' r b bs f g = record {
    kept = λ x h. g.kept x (f.kept x h);
    size = g.size ∙ f.size;
    sound = λ x h. ⊎_elim (λ k. ⊎_elim (λ l. inl l) (λ l. inr (first l)) (f.sound x k)) (λ k. inr (later k)) (g.sound x h);
    closed = λ x h. ⊎_elim (λ k. ⊎_elim (λ l. inl l) (λ l. inr (λ y i. g.kept y (l y i))) (f.closed x k)) (λ k. inr k) (g.closed x h);
    all = λ y i. ⊎_elim (λ e. g.kept y (f.all y (Memᴰ.head e))) (λ j. g.all y j) (Memᴰ.cases_cons i);
  }
    where
      first : {x : ℕ} → From next x (b ∷ []) → From next x (b ∷ bs)
      first (here k) = here k
      first (later x4) = elim x4 [ ]

  -- one that is marked is passed over
  reached-marked : (m : List Bool) (b : ℕ) → Marked m b → Reached m (b ∷ []) m
  reached-marked m b h = record {
    kept = λ x k. k;
    size = refl;
    sound = λ x k. inl k;
    closed = λ x k. inl k;
    all = λ y i. ⊎_elim (λ e. rw e h) (λ j. absurd (Memᴰ.not-nil j)) (Memᴰ.cases_cons i);
  }

  -- another is marked, and walked from
  reached-walked : (m r : List Bool) (b : ℕ) → b < length m → Reached (set m b true) (next b) r → Reached m (b ∷ []) r
  reached-walked m r b l w = record {
    kept = λ x h. w.kept x (mark-kept m b x h);
    size = w.size ∙ length-set m b true;
    sound = λ x h. ⊎_elim (λ k. ⊎_elim (λ e. inr (here (inl e))) (λ j. inl j) (mark-cases m b x k)) (λ k. inr (here (inr (from-chain (next b) (λ y i. i) k)))) (w.sound x h);
    closed = λ x h. ⊎_elim (λ k. ⊎_elim (λ e. inr (rw e w.all)) (λ j. inl j) (mark-cases m b x k)) (λ k. inr k) (w.closed x h);
    all = λ y i. ⊎_elim (λ e. rw e (w.kept b (mark-here m b l))) (λ j. absurd (Memᴰ.not-nil j)) (Memᴰ.cases_cons i);
  }

  -- what a step must do from each nonterminal below n, where at most d of them are not marked
  Steps : (ℕ → List Bool → List Bool) → ℕ → ℕ → Type 0
  Steps step n d = (b : ℕ) (m : List Bool) → b < n → n ≤ length m → unmarked n m ≤ d → Reached m (next b) (step b m)

  module _ (step : ℕ → List Bool → List Bool) (n d : ℕ) (steps : Steps step n d) where
    turn-reaches : (b : ℕ) (m : List Bool) → b < n → n ≤ length m → unmarked n m ≤ suc d → Reached m (b ∷ []) (turn step b m)
    unfolding turn Steps
    turn-reaches b m h l u = ⊎_elim
        (λ (k : Marked m b). rw k (reached-marked m b k))
        (λ (k : get_or m b false ≡ false). rw k (reached-walked m _ b (omega arith)
        (steps b (set m b true) h (omega (arith, length-set m b true)) (omega (arith, unmarked-less n m b h (omega arith) k)))))
        (marked-or-not m b)

    visit-reaches : (bs : List ℕ) (m : List Bool) → ((y : ℕ) → Memᴰ y bs → y < n) → n ≤ length m → unmarked n m ≤ suc d → Reached m bs (visit step bs m)
    unfolding visit
    visit-reaches [] m f l u = reached-none m
    visit-reaches (b ∷ bs) m f l u =
        let t : Reached m (b ∷ []) (turn step b m) = turn-reaches b m (f b (Memᴰ.head refl)) l u in
        reached-more m (turn step b m) _ b bs t
        (visit-reaches bs (turn step b m) (λ y i. f y (Memᴰ.tail i)) (omega (arith, t.size)) (omega (arith, unmarked-fewer n m (turn step b m) t.kept)))

-- from marks of which at most `depth` are missing, the walk marks all that chains reach, and nothing else
pub walk-reaches : (nullable : List Bool) (ps : List Production) (n : ℕ) → ((a y : ℕ) → Memᴰ y (corners nullable ps a) → y < n)
    → (depth a : ℕ) (m : List Bool) → n ≤ length m → unmarked n m ≤ depth
    → Reached (corners nullable ps) m (corners nullable ps a) (walk nullable ps depth a m)
unfolding walk Steps
walk-reaches nullable ps n f zero a m l u = record {
  kept = λ x h. h;
  size = refl;
  sound = λ x h. inl h;
  closed = λ x h. inl h;
  all = λ y i. none-unmarked n m (omega arith) y (f a y i);
}
walk-reaches nullable ps n f (suc depth) a m l u =
    visit-reaches (corners nullable ps) (walk nullable ps depth) n depth
    (λ b m' h l' u'. walk-reaches nullable ps n f depth b m' l' u')
    (corners nullable ps a) m (f a) l u
