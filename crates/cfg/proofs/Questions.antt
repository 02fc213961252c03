-- A reader as a tree of questions: each asks for a number, tests it, and goes on by it. What such a reader answers, and exactly when. Assumes nothing.
use Prim.Native.Nat.{ℕ, ◌<◌}
use native.Mathlib.Omega.{arith}
use mathlib.Core.Path.{◌≡◌, refl, sym, ap, subst, ◌∙◌}
use mathlib.Core.Logic.{◌⊎◌, inl, inr, ⊎_elim}
use mathlib.Core.List.{List, [], ◌∷◌, ◌++◌}
use mathlib.Core.Bool.{Bool, true, false}
use lib.ListN.{length, get_or, length-append}
use Rattle.cfg.specs.Reading.{Reading, got, refused, pick, ◌then◌}
use Rattle.cfg.specs.Number.{number}
use Rattle.cfg.proofs.Field.{got-refused}
use Rattle.cfg.proofs.Sound.{then-inverse}
use Rattle.cfg.proofs.Marks.{not-both, bool_cases}
use Rattle.cfg.proofs.Numbers.{Reads, Small}

-- a question has the refusal of a number that does not pass, the test, and how it goes on
pub data Tree (A : Type 0) : Type 0 where
  done : A → Tree A
  ask : ℕ → (ℕ → Bool) → (ℕ → Tree A) → Tree A

abbrev pub run : {A : Type 0} → List ℕ → Tree A → ℕ → Reading A
run b (done a) at = got a at
run b (ask kind ok go) at = number b at then λ v next. pick (ok v) (run b (go v) next) (refused kind)

-- numbers that answer all questions
abbrev pub Accepts : {A : Type 0} → Tree A → List ℕ → Type 0
Accepts (done a) vs = vs ≡ []
Accepts (ask kind ok go) [] = ⊥
Accepts (ask kind ok go) (v ∷ vs) = (ok v ≡ true) × Accepts (go v) vs

-- the refusals of the questions that some numbers meet
abbrev pub kinds : {A : Type 0} → Tree A → List ℕ → List ℕ
kinds (done a) vs = []
kinds (ask kind ok go) [] = []
kinds (ask kind ok go) (v ∷ vs) = kind ∷ kinds (go v) vs

-- every question refuses by 5 or 6, can be answered, and only by a number of at most two groups
unfoldable pub Live : {A : Type 0} → Tree A → Type 0
Live (done a) = Unit {0}
Live (ask kind ok go) = ((kind ≡ 5) ⊎ (kind ≡ 6)) × ((v : ℕ) × (ok v ≡ true)) × ((v : ℕ) → ok v ≡ true → (v < 16384) × Live (go v))

module _ {A : Type 0} where
  completion : (T : Tree A) → Live T → (vs : List ℕ) × Accepts T vs
  unfolding Live
  completion (done a) l = ([], refl)
  completion (ask kind ok go) l =
      let (vs, h) = completion (go l.1.0) (l.2 l.1.0 l.1.1).1 in
      (l.1.0 ∷ vs, (l.1.1, h))

  pub accepts-small : (T : Tree A) → Live T → (vs : List ℕ) → Accepts T vs → Small vs
  unfolding Live
  accepts-small (done a) l vs h = subst Small (sym h) tt
  accepts-small (ask kind ok go) l [] h = absurd h
  accepts-small (ask kind ok go) l (v ∷ vs) h = ((l.2 v h.0).0, accepts-small (go v) (l.2 v h.0).1 vs h.1)

  -- a value is read where all questions are answered
  picked : (t : Bool) (m : Reading A) (r : ℕ) {a : A} {next : ℕ} → pick t m (refused r) ≡ got a next → (t ≡ true) × (m ≡ got a next)
  picked true m r e = (refl, e)
  picked false m r e = absurd (got-refused (sym e))

  pub run-got : (b : List ℕ) (T : Tree A) (at : ℕ) (a : A) (next : ℕ) → run b T at ≡ got a next → (vs : List ℕ) × Accepts T vs × Reads b at vs next
  run-got b (done a) at a' next e = let end : at ≡ next = cc in ([], refl, end)
  run-got b (ask kind ok go) at a next e =
      let (v, x, m, k) = then-inverse (number b at) (λ v next. pick (ok v) (run b (go v) next) (refused kind)) e in
      let (o, k') = picked (ok v) (run b (go v) x) kind k in
      let (vs, h, r) = run-got b (go v) x a next k' in
      (v ∷ vs, (o, h), (x, m, r))

  pub accepts-run : (b : List ℕ) (T : Tree A) (vs : List ℕ) (at next : ℕ) → Accepts T vs → Reads b at vs next → (a : A) × (run b T at ≡ got a next)
  accepts-run b (done a) vs at next h r = let end : at ≡ next = subst (λ (l : List ℕ). Reads b at l next) h r in (a, rw end)
  accepts-run b (ask kind ok go) [] at next h r = absurd h
  accepts-run b (ask kind ok go) (v ∷ vs) at next h (mid, e, r) =
      let (a, f) = accepts-run b (go v) vs mid next h.1 r in
      (a, rw (e, h.0) f)

  -- the next number cannot be read, or no numbers that begin so are accepted
  abbrev pub Fails : Tree A → List ℕ → List ℕ → ℕ → ℕ → ℕ → Type 0
  Fails T b vs x kind r = (number b x ≡ refused r) ⊎ ((v : ℕ) × (y : ℕ) × (number b x ≡ got v y) × (r ≡ kind) × ((rest : List ℕ) → Accepts T (vs ++ (v ∷ rest)) → ⊥))

  -- some numbers are read, which others could complete, and the next fails
  pub record Stops (T : Tree A) (b : List ℕ) (at r : ℕ) : Type 0 where
    pub vs : List ℕ
    pub x : ℕ
    pub reads : Reads b at vs x
    pub v : ℕ
    pub rest : List ℕ
    pub goes : Accepts T (vs ++ (v ∷ rest))
    pub kind : ℕ
    pub same : get_or (kinds T (vs ++ (v ∷ rest))) (length vs) 0 ≡ kind
    pub known : (kind ≡ 5) ⊎ (kind ≡ 6)
    pub fails : Fails T b vs x kind r

  module _ (b : List ℕ) where
    module _ (kind : ℕ) (ok : ℕ → Bool) (go : ℕ → Tree A) where
      stops-here : (at r : ℕ) → Live (ask kind ok go) → Fails (ask kind ok go) b [] at kind r → Stops (ask kind ok go) b at r
      unfolding Live
      stops-here at r l f =
          let (vs, h) = completion (go l.1.0) (l.2 l.1.0 l.1.1).1 in
          record { vs = []; x = at; reads = refl; v = l.1.0; rest = vs; goes = (l.1.1, h); kind = kind; same = refl; known = l.0; fails = f }

      stops-later : (at r v y : ℕ) → ok v ≡ true → number b at ≡ got v y → Stops (go v) b y r → Stops (ask kind ok go) b at r
      stops-later at r v y o e s = record {
        vs = v ∷ s.vs;
        x = s.x;
        reads = (y, e, s.reads);
        v = s.v;
        rest = s.rest;
        goes = (o, s.goes);
        kind = s.kind;
        same = s.same;
        known = s.known;
        fails = ⊎_elim (λ f. inl f) (λ (w, z, f, k, never). inr (w, z, f, k, λ rest h. never rest h.1)) s.fails;
      }

    -- a refusal stops so
    pub run-stops : (T : Tree A) → Live T → (at r : ℕ) → run b T at ≡ refused r → Stops T b at r
    unfolding Live
    run-stops (done a) l at r e = absurd (got-refused e)
    run-stops (ask kind ok go) l at r e = by (λ v o y f. run-stops (go v) (l.2 v o).1 y r f) (number b at) refl e
      where
        tested : ((v : ℕ) → ok v ≡ true → (y : ℕ) → run b (go v) y ≡ refused r → Stops (go v) b y r) → (v y : ℕ) → number b at ≡ got v y
            → (t : Bool) → ok v ≡ t → pick t (run b (go v) y) (refused kind) ≡ refused r → Stops (ask kind ok go) b at r
        tested more v y m true o f = stops-later kind ok go at r v y o m (more v o y f)
        tested more v y m false o f = let same : r ≡ kind = cc in stops-here kind ok go at r l (inr (v, y, m, same, λ rest h. not-both h.0 o))

        by : ((v : ℕ) → ok v ≡ true → (y : ℕ) → run b (go v) y ≡ refused r → Stops (go v) b y r) → (m : Reading ℕ) → number b at ≡ m
            → (m then λ v next. pick (ok v) (run b (go v) next) (refused kind)) ≡ refused r → Stops (ask kind ok go) b at r
        by more (got v y) m f = tested more v y m (ok v) refl f
        by more (refused s) m f = let same : s ≡ r = cc in stops-here kind ok go at r l (inl (m ∙ ap (λ (k : ℕ). refused k) same))

    -- and what stops so is refused
    pub stops-run : (T : Tree A) → Live T → (at r : ℕ) (vs : List ℕ) (x : ℕ) → Reads b at vs x → (v : ℕ) (rest : List ℕ) → Accepts T (vs ++ (v ∷ rest))
        → (kind : ℕ) → get_or (kinds T (vs ++ (v ∷ rest))) (length vs) 0 ≡ kind → Fails T b vs x kind r → run b T at ≡ refused r
    unfolding Live
    stops-run (done a) l at r vs x reads v rest h kind same f = absurd (omega (arith, ap length h, length-append vs (v ∷ rest)))
    stops-run (ask k ok go) l at r [] x reads v rest h kind same f = ⊎_elim
        (λ (e : number b x ≡ refused r). let here : number b at ≡ refused r = rw reads e in rw here)
        (λ (w, y, e, s, never).
        let here : number b at ≡ got w y = rw reads e in
        ⊎_elim
        (λ (o : ok w ≡ true). let (ws, a) = completion (go w) (l.2 w o).1 in absurd (never ws (o, a)))
        (λ (o : ok w ≡ false). let all : k ≡ r = same ∙ sym s in rw (here, o, all))
        (bool_cases (ok w)))
        f
    stops-run (ask k ok go) l at r (u ∷ us) x (mid, e, reads) v rest h kind same f =
        rw (e, h.0) (stops-run (go u) (l.2 u h.0).1 mid r us x reads v rest h.1 kind same
        (⊎_elim (λ m. inl m) (λ (w, y, m, s, never). inr (w, y, m, s, λ more a. never more (h.0, a))) f))
