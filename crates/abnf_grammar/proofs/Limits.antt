-- 20 is given exactly when a limit is passed and nothing before it is refused, at the place of what is too many. Assumes nothing.
use Prim.Native.Nat.{ℕ, zero, suc, ◌+◌, ◌-◌, ◌≤◌, ◌<◌}
use native.Mathlib.Omega.{arith}
use native.Mathlib.Numerals.{add-one}
use mathlib.Core.Path.{◌≡◌, refl, sym, ap, ◌∙◌}
use mathlib.Core.Logic.{◌⊎◌, inl, inr, ◌↔◌}
use mathlib.Core.List.{List, [], ◌∷◌, ◌++◌, map}
use mathlib.Core.Bool.{Bool, true, false, ◌||◌, ◌&&◌}
use lib.ListN.{length, get_or, drop, length-append, length-drop, length-map}
use lib.Seq.{get_or-drop, drop-cons}
use lib.Dec.{ltb, leb, eqb}
use borrow.Author.Tests.{leb-false, leb-true, ltb-true, ltb-false, le-leb, lt-leb, le-ltb, eqb-true, eqb-false, eq-eqb, ne_eqb}
use Rattle.cfg.specs.Reading.{pick}
use Rattle.abnf_tables.specs.Run.{Run, on, refused, ◌then◌}
use Rattle.abnf_tables.specs.Bytes.{blank, letter, name_byte, literal_byte, comment_byte}
use Rattle.abnf_tables.specs.Words.{word_at, compare, position}
use Rattle.abnf_tables.specs.Tables.{Tables, counted, first_element, element, noted, used, among, ruled, defined, listed, literal, opened, closed, in_group}
use Rattle.abnf_rules.specs.Machine.{State, breaks, begins, behind, spaced, wanted, equals, empty, longer, inside, whole, fresh, step, finished, scanned, start}
use Rattle.abnf_rules.specs.declared.machine.Mode.{Mode}
use Rattle.abnf_rules.specs.declared.machine.Mode.TheVariants.{Blank, Naming, Equals, Want, Name, Quote, After, Spaced}
use Rattle.abnf_rules.specs.declared.machine.Line.{Line}
use Rattle.abnf_rules.specs.declared.machine.Line.TheVariants.{Inside, Comment, Return, Ended}
use Rattle.abnf.specs.Abnf.{table_of}
use Rattle.abnf_grammar.specs.Subset.{NoneOf}
use Rattle.abnf_grammar.specs.Meaning.{index}
use Rattle.abnf_grammar.specs.Limits as limits
use Rattle.abnf_grammar.specs.Limits.{read_to, Awaits, Begins, InName, InLiteral, New, own, Passes, Limit}
use Rattle.abnf_grammar.proofs.Numbered.{position-index, index-le, compare_same, compare-is}
use Rattle.abnf_grammar.proofs.Kept.{Gives, gives-if}
use Rattle.abnf_grammar.proofs.Leads.{state, drop-next}
use Rattle.abnf_grammar.proofs.Complete.{letter-unbroken, letter-solid, begin-step}
use Rattle.abnf_grammar.proofs.Theorems.{table-scans, scan-refuses}

-- ---- what a run leads to: a value that has Q, or 20 at a place that has P, or another refusal

abbrev Leads : {A : Type 0} → (A → Type 0) → (ℕ → Type 0) → Run A → Type 0
Leads Q P (on a) = Q a
Leads Q P (refused n p) = n ≡ 20 → P p

leads-if : {A : Type 0} (Q : A → Type 0) (P : ℕ → Type 0) (b : Bool) (x y : Run A) → (b ≡ true → Leads Q P x) → (b ≡ false → Leads Q P y) → Leads Q P (pick b x y)
leads-if Q P true x y f g = f refl
leads-if Q P false x y f g = g refl

leads-then : {A B : Type 0} (Q : A → Type 0) (R : B → Type 0) (P : ℕ → Type 0) (r : Run A) (f : A → Run B) → Leads Q P r → ((a : A) → Q a → Leads R P (f a)) → Leads R P (r then f)
leads-then Q R P (on a) f h k = k a h
leads-then Q R P (refused n p) f h k = h

-- 18 is not 20
other : (P : ℕ → Type 0) (p : ℕ) → ◌≡◌ {A = ℕ} 18 20 → P p
other P p e = absurd (omega arith)

-- one of two tests
either-of : (a b : Bool) → (a || b) ≡ true → (a ≡ true) ⊎ (b ≡ true)
either-of true b e = inl refl
either-of false b e = inr e

neither-first : (a b : Bool) → (a || b) ≡ false → a ≡ false
neither-first true b e = e
neither-first false b e = refl

neither-second : (a b : Bool) → (a || b) ≡ false → b ≡ false
neither-second true b e = let z : ◌≡◌ {A = ℕ} 0 1 = cc in absurd (omega arith)
neither-second false b e = e

-- ---- a word that is new

-- its number is past the others'
none-index : (w : List ℕ) (ws : List (List ℕ)) → length ws ≤ index w ws → NoneOf w ws
unfolding index
none-index w [] h = tt
none-index w (v ∷ vs) h = by (eqb (compare v w) 1) refl (none-index w vs) h
  where
    by : (a : Bool) → eqb (compare v w) 1 ≡ a → (length vs ≤ index w vs → NoneOf w vs) → suc (length vs) ≤ pick a 0 (suc (index w vs)) → ¬ (w ≡ v) × NoneOf w vs
    by true e r k = absurd (omega arith)
    by false e r k = ((λ q. eqb-false (compare v w) 1 e (ap (compare v) q ∙ compare_same v)), r (omega arith))

index-none : (w : List ℕ) (ws : List (List ℕ)) → NoneOf w ws → length ws ≤ index w ws
unfolding index
index-none w [] h = omega arith
index-none w (v ∷ vs) h = by (eqb (compare v w) 1) refl (index-none w vs h.1)
  where
    by : (a : Bool) → eqb (compare v w) 1 ≡ a → length vs ≤ index w vs → suc (length vs) ≤ pick a 0 (suc (index w vs))
    by true e r = absurd (h.0 (sym (compare-is v w (eqb-true (compare v w) 1 e))))
    by false e r = omega arith

new-position : (q : Bool) (text : List ℕ) (p : ℕ) (gs : List ℕ) → length gs ≤ position q text p gs → New q text p gs
new-position q text p gs h = none-index (word_at q text p) (map (word_at q text) gs) (omega (arith, position-index q text p gs, length-map gs (word_at q text)))

position-new : (q : Bool) (text : List ℕ) (p : ℕ) (gs : List ℕ) → New q text p gs → length gs ≤ position q text p gs
position-new q text p gs h = omega (arith, position-index q text p gs, length-map gs (word_at q text), index-none (word_at q text p) (map (word_at q text) gs) h)

position-le : (q : Bool) (text : List ℕ) (p : ℕ) (gs : List ℕ) → position q text p gs ≤ length gs
position-le q text p gs = omega (arith, position-index q text p gs, length-map gs (word_at q text), index-le (word_at q text p) (map (word_at q text) gs))

-- ---- left sides are no more than names and groups

-- how many of the first n names have a rule
unfoldable ruled_of : ℕ → List ℕ → ℕ
ruled_of zero fs = 0
ruled_of (suc k) fs = pick (among k fs) (suc (ruled_of k fs)) (ruled_of k fs)

among-snoc : (k x : ℕ) (fs : List ℕ) → among k (fs ++ (x ∷ [])) ≡ (among k fs || eqb x k)
unfolding among
among-snoc k x [] = by (eqb x k)
  where
    by : (a : Bool) → (a || false) ≡ (false || a)
    by true = refl
    by false = refl
among-snoc k x (f ∷ fs) = by (eqb f k) (among-snoc k x fs)
  where
    by : (a : Bool) → among k (fs ++ (x ∷ [])) ≡ (among k fs || eqb x k) → (a || among k (fs ++ (x ∷ []))) ≡ ((a || among k fs) || eqb x k)
    by true h = refl
    by false h = h

ruled-le : (n : ℕ) (fs : List ℕ) → ruled_of n fs ≤ n
unfolding ruled_of
ruled-le zero fs = omega arith
ruled-le (suc k) fs = by (among k fs) (ruled-le k fs)
  where
    by : (a : Bool) → ruled_of k fs ≤ k → pick a (suc (ruled_of k fs)) (ruled_of k fs) ≤ suc k
    by true h = omega arith
    by false h = omega arith

-- one that has none is one fewer
ruled-free : (n k : ℕ) (fs : List ℕ) → k < n → among k fs ≡ false → ruled_of n fs < n
unfolding ruled_of
ruled-free zero k fs h e = absurd (omega arith)
ruled-free (suc j) k fs h e = by (λ l. ruled-free j k fs l e) (among j fs) refl (eqb j k) refl
  where
    by : (k < j → ruled_of j fs < j) → (a : Bool) → among j fs ≡ a → (b : Bool) → eqb j k ≡ b → pick a (suc (ruled_of j fs)) (ruled_of j fs) < suc j
    by r false f b g = omega (arith, ruled-le j fs)
    by r true f true g = let s : j ≡ k = eqb-true j k g in let z : true ≡ false = sym f ∙ (rw s e) in let y : ◌≡◌ {A = ℕ} 0 1 = cc in absurd (omega arith)
    by r true f false g = let n = eqb-false j k g in omega (arith, r (omega arith))

-- a left side more takes none away, and a new rule adds one
ruled-more : (n x : ℕ) (fs : List ℕ) → ruled_of n fs ≤ ruled_of n (fs ++ (x ∷ []))
unfolding ruled_of
ruled-more zero x fs = omega arith
ruled-more (suc j) x fs = rw (among-snoc j x fs) (by (among j fs) (eqb x j) (ruled-more j x fs))
  where
    by : (a b : Bool) → ruled_of j fs ≤ ruled_of j (fs ++ (x ∷ []))
        → pick a (suc (ruled_of j fs)) (ruled_of j fs) ≤ pick (a || b) (suc (ruled_of j (fs ++ (x ∷ [])))) (ruled_of j (fs ++ (x ∷ [])))
    by true b h = omega arith
    by false true h = omega arith
    by false false h = h

ruled-new : (n k : ℕ) (fs : List ℕ) → k < n → among k fs ≡ false → ruled_of n fs + 1 ≤ ruled_of n (fs ++ (k ∷ []))
unfolding ruled_of
ruled-new zero k fs h e = absurd (omega arith)
ruled-new (suc j) k fs h e = rw (among-snoc j k fs) (by (λ l. ruled-new j k fs l e) (among j fs) refl (eqb k j) refl)
  where
    by : (k < j → ruled_of j fs + 1 ≤ ruled_of j (fs ++ (k ∷ []))) → (a : Bool) → among j fs ≡ a → (b : Bool) → eqb k j ≡ b
        → pick a (suc (ruled_of j fs)) (ruled_of j fs) + 1 ≤ pick (a || b) (suc (ruled_of j (fs ++ (k ∷ [])))) (ruled_of j (fs ++ (k ∷ [])))
    by r true f true g = let s : k ≡ j = eqb-true k j g in let z : true ≡ false = sym f ∙ (rw s at e) in let y : ◌≡◌ {A = ℕ} 0 1 = cc in absurd (omega arith)
    by r true f false g = let n = eqb-false k j g in omega (arith, r (omega arith))
    by r false f true g = omega (arith, ruled-more j k fs)
    by r false f false g = let n = eqb-false k j g in omega (arith, r (omega arith))

-- a name more
ruled-grow : (n : ℕ) (fs : List ℕ) → ruled_of n fs ≤ ruled_of (n + 1) fs
unfolding ruled_of
ruled-grow n fs = rw (add-one n) (by (among n fs))
  where
    by : (a : Bool) → ruled_of n fs ≤ pick a (suc (ruled_of n fs)) (ruled_of n fs)
    by true = omega arith
    by false = omega arith

-- what the tables keep: names and groups within their limit, and no more left sides than these
record Tidy (n g : ℕ) (fs : List ℕ) : Type 0 where
  few : n + g ≤ 128
  sides : length fs ≤ ruled_of n fs + g

abbrev TidyIn : Tables → Type 0
TidyIn t = Tidy (length t.names) t.groups t.lefts

-- ---- each change of the tables

-- an element was counted: names and sides are as before, and its production is counted where it begins one
record Element (t u : Tables) : Type 0 where
  names : u.names ≡ t.names
  lefts : u.lefts ≡ t.lefts
  groups : u.groups ≡ t.groups
  productions : u.productions ≡ t.productions + own t

element-leads : (P : ℕ → Type 0) (at : ℕ) (t : Tables) → (64 < t.size + 1 → P at) → (4096 < t.symbols + 1 → P at) → (t.size ≡ 0 → 512 < t.productions + 1 → P at)
    → Leads (Element t) P (element at t)
unfolding element first_element
element-leads P at t f g h =
    leads-if (Element t) P (leb 64 t.size || leb 4096 t.symbols) _ _ (λ z e. by (either-of (leb 64 t.size) (leb 4096 t.symbols) z))
    (λ z. leads-if (Element t) P (leb 1 t.size) _ _ (λ y. record { names = refl; lefts = refl; groups = refl; productions = same y })
    (λ y. leads-if (Element t) P (leb 512 t.productions) _ _ (λ x e. h (omega (arith, leb-false 1 t.size y)) (omega (arith, leb-true 512 t.productions x)))
    (λ x. record { names = refl; lefts = refl; groups = refl; productions = let o = one y in omega arith })))
  where
    by : (leb 64 t.size ≡ true) ⊎ (leb 4096 t.symbols ≡ true) → P at
    by (inl e) = f (omega (arith, leb-true 64 t.size e))
    by (inr e) = g (omega (arith, leb-true 4096 t.symbols e))

    one : leb 1 t.size ≡ false → own t ≡ 1
    one e = rw e

    same : leb 1 t.size ≡ true → t.productions ≡ t.productions + own t
    same e = let o : own t ≡ 0 = rw e in omega arith

tidy-same : (t u : Tables) → u.names ≡ t.names → u.lefts ≡ t.lefts → u.groups ≡ t.groups → TidyIn t → TidyIn u
tidy-same t u a b c w = rw (a, b, c) w

-- a name is noted, under its number
abbrev Noted : ℕ → Tables → Type 0
Noted k u = TidyIn u × (k < length u.names)

noted-leads : (P : ℕ → Type 0) (k from : ℕ) (t : Tables) → k ≤ length t.names → (length t.names ≤ k → 128 < length t.names + 1 + t.groups → P from) → TidyIn t
    → Leads (Noted k) P (noted k from t)
unfolding noted
noted-leads P k from t l f w =
    leads-if (Noted k) P (ltb k (length t.names)) _ _ (λ z. (w, ltb-true k (length t.names) z))
    (λ z. leads-if (Noted k) P (leb 128 (length t.names + t.groups)) _ _
    (λ y e. f (ltb-false k (length t.names) z) (omega (arith, leb-true 128 (length t.names + t.groups) y)))
    (λ y.
    let h : length t.names + t.groups < 128 = leb-false 128 (length t.names + t.groups) y in
    let e : length (t.names ++ (from ∷ [])) ≡ length t.names + 1 = length-append t.names (from ∷ []) in
    (record { few = omega arith; sides = rw e (omega (arith, w.sides, ruled-grow (length t.names) t.lefts)) }, omega arith)))

used-leads : (P : ℕ → Type 0) (text : List ℕ) (from : ℕ) (t : Tables) → (New false text from t.names → 128 < length t.names + 1 + t.groups → P from) → TidyIn t
    → Leads TidyIn P (used text from t)
unfolding used
used-leads P text from t f w =
    leads-then (Noted (position false text from t.names)) TidyIn P (noted (position false text from t.names) from t) _
    (noted-leads P (position false text from t.names) from t (position-le false text from t.names) (λ h. f (new-position false text from t.names h)) w)
    (λ u v. v.0)

-- a name that has no rule yet is left over, so that there is room for one more left side
ruled-leads : (P : ℕ → Type 0) (k from : ℕ) (u : Tables) → Noted k u → Leads TidyIn P (ruled k from u)
unfolding ruled
ruled-leads P k from u (w, l) =
    leads-if TidyIn P (among k u.lefts) _ _ (λ z. other P from)
    (λ z.
    let free : ruled_of (length u.names) u.lefts < length u.names = ruled-free (length u.names) k u.lefts l z in
    leads-if TidyIn P (leb 128 (length u.lefts)) _ _ (λ y e. absurd (omega (arith, leb-true 128 (length u.lefts) y, w.few, w.sides)))
    (λ y. record { few = w.few; sides = omega (arith, w.sides, ruled-new (length u.names) k u.lefts l z, length-append u.lefts (k ∷ [])) }))

defined-leads : (P : ℕ → Type 0) (text : List ℕ) (from : ℕ) (t : Tables) → (New false text from t.names → 128 < length t.names + 1 + t.groups → P from) → TidyIn t
    → Leads TidyIn P (defined text from t)
unfolding defined
defined-leads P text from t f w =
    leads-then (Noted (position false text from t.names)) TidyIn P (noted (position false text from t.names) from t) _
    (noted-leads P (position false text from t.names) from t (position-le false text from t.names) (λ h. f (new-position false text from t.names h)) w)
    (ruled-leads P (position false text from t.names) from)

literal-leads : (P : ℕ → Type 0) (text : List ℕ) (from : ℕ) (t : Tables) → (New true text (from + 1) t.literals → 4089 < length t.literals + 1 → P from) → TidyIn t
    → Leads TidyIn P (literal text (from + 1) t)
unfolding literal listed
literal-leads P text from t f w =
    leads-then TidyIn TidyIn P (listed (position true text (from + 1) t.literals) (from + 1) t) _
    (leads-if TidyIn P (ltb (position true text (from + 1) t.literals) (length t.literals)) _ _ (λ z. w)
    (λ z. leads-if TidyIn P (leb 4089 (length t.literals)) _ _
    (λ y e.
    let s : from + 1 - 1 ≡ from = omega arith in
    rw s (f (new-position true text (from + 1) t.literals (ltb-false _ (length t.literals) z)) (omega (arith, leb-true 4089 (length t.literals) y))))
    (λ y. w)))
    (λ u v. v)

opened-leads : (P : ℕ → Type 0) (at : ℕ) (t u : Tables) → Element t u → TidyIn t → (128 < length t.names + (t.groups + 1) → P at) → (512 < t.productions + own t + 1 → P at)
    → Leads TidyIn P (opened at u)
unfolding opened
opened-leads P at t u w v f g =
    leads-if TidyIn P (leb 128 (length u.names + u.groups) || (leb 128 (length u.lefts) || leb 512 u.productions)) _ _ (λ z e. which (either-of _ _ z))
    (λ z.
    let h : length u.names + u.groups < 128 = leb-false 128 (length u.names + u.groups) (neither-first _ _ z) in
    record { few = omega arith; sides = omega (arith, tidy.sides, ruled-more (length u.names) (128 + u.groups) u.lefts, length-append u.lefts ((128 + u.groups) ∷ [])) })
  where
    tidy : TidyIn u
    tidy = tidy-same t u w.names w.lefts w.groups v

    many : 128 ≤ length u.names + u.groups → P at
    many h = f (omega (arith, ap length w.names, w.groups))

    side : (leb 128 (length u.lefts) ≡ true) ⊎ (leb 512 u.productions ≡ true) → P at
    side (inl e) = many (omega (arith, leb-true 128 (length u.lefts) e, tidy.sides, ruled-le (length u.names) u.lefts))
    side (inr e) = g (omega (arith, leb-true 512 u.productions e, w.productions))

    which : (leb 128 (length u.names + u.groups) ≡ true) ⊎ ((leb 128 (length u.lefts) || leb 512 u.productions) ≡ true) → P at
    which (inl e) = many (leb-true 128 (length u.names + u.groups) e)
    which (inr e) = side (either-of (leb 128 (length u.lefts)) (leb 512 u.productions) e)

-- ---- one byte: where it leads, and that 20 is told of what is too many

abbrev TidyState : State → Type 0
TidyState s = TidyIn s.tables

-- the tables of an alternative or a group that ends keep what they keep
closed-tidy : (t : Tables) → TidyIn t → TidyIn (closed t)
unfolding closed
closed-tidy t w = w

module _ (text : List ℕ) (at b : ℕ) (l : Line) (m : Mode) (t : Tables) (w : TidyIn t) where
  abbrev P : ℕ → Type 0
  P = Passes text at b (state l m t)

  begins-leads : Awaits (state l m t) → Leads TidyState P (begins text at b t)
  unfolding begins
  begins-leads a =
      leads-if TidyState P (letter b) _ _ (λ z. leads-then (Element t) TidyState P (element at t) _ (begun-at (inl z)) (λ u v. kept u v))
      (λ z. leads-if TidyState P (eqb b 34) _ _
      (λ y. leads-if TidyState P (eqb (get_or text (at + 1) 0) 34) _ _ (λ x. other P at)
      (λ x. leads-then (Element t) TidyState P (element at t) _ (begun-at (inr (inl (eqb-true b 34 y, eqb-false (get_or text (at + 1) 0) 34 x)))) (λ u v. kept u v)))
      (λ y. leads-if TidyState P (eqb b 91) _ _
      (λ x.
      let e : b ≡ 91 = eqb-true b 91 x in
      leads-then (Element t) TidyState P (element at t) _ (begun-at (inr (inr e)))
      (λ u v. leads-then TidyIn TidyState P (opened at u) _ (opened-leads P at t u v w (limits.group a e refl) (limits.empty-production a e refl)) (λ r q. q)))
      (λ x. other P at)))
    where
      begun-at : Begins b (get_or text (at + 1) 0) → Leads (Element t) P (element at t)
      begun-at h = element-leads P at t (limits.right_side a h refl) (limits.symbols a h refl) (limits.production a h refl)

      kept : (u : Tables) → Element t u → TidyIn u
      kept u v = tidy-same t u v.names v.lefts v.groups w

  behind-leads : (u : Tables) → TidyIn u → Leads TidyState P (behind at b u)
  unfolding behind
  behind-leads u v =
      leads-if TidyState P (breaks b) _ _ (λ z. v)
      (λ z. leads-if TidyState P (blank b) _ _ (λ y. v)
      (λ y. leads-if TidyState P (eqb b 47) _ _ (λ x. v)
      (λ x. leads-if TidyState P (eqb b 93 && in_group u) _ _ (λ q. closed-tidy u v) (λ q. other P at))))

  equals-leads : (u : Tables) → TidyIn u → Leads TidyState P (equals at b u)
  unfolding equals
  equals-leads u v =
      leads-if TidyState P (breaks b) _ _ (λ z. v)
      (λ z. leads-if TidyState P (blank b) _ _ (λ y. v) (λ y. leads-if TidyState P (eqb b 61) _ _ (λ x. v) (λ x. other P at)))

  empty-leads : Leads TidyState P (empty at b t)
  unfolding empty
  empty-leads = leads-if TidyState P (breaks b) _ _ (λ z. w) (λ z. leads-if TidyState P (blank b) _ _ (λ y. w) (λ y. other P at))

  wanted-leads : Awaits (state l m t) → Leads TidyState P (wanted text at b t)
  unfolding wanted
  wanted-leads a = leads-if TidyState P (breaks b) _ _ (λ z. w) (λ z. leads-if TidyState P (blank b) _ _ (λ y. w) (λ y. begins-leads a))

  spaced-leads : Awaits (state l m t) → Leads TidyState P (spaced text at b t)
  unfolding spaced
  spaced-leads a = leads-if TidyState P (letter b || (eqb b 34 || eqb b 91)) _ _ (λ z. begins-leads a) (λ z. behind-leads t w)

  -- in a name that begins at a place: one byte more, or its end
  longer-leads : (from : ℕ) → InName (state l m t) from → name_byte b ≡ true → Leads TidyState P (longer at (from + 64) from m t)
  longer-leads from i z = leads-if TidyState P (leb (from + 64) at) _ _ (λ y e. limits.long-name i z (leb-true (from + 64) at y)) (λ y. w)

  fresh-leads : Leads TidyState P (fresh at b t)
  unfolding fresh
  fresh-leads = leads-if TidyState P (letter b) _ _ (λ z. w) (λ z. leads-if TidyState P (breaks b) _ _ (λ y. w) (λ y. other P at))

inside-leads : (text : List ℕ) (at b : ℕ) (m : Mode) (t : Tables) → TidyIn t → Leads TidyState (Passes text at b (state Inside m t)) (inside text at b m t)
unfolding inside
inside-leads text at b Blank t w = empty-leads text at b Inside Blank t w
inside-leads text at b (Naming from) t w =
    leads-if TidyState (Passes text at b (state Inside (Naming from) t)) (name_byte b) _ _ (λ z. longer-leads text at b Inside (Naming from) t w from (refl, inl refl) z)
    (λ z. leads-then TidyIn TidyState (Passes text at b (state Inside (Naming from) t)) (defined text from t) _
    (defined-leads (Passes text at b (state Inside (Naming from) t)) text from t (limits.name (refl, inl refl) z) w)
    (λ u v. equals-leads text at b Inside (Naming from) t w u v))
inside-leads text at b Equals t w = equals-leads text at b Inside Equals t w t w
inside-leads text at b Want t w = wanted-leads text at b Inside Want t w (refl, inl refl)
inside-leads text at b (Name from) t w =
    leads-if TidyState (Passes text at b (state Inside (Name from) t)) (name_byte b) _ _ (λ z. longer-leads text at b Inside (Name from) t w from (refl, inr refl) z)
    (λ z. leads-then TidyIn TidyState (Passes text at b (state Inside (Name from) t)) (used text from t) _
    (used-leads (Passes text at b (state Inside (Name from) t)) text from t (limits.name (refl, inr refl) z) w)
    (λ u v. behind-leads text at b Inside (Name from) t w u v))
inside-leads text at b (Quote from) t w =
    leads-if TidyState (Passes text at b (state Inside (Quote from) t)) (literal_byte b) _ _
    (λ z. leads-if TidyState (Passes text at b (state Inside (Quote from) t)) (leb (from + 65) at) _ _ (λ y e. limits.long-literal (refl, refl) z (omega (arith, leb-true (from + 65) at y))) (λ y. w))
    (λ z. leads-if TidyState (Passes text at b (state Inside (Quote from) t)) (eqb b 34) _ _
    (λ y. leads-then TidyIn TidyState (Passes text at b (state Inside (Quote from) t)) (literal text (from + 1) t) _
    (literal-leads (Passes text at b (state Inside (Quote from) t)) text from t (limits.literal (refl, refl) (eqb-true b 34 y)) w)
    (λ u v. v))
    (λ y. other (Passes text at b (state Inside (Quote from) t)) at))
inside-leads text at b After t w = behind-leads text at b Inside After t w t w
inside-leads text at b Spaced t w = spaced-leads text at b Inside Spaced t w (refl, inr refl)

step-leads : (text : List ℕ) (at b : ℕ) (l : Line) (m : Mode) (t : Tables) → TidyIn t → Leads TidyState (Passes text at b (state l m t)) (step text at b l m t)
unfolding step
step-leads text at b Inside m t w = inside-leads text at b m t w
step-leads text at b Comment m t w =
    leads-if TidyState (Passes text at b (state Comment m t)) (comment_byte b) _ _ (λ z. w)
    (λ z. leads-if TidyState (Passes text at b (state Comment m t)) (eqb b 13) _ _ (λ y. w) (λ y. other (Passes text at b (state Comment m t)) at))
step-leads text at b Return m t w = leads-if TidyState (Passes text at b (state Return m t)) (eqb b 10) _ _ (λ z. w) (λ z. other (Passes text at b (state Return m t)) at)
step-leads text at b Ended m t w =
    leads-if TidyState (Passes text at b (state Ended m t)) (blank b) _ _ (λ z. w)
    (λ z. leads-if TidyState (Passes text at b (state Ended m t)) (whole m t) _ _ (λ y. fresh-leads text at b Ended m t w) (λ y. other (Passes text at b (state Ended m t)) at))

-- ---- the text: 20 is told of a limit

-- the end is never refused by 20
finished-leads : (P : ℕ → Type 0) (at : ℕ) (l : Line) (m : Mode) (t : Tables) → Leads (λ u. Unit {0}) P (finished at l m t)
unfolding finished
finished-leads P at Inside m t = other P at
finished-leads P at Comment m t = other P at
finished-leads P at Return m t = other P at
finished-leads P at Ended m t = leads-if (λ u. Unit {0}) P (whole m t && leb 1 (length t.items)) _ _ (λ z. tt) (λ z. other P at)

-- one byte more is read
read_next : (text : List ℕ) (at b : ℕ) (s u : State) → read_to text at ≡ on s → get_or text at 0 ≡ b → step text at b s.line s.mode s.tables ≡ on u
    → read_to text (at + 1) ≡ on u
unfolding read_to
read_next text at b s u e f g = rw (add-one at) (rw (e, f) g)

here-byte : (text : List ℕ) (at b : ℕ) (bs : List ℕ) → drop at text ≡ b ∷ bs → get_or text at 0 ≡ b
here-byte text at b bs e =
    let s : at + 0 ≡ at = omega arith in
    let h : get_or (drop at text) 0 0 ≡ get_or text (at + 0) 0 = get_or-drop at text 0 0 in
    ap (λ (k : ℕ). get_or text k 0) (sym s) ∙ sym h ∙ ap (λ (l : List ℕ). get_or l 0 0) e

more_bytes : (text : List ℕ) (at b : ℕ) (bs : List ℕ) → drop at text ≡ b ∷ bs → at < length text
more_bytes text at b bs e = omega (arith, length-drop at text, ap length e)

scanned-leads : (text : List ℕ) (at : ℕ) (bs : List ℕ) (s : State) → drop at text ≡ bs → at ≤ 32768 → read_to text at ≡ on s → TidyState s
    → Leads (λ u. Unit {0}) (Limit text) (scanned text at bs s)
unfolding scanned
scanned-leads text at [] s d l e w = finished-leads (Limit text) at s.line s.mode s.tables
scanned-leads text at (b ∷ bs) s d l e w =
    leads-if (λ u. Unit {0}) (Limit text) (leb 32768 at) _ _
    (λ z q. limits.long-text at s e (more_bytes text at b bs d) (omega (arith, leb-true 32768 at z)) refl)
    (λ z.
    let k : at < 32768 = leb-false 32768 at z in
    by k (step text at b s.line s.mode s.tables) refl (step-leads text at b s.line s.mode s.tables w)
    (λ u f v. scanned-leads text (at + 1) bs u (drop-next at b bs text d) (omega arith) (read_next text at b s u e (here-byte text at b bs d) f) v))
  where
    by : at < 32768 → (r : Run State) → step text at b s.line s.mode s.tables ≡ r → Leads TidyState (Passes text at b s) r
        → ((u : State) → step text at b s.line s.mode s.tables ≡ on u → TidyState u → Leads (λ v. Unit {0}) (Limit text) (scanned text (at + 1) bs u))
        → Leads (λ v. Unit {0}) (Limit text) (r then scanned text (at + 1) bs)
    by k (on u) f h r = r u f h
    by k (refused n p) f h r = λ q. limits.at_byte at s e (more_bytes text at b bs d) k (rw (here-byte text at b bs d) (h q))

none-tidy : Tidy 0 0 []
unfolding ruled_of
none-tidy = record { few = omega arith; sides = omega arith }

scan-limit : (text : List ℕ) (p : ℕ) → scanned text 0 text start ≡ refused 20 p → Limit text p
unfolding read_to
scan-limit text p e = (rw e at (scanned-leads text 0 text start refl (omega arith) refl none-tidy)) refl

-- ---- a limit is told by 20

same-both : {A : Type 0} (x : A) (a : Bool) → pick a x x ≡ x
same-both x true = refl
same-both x false = refl

-- what is too many of an element, a group, a name, a literal
element-full : (at : ℕ) (t : Tables) → (64 < t.size + 1) ⊎ (4096 < t.symbols + 1) → element at t ≡ refused 20 at
unfolding element
element-full at t (inl h) = rw (le-leb 64 t.size (omega arith))
element-full at t (inr h) = rw (le-leb 4096 t.symbols (omega arith)) (by (leb 64 t.size))
  where
    by : (a : Bool) → pick (a || true) (refused 20 at) (pick (leb 1 t.size) (on (counted t)) (first_element at t)) ≡ refused 20 at
    by true = refl
    by false = refl

first-full : (at : ℕ) (t : Tables) → t.size ≡ 0 → 512 < t.productions + 1 → element at t ≡ refused 20 at
unfolding element first_element
first-full at t e h = rw (e, le-leb 512 t.productions (omega arith)) (same-both (refused 20 at) (leb 4096 t.symbols))

-- an element is counted, or refused by 20
element-twenty : (at : ℕ) (t : Tables) → Gives (λ u. Unit {0}) (element at t)
unfolding element first_element
element-twenty at t =
    gives-if (λ u. Unit {0}) (leb 64 t.size || leb 4096 t.symbols) _ _ (λ z. refl)
    (λ z. gives-if (λ u. Unit {0}) (leb 1 t.size) _ _ (λ y. tt) (λ y. gives-if (λ u. Unit {0}) (leb 512 t.productions) _ _ (λ x. refl) (λ x. tt)))

element-either : (at : ℕ) (t : Tables) → ((u : Tables) × (element at t ≡ on u) × Element t u) ⊎ (element at t ≡ refused 20 at)
element-either at t = by (element at t) refl (element-leads (λ p. p ≡ at) at t (λ k. refl) (λ k. refl) (λ k j. refl)) (element-twenty at t)
  where
    by : (r : Run Tables) → element at t ≡ r → Leads (Element t) (λ p. p ≡ at) r → Gives (λ u. Unit {0}) r → ((u : Tables) × (element at t ≡ on u) × Element t u) ⊎ (element at t ≡ refused 20 at)
    by (on u) e w k = inl (u, e, w)
    by (refused n p) e w k = inr (e ∙ rw (k, w k))

last-true : (a b : Bool) → (a || (b || true)) ≡ true
last-true true b = refl
last-true false true = refl
last-true false false = refl

-- where a group would be one too many, its "[" is refused, as an element or as a group
group-full : (at : ℕ) (t : Tables) → (128 < length t.names + (t.groups + 1)) ⊎ (512 < t.productions + own t + 1) → (f : Tables → Run State)
    → (element at t then λ u. opened at u then f) ≡ refused 20 at
unfolding opened
group-full at t h f = by (element-either at t)
  where
    full : (u : Tables) → Element t u → (128 < length t.names + (t.groups + 1)) ⊎ (512 < t.productions + own t + 1)
        → (leb 128 (length u.names + u.groups) || (leb 128 (length u.lefts) || leb 512 u.productions)) ≡ true
    full u w (inl k) = rw (le-leb 128 (length u.names + u.groups) (omega (arith, ap length w.names, w.groups)))
    full u w (inr k) = rw (le-leb 512 u.productions (omega (arith, w.productions))) (last-true (leb 128 (length u.names + u.groups)) (leb 128 (length u.lefts)))

    by : ((u : Tables) × (element at t ≡ on u) × Element t u) ⊎ (element at t ≡ refused 20 at) → (element at t then λ u. opened at u then f) ≡ refused 20 at
    by (inl (u, e, w)) = rw (e, full u w h)
    by (inr e) = rw e

-- a new name, where there are 128 names and groups, is refused, used or defined; and a new literal, where there are 4,089
noted-full : (text : List ℕ) (from : ℕ) (t : Tables) → New false text from t.names → 128 < length t.names + 1 + t.groups
    → noted (position false text from t.names) from t ≡ refused 20 from
unfolding noted
noted-full text from t n h = rw (le-ltb _ _ (position-new false text from t.names n), le-leb 128 (length t.names + t.groups) (omega arith))

used-full : (text : List ℕ) (from : ℕ) (t : Tables) → New false text from t.names → 128 < length t.names + 1 + t.groups → used text from t ≡ refused 20 from
unfolding used
used-full text from t n h = rw (noted-full text from t n h)

defined-full : (text : List ℕ) (from : ℕ) (t : Tables) → New false text from t.names → 128 < length t.names + 1 + t.groups → defined text from t ≡ refused 20 from
unfolding defined
defined-full text from t n h = rw (noted-full text from t n h)

literal-full : (text : List ℕ) (from : ℕ) (t : Tables) → New true text (from + 1) t.literals → 4089 < length t.literals + 1 → literal text (from + 1) t ≡ refused 20 from
unfolding literal listed
literal-full text from t n h =
    let s : from + 1 - 1 ≡ from = omega arith in
    rw (le-ltb _ _ (position-new true text (from + 1) t.literals n), le-leb 4089 (length t.literals) (omega arith), s)

-- ---- one byte

-- an element begins there, and is refused
begins-full : (text : List ℕ) (at b : ℕ) (t : Tables) → Begins b (get_or text (at + 1) 0) → element at t ≡ refused 20 at → begins text at b t ≡ refused 20 at
unfolding begins
begins-full text at b t (inl z) e = rw (z, e)
begins-full text at b t (inr (inl (z, n))) e = rw (eq-eqb b 34 z, ne_eqb (get_or text (at + 1) 0) 34 n, e) (same-both (refused 20 at) (letter b))
begins-full text at b t (inr (inr z)) e = rw e (by (letter b) refl)
  where
    by : (a : Bool) → letter b ≡ a
        → ◌≡◌ {A = Run State} (pick a (refused 20 at) (pick (eqb b 34) (pick (eqb (get_or text (at + 1) 0) 34) (refused 18 at) (refused 20 at)) (pick (eqb b 91) (refused 20 at) (refused 18 at)))) (refused 20 at)
    by true f = refl
    by false f = rw z

module _ (text : List ℕ) (at b : ℕ) where
  -- the byte of an element is neither a blank nor a break
  begins-solid : (c : ℕ) → Begins b c → (breaks b ≡ false) × (blank b ≡ false) × ((letter b || (eqb b 34 || eqb b 91)) ≡ true)
  unfolding blank letter
  begins-solid c (inl z) = (letter-unbroken b z, letter-solid b z, rw z)
  begins-solid c (inr (inl (z, n))) = rw z (refl, refl, refl)
  begins-solid c (inr (inr z)) = rw z (refl, refl, refl)

  awaits-step : (m : Mode) (t : Tables) → (m ≡ Want) ⊎ (m ≡ Spaced) → (c : ℕ) → Begins b c → step text at b Inside m t ≡ begins text at b t
  awaits-step m t (inl e) c h = let s = begins-solid c h in rw e (begin-step text at b Want t tt s.0 s.1 s.2)
  awaits-step m t (inr e) c h = let s = begins-solid c h in rw e (begin-step text at b Spaced t tt s.0 s.1 s.2)

  -- a group begins there, and is refused
  group-begins : (t : Tables) → b ≡ 91 → (128 < length t.names + (t.groups + 1)) ⊎ (512 < t.productions + own t + 1) → begins text at b t ≡ refused 20 at
  unfolding begins letter
  group-begins t z h = rw z (group-full at t h (λ u. on (state Inside Want u)))

  -- what passes a limit is refused by 20
  passes-step : (s : State) (p : ℕ) → Passes text at b s p → step text at b s.line s.mode s.tables ≡ refused 20 p
  unfolding step inside name_byte literal_byte
  passes-step s p (limits.long-name (l, inl m) z h) = rw (l, m, z, le-leb (p + 64) at h)
  passes-step s p (limits.long-name (l, inr m) z h) = rw (l, m, z, le-leb (p + 64) at h)
  passes-step s p (limits.long-literal (l, m) z h) = rw (l, m, z, le-leb (p + 65) at (omega arith))
  passes-step s p (limits.name (l, inl m) z n h) = rw (l, m, z, defined-full text p s.tables n h)
  passes-step s p (limits.name (l, inr m) z n h) = rw (l, m, z, used-full text p s.tables n h)
  passes-step s p (limits.group (l, m) z e h) = rw (l, e) (awaits-step s.mode s.tables m 0 (inr (inr z)) ∙ group-begins s.tables z (inl h))
  passes-step s p (limits.literal (l, m) z n h) = rw (l, m, z, literal-full text p s.tables n h)
  passes-step s p (limits.production (l, m) z e y h) = rw (l, e) (awaits-step s.mode s.tables m (get_or text (at + 1) 0) z ∙ begins-full text at b s.tables z (first-full at s.tables y h))
  passes-step s p (limits.empty-production (l, m) z e h) = rw (l, e) (awaits-step s.mode s.tables m 0 (inr (inr z)) ∙ group-begins s.tables z (inr h))
  passes-step s p (limits.right_side (l, m) z e h) = rw (l, e) (awaits-step s.mode s.tables m (get_or text (at + 1) 0) z ∙ begins-full text at b s.tables z (element-full at s.tables (inl h)))
  passes-step s p (limits.symbols (l, m) z e h) = rw (l, e) (awaits-step s.mode s.tables m (get_or text (at + 1) 0) z ∙ begins-full text at b s.tables z (element-full at s.tables (inr h)))

-- ---- the text

-- what is read of a text is read on
read-on : (text : List ℕ) (i : ℕ) (s : State) → read_to text i ≡ on s → i ≤ length text → i ≤ 32768 → scanned text 0 text start ≡ scanned text i (drop i text) s
unfolding read_to scanned
read-on text zero s e h l = let z : start ≡ s = cc in rw z
read-on text (suc i) s e h l = by (read_to text i) refl e (λ u f. read-on text i u f (omega arith) (omega arith))
  where
    by : (r : Run State) → read_to text i ≡ r → (r then λ u. step text i (get_or text i 0) u.line u.mode u.tables) ≡ on s
        → ((u : State) → read_to text i ≡ on u → scanned text 0 text start ≡ scanned text i (drop i text) u)
        → scanned text 0 text start ≡ scanned text (suc i) (drop (suc i) text) s
    by (on u) f g r = r u f ∙ rw (drop-cons text i 0 (omega arith), lt-leb 32768 i (omega arith), g, add-one i)
    by (refused n p) f g r = let z : ◌≡◌ {A = ℕ} 0 1 = cc in absurd (omega arith)

-- a limit that is passed is told
limit-scan : (text : List ℕ) (p : ℕ) → Limit text p → scanned text 0 text start ≡ refused 20 p
unfolding scanned
limit-scan text p (limits.long-text i s e h k q) = read-on text i s e (omega arith) (omega arith) ∙ rw (drop-cons text i 0 h, le-leb 32768 i (omega arith), q)
limit-scan text p (limits.at_byte i s e h k q) =
    read-on text i s e (omega arith) (omega arith) ∙ rw (drop-cons text i 0 h, lt-leb 32768 i k, passes-step text i (get_or text i 0) s p q)

-- 20 is given exactly when a limit is passed and nothing before it is refused, at the place of what is too many, whatever is lent
pub limit-exactly : (text : List ℕ) (room p : ℕ) → (table_of text room ≡ refused 20 p) ↔ Limit text p
limit-exactly text room p =
    ((λ e. scan-limit text p (table-scans text room 20 p (λ z. absurd (omega arith)) (λ z. absurd (omega arith)) e)), λ h. scan-refuses text room 20 p (limit-scan text p h))
