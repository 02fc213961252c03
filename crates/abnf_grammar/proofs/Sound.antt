-- What the automaton reads to its end is a text of the subset: from each of its states, what is left of the text is what may be left of one. Assumes nothing.
use Prim.Native.Nat.{ℕ, ◌+◌, ◌<◌}
use native.Mathlib.Omega.{arith}
use mathlib.Core.Path.{◌≡◌, refl, sym, ap, ◌∙◌}
use mathlib.Core.Logic.{◌⊎◌, inl, inr}
use mathlib.Core.List.{List, [], ◌∷◌, ◌++◌}
use mathlib.Core.Bool.{Bool, true, false, not, ◌||◌, ◌&&◌}
use lib.ListN.{length, get_or, drop, length-append}
use lib.Seq.{get_or-drop}
use lib.Dec.{leb, eqb}
use borrow.Author.Tests.{eqb-true, eqb-false}
use Rattle.cfg.specs.Reading.{pick}
use Rattle.abnf_tables.specs.Run.{Run, on, refused, ◌then◌}
use Rattle.abnf_tables.specs.Bytes.{blank, letter, name_byte, literal_byte, comment_byte}
use Rattle.abnf_tables.specs.Words.{position}
use Rattle.abnf_tables.specs.Tables as Tab
use Rattle.abnf_tables.specs.Tables.{Tables, none, among, begun, noted, ruled, used, defined, literal, opened, closed, in_group}
use Rattle.abnf_rules.specs.Machine.{State, to, breaks, broken, begins, behind, spaced, wanted, equals, empty, inside, whole, fresh, step, finished, scanned, start}
use Rattle.abnf_rules.specs.declared.machine.Mode.{Mode}
use Rattle.abnf_rules.specs.declared.machine.Mode.TheVariants.{Blank, Naming, Equals, Want, Name, Quote, After, Spaced}
use Rattle.abnf_rules.specs.declared.machine.Line.{Line}
use Rattle.abnf_rules.specs.declared.machine.Line.TheVariants.{Inside, Comment, Return, Ended}
use Rattle.abnf_grammar.specs.Subset.{Part, named, quoted, optional, last, next, Choice, only, either, Definition, Many, more, Some, byte, char, ◌⨾◌, spelled, WSP, c-nl, c-wsp, rulename, element, alternation, Lines, end, rules, blanks}
use Rattle.abnf_grammar.proofs.Kept.{Gives, Based, Keep, noted-gives, element-keeps, used-keeps, literal-keeps, opened-keeps, closed-keeps, in-rule, in_group_lem, rule-keeps, renamed-base, position-le}
use Rattle.abnf_grammar.proofs.Leads.{state, drop-next, Loose, or_cases}

-- ---- pieces put together

-- blanks before blanks, and one more behind
many-snoc : {P : List ℕ → List ℕ → Type 0} {bs mid rest : List ℕ} → Many P bs mid → P mid rest → Many P bs rest
many-snoc Many.none p = more p Many.none
many-snoc (more q qs) p = more q (many-snoc qs p)

many-join : {P : List ℕ → List ℕ → Type 0} {bs mid rest : List ℕ} → Many P bs mid → Many P mid rest → Many P bs rest
many-join Many.none p = p
many-join (more q qs) p = more q (many-join qs p)

some-join : {bs mid rest : List ℕ} → Some c-wsp bs mid → Many c-wsp mid rest → Some c-wsp bs rest
some-join s m = (s.0, s.1, many-join s.2 m)

many-some : {bs rest : List ℕ} → Some c-wsp bs rest → Many c-wsp bs rest
many-some s = more s.1 s.2

some-snoc : {bs mid rest : List ℕ} → Many c-wsp bs mid → c-wsp mid rest → Some c-wsp bs rest
some-snoc {rest} Many.none p = (rest, p, Many.none)
some-snoc (more {mid = mid} q qs) p = (mid, q, many-snoc qs p)

-- one byte more of a literal, and of a name
spelled-snoc : (p : ℕ → Bool) (w : List ℕ) (b : ℕ) (bs rest : List ℕ) → spelled p w bs (b ∷ rest) → p b ≡ true → spelled p (w ++ (b ∷ [])) bs rest
spelled-snoc p [] b bs rest s e = (rest, s, e, refl)
spelled-snoc p (c ∷ w) b bs rest s e = (s.0, s.1, s.2, spelled-snoc p w b s.0 rest s.3 e)

name-snoc : (w : List ℕ) (b : ℕ) (bs rest : List ℕ) → rulename w bs (b ∷ rest) → name_byte b ≡ true → rulename (w ++ (b ∷ [])) bs rest
name-snoc [] b bs rest s e = absurd s
name-snoc (c ∷ w) b bs rest s e = (s.0, s.1, s.2, spelled-snoc name_byte w b s.0 rest s.3 e)

-- ---- what may be left of a text

-- some definitions
abbrev Tail : List ℕ → Type 0
Tail bs = (ds : List Definition) × Lines ds bs

-- behind an element: more of them, and then what ends the alternation
data Behind (K : List ℕ → Type 0) : List ℕ → Type 0 where
  done : {bs : List ℕ} → K bs → Behind K bs
  next-part : {bs x y : List ℕ} (p : Part) → Some c-wsp bs x → element p x y → Behind K y → Behind K bs
  next_row : {bs x y z u : List ℕ} (p : Part) → Many c-wsp bs x → x ≡ 47 ∷ y → Many c-wsp y z → element p z u → Behind K u → Behind K bs

-- what ends the alternation of the left sides in hand: a line end, or a bracket and what stands behind that option
abbrev Ends : List ℕ → List ℕ → Type 0
Ends [] bs = (x : List ℕ) × (Many c-wsp ⨾ c-nl) bs x × Tail x
Ends (p ∷ ps) bs = (x : List ℕ) × (y : List ℕ) × Many c-wsp bs x × (x ≡ 93 ∷ y) × Behind (Ends ps) y

-- an element, and behind it
abbrev Elem : List ℕ → List ℕ → Type 0
Elem ps bs = (p : Part) × (x : List ℕ) × element p bs x × Behind (Ends ps) x

-- blanks, an element, and behind it
abbrev Wants : List ℕ → List ℕ → Type 0
Wants ps bs = (x : List ℕ) × Many c-wsp bs x × Elem ps x

-- one element more before the first alternative
abbrev prepend : Part → Choice → Choice
prepend p (only r) = only (next p r)
prepend p (either r c) = either (next p r) c

-- the first alternative with one element more
prepend-is : (p : Part) (c : Choice) (bs x y rest : List ℕ) → element p bs x → Some c-wsp x y → alternation c y rest → alternation (prepend p c) bs rest
prepend-is p (only r) bs x y rest e s a = (x, e, (y, s, a))
prepend-is p (either r c) bs x y rest e s a = (a.0, (x, e, (y, s, a.1)), a.2)

-- an element and what stands behind it are an alternation and what ends that
gather : {K : List ℕ → Type 0} (p : Part) (bs x : List ℕ) → element p bs x → Behind K x → (c : Choice) × (y : List ℕ) × alternation c bs y × K y
gather p bs x e (done k) = (only (last p), x, e, k)
gather p bs x e (next-part {x = y} {y = z} q s f b) = let g = gather q y z f b in (prepend p g.0, g.1, prepend-is p g.0 bs x y g.1 e s g.2, g.3)
gather p bs x e (next_row {x = y} {y = z} {z = u} {u = v} q m i o f b) =
    let g = gather q u v f b in (either (last p) g.0, g.1, (x, e, (y, m, (z, i, (u, o, g.2)))), g.3)

-- blanks before what ends an alternation, and before what stands behind an element
ends-blank : (ps : List ℕ) {bs x : List ℕ} → Many c-wsp bs x → Ends ps x → Ends ps bs
ends-blank [] m k = (k.0, (k.1.0, many-join m k.1.1, k.1.2), k.2)
ends-blank (p ∷ ps) m k = (k.0, k.1, many-join m k.2, k.3, k.4)

behind-blank : (ps : List ℕ) {bs x : List ℕ} → Some c-wsp bs x → Behind (Ends ps) x → Behind (Ends ps) bs
behind-blank ps s (done k) = done (ends-blank ps (many-some s) k)
behind-blank ps s (next-part p t e b) = next-part p (some-join s (many-some t)) e b
behind-blank ps s (next_row p m i o e b) = next_row p (many-join (many-some s) m) i o e b

-- "[", what is wanted behind it, and "]"
option_is : (l : ℕ) (ps bs rest : List ℕ) → bs ≡ 91 ∷ rest → Wants (l ∷ ps) rest → Elem ps bs
option_is l ps bs rest i w =
    let e = w.2 in
    let g = gather e.0 w.0 e.1 e.2 e.3 in
    let k = g.3 in
    (optional g.0, k.1, (rest, i, (w.0, w.1, (g.1, g.2, (k.0, k.2, k.3)))), k.4)

-- a name, "=" and what is wanted behind that
rule-is : (w bs mid x y : List ℕ) → rulename w bs mid → Many c-wsp mid x → x ≡ 61 ∷ y → Wants [] y → Tail bs
rule-is w bs mid x y r m i v =
    let e = v.2 in
    let g = gather e.0 v.0 e.1 e.2 e.3 in
    let k = g.3 in
    let d : Definition = record { name = w; choice = g.0 } in
    (d ∷ k.2.0, rules (mid, r, (v.0, (x, m, (y, i, v.1)), (k.1.0, (g.1, g.2, k.1.1), k.1.2))) k.2.1)

-- ---- what is left where the automaton stands

-- by mode; of what was read of a word, a literal or blanks, all that it may have been
abbrev Left : Mode → List ℕ → List ℕ → Type 0
Left Blank ps bs = (x : List ℕ) × (Many c-wsp ⨾ c-nl) bs x × Tail x
Left (Naming from) ps bs = (w b : List ℕ) → rulename w b bs → Tail b
Left Equals ps bs = (x : List ℕ) × (y : List ℕ) × Many c-wsp bs x × (x ≡ 61 ∷ y) × Wants ps y
Left Want ps bs = Wants ps bs
Left (Name from) ps bs = (w b : List ℕ) → rulename w b bs → Elem ps b
Left (Quote from) ps bs = (w b : List ℕ) → spelled literal_byte w b bs → (length w ≡ 0 → ¬ (get_or bs 0 0 ≡ 34)) → Elem ps (34 ∷ b)
Left After ps bs = Behind (Ends ps) bs
Left Spaced ps bs = (b : List ℕ) → Some c-wsp b bs → Behind (Ends ps) b

-- the same where a line ends or a comment begins, which may be the first blank behind an element
abbrev LeftBroken : Mode → List ℕ → List ℕ → Type 0
LeftBroken Blank ps bs = Left Blank ps bs
LeftBroken (Naming from) ps bs = Left (Naming from) ps bs
LeftBroken Equals ps bs = Left Equals ps bs
LeftBroken Want ps bs = Left Want ps bs
LeftBroken (Name from) ps bs = Left (Name from) ps bs
LeftBroken (Quote from) ps bs = Left (Quote from) ps bs
LeftBroken After ps bs = Left After ps bs
LeftBroken Spaced ps bs = (b : List ℕ) → Many c-wsp b bs → Behind (Ends ps) b

-- a comment up to its end, or nothing
abbrev Opening : List ℕ → List ℕ → Type 0
Opening bs rest = (bs ≡ rest) ⊎ (char 59 ⨾ Many (byte comment_byte)) bs rest

abbrev Empty : List ℕ → Type 0
Empty [] = Unit {0}
Empty (p ∷ ps) = ⊥

-- a rule, or a line without one, may end
abbrev Whole : Mode → List ℕ → Type 0
Whole Blank ps = Unit {0}
Whole (Naming from) ps = ⊥
Whole Equals ps = ⊥
Whole Want ps = ⊥
Whole (Name from) ps = ⊥
Whole (Quote from) ps = ⊥
Whole After ps = ⊥
Whole Spaced ps = Empty ps

-- by where in a line
abbrev LeftIn : Line → Mode → List ℕ → List ℕ → Type 0
LeftIn Inside m ps bs = Left m ps bs
LeftIn Comment m ps bs = (b : List ℕ) → (char 59 ⨾ Many (byte comment_byte)) b bs → LeftBroken m ps b
LeftIn Return m ps bs = (b : List ℕ) → Opening b (13 ∷ bs) → LeftBroken m ps b
LeftIn Ended m ps bs = ((x : List ℕ) × WSP bs x × Left m ps x) ⊎ (Whole m ps × Tail bs)

-- a line end, and what is left behind it
ended-left : (m : Mode) (ps bs rest : List ℕ) → Loose m → c-nl bs rest → LeftIn Ended m ps rest → LeftBroken m ps bs
ended-left Blank ps bs rest h n (inl (x, s, k)) = (k.0, (k.1.0, more (inr (rest, n, s)) k.1.1, k.1.2), k.2)
ended-left Blank ps bs rest h n (inr (y, k)) = (rest, (bs, Many.none, n), k)
ended-left (Naming from) ps bs rest h n k = absurd h
ended-left Equals ps bs rest h n (inl (x, s, k)) = (k.0, k.1, more (inr (rest, n, s)) k.2, k.3, k.4)
ended-left Equals ps bs rest h n (inr (y, k)) = absurd y
ended-left Want ps bs rest h n (inl (x, s, k)) = (k.0, more (inr (rest, n, s)) k.1, k.2)
ended-left Want ps bs rest h n (inr (y, k)) = absurd y
ended-left (Name from) ps bs rest h n k = absurd h
ended-left (Quote from) ps bs rest h n k = absurd h
ended-left After ps bs rest h n k = absurd h
ended-left Spaced ps bs rest h n (inl (x, s, k)) = λ b m. k b (some-snoc m (inr (rest, n, s)))
ended-left Spaced [] bs rest h n (inr (y, k)) = λ b m. done (rest, (bs, m, n), k)
ended-left Spaced (p ∷ ps) bs rest h n (inr (y, k)) = absurd y

-- a blank more
blank-left : (m : Mode) (ps bs rest : List ℕ) → Loose m → c-wsp bs rest → Left m ps rest → Left m ps bs
blank-left Blank ps bs rest h c k = (k.0, (k.1.0, more c k.1.1, k.1.2), k.2)
blank-left (Naming from) ps bs rest h c k = absurd h
blank-left Equals ps bs rest h c k = (k.0, k.1, more c k.2, k.3, k.4)
blank-left Want ps bs rest h c k = (k.0, more c k.1, k.2)
blank-left (Name from) ps bs rest h c k = absurd h
blank-left (Quote from) ps bs rest h c k = absurd h
blank-left After ps bs rest h c k = absurd h
blank-left Spaced ps bs rest h c k = λ b s. k b (some-join s (more c Many.none))

-- ---- what a state's tables keep

-- by mode
abbrev Fits : Mode → List ℕ → Tables → Type 0
Fits Blank ps t = Based t
Fits (Naming from) ps t = Based t
Fits Equals ps t = Keep ps t
Fits Want ps t = Keep ps t
Fits (Name from) ps t = Keep ps t
Fits (Quote from) ps t = Keep ps t
Fits After ps t = Keep ps t
Fits Spaced ps t = Keep ps t

abbrev FitsIn : Line → Mode → List ℕ → Tables → Type 0
FitsIn Inside m ps t = Fits m ps t
FitsIn Comment m ps t = Loose m × Fits m ps t
FitsIn Return m ps t = Loose m × Fits m ps t
FitsIn Ended m ps t = Loose m × Fits m ps t

-- whatever the mode, the base; where a rule may end, it stands in no option
fits-base : (m : Mode) (ps : List ℕ) (t : Tables) → Fits m ps t → Based t
fits-base Blank ps t w = w
fits-base (Naming from) ps t w = w
fits-base Equals ps t w = w.base
fits-base Want ps t w = w.base
fits-base (Name from) ps t w = w.base
fits-base (Quote from) ps t w = w.base
fits-base After ps t w = w.base
fits-base Spaced ps t w = w.base

fits_whole : (m : Mode) (ps : List ℕ) (t : Tables) → Fits m ps t → whole m t ≡ true → Whole m ps
unfolding whole
fits_whole Blank ps t w e = tt
fits_whole (Naming from) ps t w e = let z : ◌≡◌ {A = ℕ} 0 1 = cc in absurd (omega arith)
fits_whole Equals ps t w e = let z : ◌≡◌ {A = ℕ} 0 1 = cc in absurd (omega arith)
fits_whole Want ps t w e = let z : ◌≡◌ {A = ℕ} 0 1 = cc in absurd (omega arith)
fits_whole (Name from) ps t w e = let z : ◌≡◌ {A = ℕ} 0 1 = cc in absurd (omega arith)
fits_whole (Quote from) ps t w e = let z : ◌≡◌ {A = ℕ} 0 1 = cc in absurd (omega arith)
fits_whole After ps t w e = let z : ◌≡◌ {A = ℕ} 0 1 = cc in absurd (omega arith)
fits_whole Spaced [] t w e = tt
fits_whole Spaced (p ∷ ps) t w e =
    let y : in_group t ≡ true = in_group_lem p ps t w in let x : not true ≡ true = ap not (sym y) ∙ e in let z : ◌≡◌ {A = ℕ} 0 1 = cc in absurd (omega arith)

-- ---- from a step back to the state before it

-- where a step goes on to a state from which bs is left, X holds
abbrev Backs : Type 0 → List ℕ → Run State → Type 0
Backs X bs (on s) = (ps : List ℕ) × FitsIn s.line s.mode ps s.tables × (LeftIn s.line s.mode ps bs → X)
Backs X bs (refused n p) = Unit {0}

-- by the cases of a test, of a run, and along an implication
backs-if : (X : Type 0) (bs : List ℕ) (b : Bool) (x y : Run State) → (b ≡ true → Backs X bs x) → (b ≡ false → Backs X bs y) → Backs X bs (pick b x y)
backs-if X bs true x y f g = f refl
backs-if X bs false x y f g = g refl

backs-then : {A : Type 0} (P : A → Type 0) (X : Type 0) (bs : List ℕ) (r : Run A) (f : A → Run State) → Gives P r → ((a : A) → P a → Backs X bs (f a))
    → Backs X bs (r then f)
backs-then P X bs (on a) f h k = k a h
backs-then P X bs (refused n p) f h k = tt

backs-map : (X Y : Type 0) (bs : List ℕ) (r : Run State) → (X → Y) → Backs X bs r → Backs Y bs r
backs-map X Y bs (on s) f w = (w.0, w.1, λ k. f (w.2 k))
backs-map X Y bs (refused n p) f w = tt

and_first : (a b : Bool) → (a && b) ≡ true → a ≡ true
and_first true b e = refl
and_first false b e = e

and_second : (a b : Bool) → (a && b) ≡ true → b ≡ true
and_second true b e = e
and_second false b e = let z : ◌≡◌ {A = ℕ} 0 1 = cc in absurd (omega arith)

-- the end of a line, or a comment
broken-backs : (X : Type 0) (b : ℕ) (bs : List ℕ) (m : Mode) (ps : List ℕ) (t : Tables) → breaks b ≡ true → Loose m → Fits m ps t
    → (LeftBroken m ps (b ∷ bs) → X) → Backs X bs (broken b m t)
broken-backs X b bs m ps t e h w f = by (eqb b 59) refl
  where
    by : (c : Bool) → eqb b 59 ≡ c → Backs X bs (on (record { line = pick c Comment Return; mode = m; tables = t }))
    by true q = (ps, (h, w), λ k. f (k (b ∷ bs) (bs, ap {B = List ℕ} (λ x. x ∷ bs) (eqb-true b 59 q), Many.none)))
    by false q = (ps, (h, w), λ k. f (k (b ∷ bs) (inl (ap {B = List ℕ} (λ x. x ∷ bs) (return (or_cases (eqb b 13) (eqb b 59) e))))))
      where
        return : (eqb b 13 ≡ true) ⊎ (eqb b 59 ≡ true) → b ≡ 13
        return (inl z) = eqb-true b 13 z
        return (inr z) = let y : ◌≡◌ {A = ℕ} 0 1 = cc in absurd (omega arith)

-- a blank
blank-backs : (b : ℕ) (bs : List ℕ) (m : Mode) (ps : List ℕ) (t : Tables) → blank b ≡ true → Loose m → Fits m ps t → Backs (Left m ps (b ∷ bs)) bs (to m t)
blank-backs b bs m ps t e h w = (ps, w, λ k. blank-left m ps (b ∷ bs) bs h (inl (b, refl, e)) k)

head-is : (b c : ℕ) (bs : List ℕ) → b ≡ c → b ∷ bs ≡ c ∷ bs
head-is b c bs e = ap {B = List ℕ} (λ x. x ∷ bs) e

module _ (text : List ℕ) where
  begins-backs : (at b : ℕ) (bs : List ℕ) (ps : List ℕ) (t : Tables) → drop at text ≡ b ∷ bs → Keep ps t → Backs (Elem ps (b ∷ bs)) bs (begins text at b t)
  unfolding begins
  begins-backs at b bs ps t d w =
      let X = Elem ps (b ∷ bs) in
      backs-if X bs (letter b) _ _
      (λ z. backs-then (Keep ps) X bs (Tab.element at t) (to (Name at)) (element-keeps at ps t w)
      (λ u v. (ps, v, λ k. k (b ∷ []) (b ∷ bs) (bs, refl, z, refl))))
      (λ z. backs-if X bs (eqb b 34) _ _
      (λ y. backs-if X bs (eqb (get_or text (at + 1) 0) 34) _ _ (λ x. tt)
      (λ x. backs-then (Keep ps) X bs (Tab.element at t) (to (Quote at)) (element-keeps at ps t w)
      (λ u v. (
        ps,
        v,
        λ k. rw (eqb-true b 34 y) (k [] bs refl
            (λ o q. eqb-false (get_or text (at + 1) 0) 34 x (sym (get_or-drop at text 1 0) ∙ ap (λ r. get_or r 1 0) d ∙ q))),
      ))))
      (λ y. backs-if X bs (eqb b 91) _ _
      (λ x. backs-then (Keep ps) X bs (Tab.element at t) _ (element-keeps at ps t w)
      (λ u v. backs-then (Keep (u.left ∷ ps)) X bs (opened at u) (to Want) (opened-keeps at ps u v)
      (λ o q. (u.left ∷ ps, q, λ k. option_is u.left ps (b ∷ bs) bs (head-is b 91 bs (eqb-true b 91 x)) k))))
      (λ x. tt)))

  -- behind an element
  behind-backs : (at b : ℕ) (bs : List ℕ) (ps : List ℕ) (t : Tables) → Keep ps t → Backs (Behind (Ends ps) (b ∷ bs)) bs (behind at b t)
  unfolding behind
  behind-backs at b bs ps t w =
      let X = Behind (Ends ps) (b ∷ bs) in
      backs-if X bs (breaks b) _ _ (λ z. broken-backs X b bs Spaced ps t z tt w (λ k. k (b ∷ bs) Many.none))
      (λ z. backs-if X bs (blank b) _ _ (λ y. (ps, w, λ k. k (b ∷ bs) (bs, inl (b, refl, y), Many.none)))
      (λ y. backs-if X bs (eqb b 47) _ _
      (λ x. (
        ps,
        record { base = w.base; chain = w.chain },
        λ k. next_row k.2.0 Many.none (head-is b 47 bs (eqb-true b 47 x)) k.1 k.2.2 k.2.3,
      ))
      (λ x. backs-if X bs (eqb b 93 && in_group t) _ _ (λ u. close ps w (and_first (eqb b 93) (in_group t) u) (and_second (eqb b 93) (in_group t) u))
      (λ u. tt))))
    where
      close : (ps : List ℕ) → Keep ps t → eqb b 93 ≡ true → in_group t ≡ true → Backs (Behind (Ends ps) (b ∷ bs)) bs (to After (closed t))
      close [] w e f = let y : false ≡ true = sym (in-rule t w) ∙ f in let z : ◌≡◌ {A = ℕ} 0 1 = cc in absurd (omega arith)
      close (p ∷ ps) w e f = (ps, (closed-keeps p ps t w).keep, λ k. done (b ∷ bs, bs, Many.none, head-is b 93 bs (eqb-true b 93 e), k))

  -- where "=" is wanted
  equals-backs : (at b : ℕ) (bs : List ℕ) (ps : List ℕ) (t : Tables) → Keep ps t → Backs (Left Equals ps (b ∷ bs)) bs (equals at b t)
  unfolding equals
  equals-backs at b bs ps t w =
      let X = Left Equals ps (b ∷ bs) in
      backs-if X bs (breaks b) _ _ (λ z. broken-backs X b bs Equals ps t z tt w (λ k. k))
      (λ z. backs-if X bs (blank b) _ _ (λ y. blank-backs b bs Equals ps t y tt w)
      (λ y. backs-if X bs (eqb b 61) _ _ (λ x. (ps, w, λ k. (b ∷ bs, bs, Many.none, head-is b 61 bs (eqb-true b 61 x), k))) (λ x. tt)))

  -- where an element is wanted
  wanted-backs : (at b : ℕ) (bs : List ℕ) (ps : List ℕ) (t : Tables) → drop at text ≡ b ∷ bs → Keep ps t → Backs (Wants ps (b ∷ bs)) bs (wanted text at b t)
  unfolding wanted
  wanted-backs at b bs ps t d w =
      let X = Wants ps (b ∷ bs) in
      backs-if X bs (breaks b) _ _ (λ z. broken-backs X b bs Want ps t z tt w (λ k. k))
      (λ z. backs-if X bs (blank b) _ _ (λ y. blank-backs b bs Want ps t y tt w)
      (λ y. backs-map (Elem ps (b ∷ bs)) X bs (begins text at b t) (λ k. (b ∷ bs, Many.none, k)) (begins-backs at b bs ps t d w)))

  -- behind an element and a blank
  spaced-backs : (at b : ℕ) (bs : List ℕ) (ps : List ℕ) (t : Tables) → drop at text ≡ b ∷ bs → Keep ps t
      → Backs (Left Spaced ps (b ∷ bs)) bs (spaced text at b t)
  unfolding spaced
  spaced-backs at b bs ps t d w =
      let X = Left Spaced ps (b ∷ bs) in
      backs-if X bs (letter b || (eqb b 34 || eqb b 91)) _ _
      (λ z. backs-map (Elem ps (b ∷ bs)) X bs (begins text at b t) (λ k. λ c s. next-part k.0 s k.2 k.3) (begins-backs at b bs ps t d w))
      (λ z. backs-map (Behind (Ends ps) (b ∷ bs)) X bs (behind at b t) (λ k. λ c s. behind-blank ps s k) (behind-backs at b bs ps t w))

  -- in a line without a rule
  empty-backs : (at b : ℕ) (bs : List ℕ) (ps : List ℕ) (t : Tables) → Based t → Backs (Left Blank ps (b ∷ bs)) bs (empty at b t)
  unfolding empty
  empty-backs at b bs ps t w =
      let X = Left Blank ps (b ∷ bs) in
      backs-if X bs (breaks b) _ _ (λ z. broken-backs X b bs Blank ps t z tt w (λ k. k))
      (λ z. backs-if X bs (blank b) _ _ (λ y. blank-backs b bs Blank ps t y tt w) (λ y. tt))

  -- a name that is defined, where that is not refused
  defined-backs : (X : Type 0) (bs : List ℕ) (from : ℕ) (t : Tables) (f : Tables → Run State) → Based t → ((u : Tables) → Keep [] u → Backs X bs (f u))
      → Backs X bs (defined text from t then f)
  unfolding defined ruled
  defined-backs X bs from t f w g =
      let k = position false text from t.names in
      noted-then k (noted k from t)
      (noted-gives (λ u. Based u × (k < 128)) k from t (λ h. (w, omega (arith, w.few)))
      (λ h q. (renamed-base from t q w, omega (arith, position-le false text from t.names))))
    where
      ruled-then : (k : ℕ) (u : Tables) → Based u → k < 128 → (a b : Bool)
          → Backs X bs (pick a (refused 18 from) (pick b (refused 20 from) (on (begun k u))) then f)
      ruled-then k u v h true b = tt
      ruled-then k u v h false true = tt
      ruled-then k u v h false false = g (begun k u) (rule-keeps k u h v)

      noted-then : (k : ℕ) (r : Run Tables) → Gives (λ u. Based u × (k < 128)) r → Backs X bs ((r then ruled k from) then f)
      noted-then k (on u) h = ruled-then k u h.0 h.1 (among k u.lefts) (leb 128 (length u.lefts))
      noted-then k (refused n p) h = tt

  -- in a name that is defined
  naming-backs : (at b : ℕ) (bs : List ℕ) (from : ℕ) (ps : List ℕ) (t : Tables) → Based t
      → Backs (Left (Naming from) ps (b ∷ bs)) bs (inside text at b (Naming from) t)
  unfolding inside
  naming-backs at b bs from ps t w =
      let X = Left (Naming from) ps (b ∷ bs) in
      backs-if X bs (name_byte b) _ _
      (λ z. backs-if X bs (leb (from + 64) at) _ _ (λ y. tt) (λ y. (ps, w, λ k. λ v c r. k (v ++ (b ∷ [])) c (name-snoc v b c bs r z))))
      (λ z. defined-backs X bs from t (equals at b) w
      (λ u v. backs-map (Left Equals [] (b ∷ bs)) X bs (equals at b u) (λ k. λ o c r. rule-is o c (b ∷ bs) k.0 k.1 r k.2 k.3 k.4)
      (equals-backs at b bs [] u v)))

  -- in a name that is used
  name-backs : (at b : ℕ) (bs : List ℕ) (from : ℕ) (ps : List ℕ) (t : Tables) → Keep ps t
      → Backs (Left (Name from) ps (b ∷ bs)) bs (inside text at b (Name from) t)
  unfolding inside
  name-backs at b bs from ps t w =
      let X = Left (Name from) ps (b ∷ bs) in
      backs-if X bs (name_byte b) _ _
      (λ z. backs-if X bs (leb (from + 64) at) _ _ (λ y. tt) (λ y. (ps, w, λ k. λ v c r. k (v ++ (b ∷ [])) c (name-snoc v b c bs r z))))
      (λ z. backs-then (Keep ps) X bs (used text from t) (behind at b) (used-keeps text from ps t w)
      (λ u v. backs-map (Behind (Ends ps) (b ∷ bs)) X bs (behind at b u) (λ k. λ o c r. (named o, b ∷ bs, r, k)) (behind-backs at b bs ps u v)))

  -- in a literal
  quote-backs : (at b : ℕ) (bs : List ℕ) (from : ℕ) (ps : List ℕ) (t : Tables) → Keep ps t
      → Backs (Left (Quote from) ps (b ∷ bs)) bs (inside text at b (Quote from) t)
  unfolding inside
  quote-backs at b bs from ps t w =
      let X = Left (Quote from) ps (b ∷ bs) in
      backs-if X bs (literal_byte b) _ _
      (λ z. backs-if X bs (leb (from + 65) at) _ _ (λ y. tt)
      (λ y. (ps, w, λ k. λ v c r h. k (v ++ (b ∷ [])) c (spelled-snoc literal_byte v b c bs r z) (λ o. absurd (omega (arith, length-append v (b ∷ [])))))))
      (λ z. backs-if X bs (eqb b 34) _ _
      (λ y. backs-then (Keep ps) X bs (literal text (from + 1) t) (to After) (literal-keeps text (from + 1) ps t w)
      (λ u v. (ps, v, λ k. λ o c r h. ends o c (eqb-true b 34 y) r h k)))
      (λ y. tt))
    where
      ends : (o c : List ℕ) → b ≡ 34 → spelled literal_byte o c (b ∷ bs) → (length o ≡ 0 → ¬ (b ≡ 34)) → Behind (Ends ps) bs → Elem ps (34 ∷ c)
      ends [] c e r h k = absurd (h refl e)
      ends (x ∷ o) c e r h k = (quoted (x ∷ o), bs, (c, refl, (b ∷ bs, r, head-is b 34 bs e)), k)

  -- in a line
  inside-backs : (at b : ℕ) (bs : List ℕ) (m : Mode) (ps : List ℕ) (t : Tables) → drop at text ≡ b ∷ bs → Fits m ps t
      → Backs (Left m ps (b ∷ bs)) bs (inside text at b m t)
  unfolding inside
  inside-backs at b bs Blank ps t d w = empty-backs at b bs ps t w
  inside-backs at b bs (Naming from) ps t d w = naming-backs at b bs from ps t w
  inside-backs at b bs Equals ps t d w = equals-backs at b bs ps t w
  inside-backs at b bs Want ps t d w = wanted-backs at b bs ps t d w
  inside-backs at b bs (Name from) ps t d w = name-backs at b bs from ps t w
  inside-backs at b bs (Quote from) ps t d w = quote-backs at b bs from ps t w
  inside-backs at b bs After ps t d w = behind-backs at b bs ps t w
  inside-backs at b bs Spaced ps t d w = spaced-backs at b bs ps t d w

  -- one byte, wherever it stands
  step-backs : (at b : ℕ) (bs : List ℕ) (l : Line) (m : Mode) (ps : List ℕ) (t : Tables) → drop at text ≡ b ∷ bs → FitsIn l m ps t
      → Backs (LeftIn l m ps (b ∷ bs)) bs (step text at b l m t)
  unfolding step fresh
  step-backs at b bs Inside m ps t d w = inside-backs at b bs m ps t d w
  step-backs at b bs Comment m ps t d w =
      let X = LeftIn Comment m ps (b ∷ bs) in
      backs-if X bs (comment_byte b) _ _ (λ z. (ps, w, λ k. λ c r. k c (r.0, r.1, many-snoc r.2 (b, refl, z))))
      (λ z. backs-if X bs (eqb b 13) _ _ (λ y. returns (eqb-true b 13 y)) (λ y. tt))
    where
      returns : b ≡ 13 → Backs (LeftIn Comment m ps (b ∷ bs)) bs (broken b m t)
      returns e = rw e (ps, w, λ k. λ c r. k c (inr r))
  step-backs at b bs Return m ps t d w =
      let X = LeftIn Return m ps (b ∷ bs) in
      backs-if X bs (eqb b 10) _ _ (λ z. (ps, w, λ k. λ c r. ended-left m ps c bs w.0 (line-end c (eqb-true b 10 z) r) k)) (λ z. tt)
    where
      line-end : (c : List ℕ) → b ≡ 10 → Opening c (13 ∷ b ∷ bs) → c-nl c bs
      line-end c e (inl q) = inr (b ∷ bs, q, head-is b 10 bs e)
      line-end c e (inr (x, q, r)) = inl (x, q, (13 ∷ b ∷ bs, r, (b ∷ bs, refl, head-is b 10 bs e)))
  step-backs at b bs Ended m ps t d w =
      let X = LeftIn Ended m ps (b ∷ bs) in
      backs-if X bs (blank b) _ _ (λ z. (ps, w.1, λ k. inl (bs, (b, refl, z), k)))
      (λ z. backs-if X bs (whole m t) _ _
      (λ y. let h : Whole m ps = fits_whole m ps t w.1 y in
      backs-if X bs (letter b) _ _ (λ x. (ps, fits-base m ps t w.1, λ k. inr (h, k (b ∷ []) (b ∷ bs) (bs, refl, x, refl))))
      (λ x. backs-if X bs (breaks b) _ _ (λ u. broken-backs X b bs Blank ps t u tt (fits-base m ps t w.1)
      (λ k. inr (h, (k.2.0, blanks k.1 k.2.1)))) (λ u. tt)))
      (λ y. tt))

  -- ---- the whole text

  -- at the end of the text nothing is left, and it is enough
  finished-left : (at : ℕ) (l : Line) (m : Mode) (ps : List ℕ) (t t' : Tables) → FitsIn l m ps t → finished at l m t ≡ on t' → LeftIn l m ps []
  unfolding finished
  finished-left at Inside m ps t t' w e = let z : ◌≡◌ {A = ℕ} 0 1 = cc in absurd (omega arith)
  finished-left at Comment m ps t t' w e = let z : ◌≡◌ {A = ℕ} 0 1 = cc in absurd (omega arith)
  finished-left at Return m ps t t' w e = let z : ◌≡◌ {A = ℕ} 0 1 = cc in absurd (omega arith)
  finished-left at Ended m ps t t' w e = by (whole m t) refl (leb 1 (length t.items)) e
    where
      by : (a : Bool) → whole m t ≡ a → (b : Bool) → pick (a && b) (on t) (refused 18 at) ≡ on t' → LeftIn Ended m ps []
      by true f b q = inr (fits_whole m ps t w.1 f, ([], end))
      by false f b q = let z : ◌≡◌ {A = ℕ} 0 1 = cc in absurd (omega arith)

  -- from the end back to each state
  scanned-left : (bs : List ℕ) (at : ℕ) (l : Line) (m : Mode) (ps : List ℕ) (t t' : Tables) → drop at text ≡ bs → FitsIn l m ps t
      → scanned text at bs (state l m t) ≡ on t' → LeftIn l m ps bs
  unfolding scanned
  scanned-left [] at l m ps t t' d w e = finished-left at l m ps t t' w e
  scanned-left (b ∷ bs) at l m ps t t' d w e =
      by (leb 32768 at) (step text at b l m t) (step-backs at b bs l m ps t d w) e
      (λ s qs f k. scanned-left bs (at + 1) s.line s.mode qs s.tables t' (drop-next at b bs text d) f k)
    where
      by : (c : Bool) (r : Run State) → Backs (LeftIn l m ps (b ∷ bs)) bs r → pick c (refused 20 at) (r then scanned text (at + 1) bs) ≡ on t'
          → ((s : State) (qs : List ℕ) → FitsIn s.line s.mode qs s.tables → scanned text (at + 1) bs s ≡ on t' → LeftIn s.line s.mode qs bs)
          → LeftIn l m ps (b ∷ bs)
      by true r v q k = let z : ◌≡◌ {A = ℕ} 0 1 = cc in absurd (omega arith)
      by false (on s) v q k = v.2 (k s v.0 v.1 q)
      by false (refused n p) v q k = let z : ◌≡◌ {A = ℕ} 0 1 = cc in absurd (omega arith)

  -- a text that is read to its end is one of lines
  pub text-lines : (t : Tables) → scanned text 0 text start ≡ on t → (ds : List Definition) × Lines ds text
  text-lines t e = by (scanned-left text 0 Ended Blank [] none t refl (tt, record { few = omega arith; fresh = tt }) e)
    where
      by : LeftIn Ended Blank [] text → (ds : List Definition) × Lines ds text
      by (inl (x, s, k)) = (k.2.0, blanks (k.1.0, more (inl s) k.1.1, k.1.2) k.2.1)
      by (inr (u, k)) = k
