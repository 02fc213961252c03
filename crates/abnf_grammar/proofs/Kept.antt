-- What each change of the tables keeps: the left sides in hand, one in another, and what the notes of the text's meaning say. Assumes nothing.
use Prim.Native.Nat.{ℕ, ◌+◌, ◌*◌, ◌%◌, ◌≤◌, ◌<◌}
use native.Mathlib.Omega.{arith}
use mathlib.Core.Path.{◌≡◌, refl, sym, ap, ◌∙◌}
use mathlib.Core.List.{List, [], ◌∷◌, ◌++◌, map, append_assoc, append-nil}
use mathlib.Core.Bool.{Bool, true, false, ◌||◌}
use lib.ListN.{length, get_or, length-append, length-map, get_or-append}
use lib.Seq.{get_or-append_seam}
use lib.Dec.{ltb, leb, eqb}
use borrow.Author.Tests.{leb-false, leb-true, ltb-true, ltb-false, le-leb, lt-leb, eq-eqb, ne_eqb}
use Rattle.cfg.specs.Reading.{pick}
use Rattle.abnf_tables.specs.Run.{Run, on, refused, ◌then◌}
use Rattle.abnf_tables.specs.Words.{word_at, position}
use Rattle.abnf_tables.specs.Tables.{Tables, tables, item, left_of, code_of, put, counted, produced, first_element, element, noted, used, begun, listed, literal, group_of, opened, holder, in_hand, closed, in_group}
use Rattle.abnf_grammar.proofs.Numbered.{Every, every-snoc, every_map, position-index, index-le}

-- ---- what a run gives, where no limit is passed

-- a value that has P, or 20
abbrev pub Gives : {A : Type 0} → (A → Type 0) → Run A → Type 0
Gives P (on a) = P a
Gives P (refused n p) = n ≡ 20

pub gives-if : {A : Type 0} (P : A → Type 0) (b : Bool) (x y : Run A) → (b ≡ true → Gives P x) → (b ≡ false → Gives P y) → Gives P (pick b x y)
gives-if P true x y f g = f refl
gives-if P false x y f g = g refl

pub gives_then : {A B : Type 0} (P : A → Type 0) (Q : B → Type 0) (r : Run A) (f : A → Run B) → Gives P r → ((a : A) → P a → Gives Q (f a))
    → Gives Q (r then f)
gives_then P Q (on a) f h k = k a h
gives_then P Q (refused n p) f h k = h

-- the first test of an "or" that fails, fails
or-first : (a b : Bool) → (a || b) ≡ false → a ≡ false
or-first true b e = e
or-first false b e = refl

-- ---- items

-- the code of a group that is still to come is none of the items'
abbrev pub Fresh : ℕ → ℕ → Type 0
Fresh g i = code_of i % 2 ≡ 0 → code_of i < 256 + 2 * g

-- p is the left side in whose right side a code stands, whatever items come behind
abbrev pub Stands : ℕ → ℕ → List ℕ → Type 0
Stands code p is = (js : List ℕ) → holder code (is ++ js) ≡ p

-- more items behind change nothing
stands-more : (code p : ℕ) (is xs : List ℕ) → Stands code p is → Stands code p (is ++ xs)
stands-more code p is xs h js = ap (holder code) (append_assoc is xs js) ∙ h (xs ++ js)

-- the first item with a fresh code is the one put now
holder-fresh : (g l : ℕ) (is js : List ℕ) → g ≤ 128 → Every (Fresh g) is → holder (2 * (128 + g)) (is ++ item l (2 * (128 + g)) ∷ js) ≡ l
unfolding holder
holder-fresh g l [] js h k =
    let e : code_of (item l (2 * (128 + g))) ≡ 2 * (128 + g) = omega arith in
    let f : left_of (item l (2 * (128 + g))) ≡ l = omega arith in
    rw (eq-eqb (code_of (item l (2 * (128 + g)))) (2 * (128 + g)) e) f
holder-fresh g l (i ∷ is) js h k =
    let n : eqb (code_of i) (2 * (128 + g)) ≡ false = ne_eqb (code_of i) (2 * (128 + g)) (λ q. let z = k.0 (omega arith) in omega arith) in
    rw n (holder-fresh g l is js h k.1)

stands-put : (g l : ℕ) (is : List ℕ) → g ≤ 128 → Every (Fresh g) is → Stands (2 * (128 + g)) l (is ++ (item l (2 * (128 + g)) ∷ []))
stands-put g l is h k js = ap (holder (2 * (128 + g))) (append_assoc is (item l (2 * (128 + g)) ∷ []) js) ∙ holder-fresh g l is js h k

-- the symbols in hand of left side l, after one item more
abbrev held : ℕ → ℕ → ℕ → ℕ
held l i n = pick (eqb (left_of i) l) (pick (eqb (code_of i) 1) 0 (n + 1)) n

-- one item more, of this left side, of another, and a symbol
hand-snoc : (l n : ℕ) (is : List ℕ) (v : ℕ) → in_hand l n (is ++ (v ∷ [])) ≡ held l v (in_hand l n is)
unfolding in_hand
hand-snoc l n [] v = refl
hand-snoc l n (i ∷ is) v = hand-snoc l (held l i n) is v

hand-other : (l : ℕ) (is : List ℕ) (v : ℕ) → l < left_of v → in_hand l 0 (is ++ (v ∷ [])) ≡ in_hand l 0 is
hand-other l is v h = hand-snoc l 0 is v ∙ rw (ne_eqb (left_of v) l (λ q. omega arith))

hand-some : (l c : ℕ) (is : List ℕ) → c < 65536 → 2 ≤ c → 1 ≤ in_hand l 0 (is ++ (item l c ∷ []))
hand-some l c is h k =
    let e : left_of (item l c) ≡ l = omega arith in
    let f : code_of (item l c) ≡ c = omega arith in
    let s : held l (item l c) (in_hand l 0 is) ≡ in_hand l 0 is + 1 = rw (eq-eqb (left_of (item l c)) l e, ne_eqb (code_of (item l c)) 1 (λ q. omega arith)) in
    omega (arith, hand-snoc l 0 is (item l c))

-- ---- left sides in hand: l stands in the first of ps, that in the next, and so on; only the last is a rule

-- p is where l stands: l is a group whose symbol stands in p, with some symbols of p in hand, and p began before l
abbrev pub Chain : List ℕ → List ℕ → List ℕ → ℕ → Type 0
Chain [] fs is l = (l < length fs) × (get_or fs l 0 < 128)
Chain (p ∷ ps) fs is l = (l < length fs) × (128 ≤ get_or fs l 0) × Stands (2 * get_or fs l 0) p is × (1 ≤ in_hand p 0 is) × (p < l) × Chain ps fs is p

pub chain-below : (ps fs is : List ℕ) (l : ℕ) → Chain ps fs is l → l < length fs
chain-below [] fs is l w = w.0
chain-below (p ∷ ps) fs is l w = w.0

-- an item more of the left side in hand, and a left side more, keep the chain
chain-item : (ps fs is : List ℕ) (l v : ℕ) → l ≤ left_of v → Chain ps fs is l → Chain ps fs (is ++ (v ∷ [])) l
chain-item [] fs is l v h w = w
chain-item (p ∷ ps) fs is l v h w =
    let m : p < l = w.4 in (
      w.0,
      w.1,
      stands-more (2 * get_or fs l 0) p is (v ∷ []) w.2,
      omega (arith, w.3, hand-other p is v (omega arith)),
      w.4,
      chain-item ps fs is p v (omega arith) w.5,
    )

chain_left : (ps fs is : List ℕ) (l x : ℕ) → Chain ps fs is l → Chain ps (fs ++ (x ∷ [])) is l
chain_left [] fs is l x w = (omega (arith, w.0, length-append fs (x ∷ [])), rw (get_or-append fs (x ∷ []) 0 l w.0) w.1)
chain_left (p ∷ ps) fs is l x w =
    let e : get_or (fs ++ (x ∷ [])) l 0 ≡ get_or fs l 0 = get_or-append fs (x ∷ []) 0 l w.0 in
    (omega (arith, w.0, length-append fs (x ∷ [])), rw e w.1, rw e w.2, w.3, w.4, chain_left ps fs is p x w.5)

-- a group begins: one left side more in hand
chain-group : (ps fs is : List ℕ) (l g : ℕ) → g ≤ 128 → Every (Fresh g) is → Chain ps fs is l
    → Chain (l ∷ ps) (fs ++ ((128 + g) ∷ [])) (is ++ (item l (2 * (128 + g)) ∷ [])) (length fs)
chain-group ps fs is l g h k w =
    let e : get_or (fs ++ ((128 + g) ∷ [])) (length fs) 0 ≡ 128 + g = get_or-append_seam fs (128 + g) [] 0 in (
      omega (arith, length-append fs ((128 + g) ∷ [])),
      omega (arith, e),
      rw e (stands-put g l is h k),
      hand-some l (2 * (128 + g)) is (omega arith) (omega arith),
      chain-below ps fs is l w,
      chain-item ps (fs ++ ((128 + g) ∷ [])) is l (item l (2 * (128 + g))) (omega arith) (chain_left ps fs is l (128 + g) w),
    )

-- ---- what the tables keep

pub record Base (n g : ℕ) (is : List ℕ) : Type 0 where
  pub few : n + g ≤ 128
  pub fresh : Every (Fresh g) is

abbrev pub Based : Tables → Type 0
Based t = Base (length t.names) t.groups t.items

-- in the left sides ps, one in another
pub record Keep (ps : List ℕ) (t : Tables) : Type 0 where
  pub base : Base (length t.names) t.groups t.items
  pub chain : Chain ps t.lefts t.items t.left

-- an item more, and more names or groups, keep the base
base-item : (n g : ℕ) (is : List ℕ) (v : ℕ) → Fresh g v → Base n g is → Base n g (is ++ (v ∷ []))
base-item n g is v h w = record { few = w.few; fresh = every-snoc (Fresh g) is v w.fresh h }

base_more : (n g n' g' : ℕ) (is : List ℕ) → g ≤ g' → n' + g' ≤ 128 → Base n g is → Base n' g' is
base_more n g n' g' is h k w = record { few = k; fresh = every_map (Fresh g) (Fresh g') (λ i f e. let z = f e in omega arith) is w.fresh }

-- an item of the left side in hand keeps all
pub put_keeps : (c : ℕ) (ps : List ℕ) (t : Tables) → Fresh t.groups (item t.left c) → Keep ps t → Keep ps (put c t)
put_keeps c ps t h w = record {
  base = base-item (length t.names) t.groups t.items (item t.left c) h w.base;
  chain = chain-item ps t.lefts t.items t.left (item t.left c) (omega arith) w.chain;
}

-- ---- each change, by the cases of its tests

-- an element begins, as the first of its alternative or not
pub element-gives : (Q : Tables → Type 0) (at : ℕ) (t : Tables) → (1 ≤ t.size → Q (counted t)) → (t.size ≡ 0 → Q (counted (produced (put 1 t))))
    → Gives Q (element at t)
unfolding element first_element
element-gives Q at t f g =
    gives-if Q (leb 64 t.size || leb 4096 t.symbols) _ _ (λ z. refl)
    (λ z. gives-if Q (leb 1 t.size) _ _ (λ y. f (leb-true 1 t.size y))
    (λ y. gives-if Q (leb 512 t.productions) _ _ (λ x. refl) (λ x. let h = leb-false 1 t.size y in g (omega arith))))

abbrev pub renamed : ℕ → Tables → Tables
renamed from t = tables (t.names ++ (from ∷ [])) t.literals t.lefts t.items t.groups t.productions t.symbols t.left t.size

-- a name is there, or is put behind the others
pub noted-gives : (Q : Tables → Type 0) (k from : ℕ) (t : Tables) → (k < length t.names → Q t)
    → (length t.names ≤ k → length t.names + t.groups < 128 → Q (renamed from t)) → Gives Q (noted k from t)
unfolding noted
noted-gives Q k from t f g =
    gives-if Q (ltb k (length t.names)) _ _ (λ z. f (ltb-true k (length t.names) z))
    (λ z. gives-if Q (leb 128 (length t.names + t.groups)) _ _ (λ y. refl)
    (λ y. g (ltb-false k (length t.names) z) (leb-false 128 (length t.names + t.groups) y)))

abbrev pub relisted : ℕ → Tables → Tables
relisted from t = tables t.names (t.literals ++ (from ∷ [])) t.lefts t.items t.groups t.productions t.symbols t.left t.size

-- a literal is there, or is put behind the others
pub listed-gives : (Q : Tables → Type 0) (x from : ℕ) (t : Tables) → (x < length t.literals → Q t) → (length t.literals ≤ x → Q (relisted from t))
    → Gives Q (listed x from t)
unfolding listed
listed-gives Q x from t f g =
    gives-if Q (ltb x (length t.literals)) _ _ (λ z. f (ltb-true x (length t.literals) z))
    (λ z. gives-if Q (leb 4089 (length t.literals)) _ _ (λ y. refl) (λ y. g (ltb-false x (length t.literals) z)))

-- a group begins
pub opened-gives : (Q : Tables → Type 0) (at : ℕ) (t : Tables) → (length t.names + t.groups < 128 → Q (group_of t)) → Gives Q (opened at t)
unfolding opened
opened-gives Q at t f =
    gives-if Q (leb 128 (length t.names + t.groups) || (leb 128 (length t.lefts) || leb 512 t.productions)) _ _ (λ z. refl)
    (λ z. f (leb-false 128 (length t.names + t.groups) (or-first _ _ z)))

-- ---- each keeps the left sides in hand

-- an element begins
pub element-keeps : (at : ℕ) (ps : List ℕ) (t : Tables) → Keep ps t → Gives (Keep ps) (element at t)
element-keeps at ps t w =
    element-gives (Keep ps) at t (λ y. record { base = w.base; chain = w.chain })
    (λ y. let v : Keep ps (put 1 t) = put_keeps 1 ps t (λ e. omega arith) w in record { base = v.base; chain = v.chain })

pub renamed-base : (from : ℕ) (t : Tables) → length t.names + t.groups < 128 → Based t → Based (renamed from t)
renamed-base from t h w =
    let e : length (t.names ++ (from ∷ [])) ≡ length t.names + 1 = length-append t.names (from ∷ []) in
    base_more (length t.names) t.groups (length (t.names ++ (from ∷ []))) t.groups t.items (omega arith) (omega arith) w

-- a word has a number of its list, or its length
pub position-le : (q : Bool) (text : List ℕ) (from : ℕ) (gs : List ℕ) → position q text from gs ≤ length gs
position-le q text from gs =
    rw (position-index q text from gs) (omega (arith, index-le (word_at q text from) (map (word_at q text) gs), length-map gs (word_at q text)))

-- a name's code is no group's
name-fresh : (g l k : ℕ) → k < 128 → Fresh g (item l (2 * k))
name-fresh g l k h e = let s : code_of (item l (2 * k)) ≡ 2 * k = omega arith in omega arith

abbrev Small : ℕ → List ℕ → Tables → Type 0
Small k ps u = Keep ps u × (k < 128)

-- a name, a literal, a group
pub used-keeps : (text : List ℕ) (from : ℕ) (ps : List ℕ) (t : Tables) → Keep ps t → Gives (Keep ps) (used text from t)
unfolding used
used-keeps text from ps t w =
    let k = position false text from t.names in
    gives_then (Small k ps) (Keep ps) (noted k from t) _
    (noted-gives (Small k ps) k from t (λ h. (w, omega (arith, w.base.few)))
    (λ h m. (record { base = renamed-base from t m w.base; chain = w.chain }, omega (arith, position-le false text from t.names))))
    (λ u v. put_keeps (2 * k) ps u (name-fresh u.groups u.left k v.1) v.0)

pub literal-keeps : (text : List ℕ) (from : ℕ) (ps : List ℕ) (t : Tables) → Keep ps t → Gives (Keep ps) (literal text from t)
unfolding literal
literal-keeps text from ps t w =
    let x = position true text from t.literals in
    gives_then (Keep ps) (Keep ps) (listed x from t) _
    (listed-gives (Keep ps) x from t (λ h. w) (λ h. record { base = w.base; chain = w.chain }))
    (λ u v. put_keeps (2 * (x + 5) + 1) ps u (λ e. omega arith) v)

pub group-keeps : (ps : List ℕ) (t : Tables) → length t.names + t.groups < 128 → Keep ps t → Keep (t.left ∷ ps) (group_of t)
group-keeps ps t h w = record {
  base = base-item (length t.names) (t.groups + 1) t.items (item t.left (2 * (128 + t.groups))) (λ e. omega arith)
      (base_more (length t.names) t.groups (length t.names) (t.groups + 1) t.items (omega arith) (omega arith) w.base);
  chain = chain-group ps t.lefts t.items t.left t.groups (omega arith) w.base.fresh w.chain;
}

pub opened-keeps : (at : ℕ) (ps : List ℕ) (t : Tables) → Keep ps t → Gives (Keep (t.left ∷ ps)) (opened at t)
opened-keeps at ps t w = opened-gives (Keep (t.left ∷ ps)) at t (λ h. group-keeps ps t h w)

-- "]": back to the left side in which the group stands, of whose alternative some symbols are in hand
pub record Back (p : ℕ) (ps : List ℕ) (t : Tables) : Type 0 where
  pub keep : Keep ps t
  pub left : t.left ≡ p
  pub size : 1 ≤ t.size

pub closed-keeps : (p : ℕ) (ps : List ℕ) (t : Tables) → Keep (p ∷ ps) t → Back p ps (closed t)
unfolding closed
closed-keeps p ps t w =
    let e : holder (2 * get_or t.lefts t.left 0) t.items ≡ p =
    ap (holder (2 * get_or t.lefts t.left 0)) (sym (append-nil t.items)) ∙ w.chain.2 [] in
    record {
      keep = record { base = w.base; chain = rw e w.chain.5 };
      left = e;
      size = rw e w.chain.3;
    }

-- the left side in hand is a group just where it stands in another
pub in-rule : (t : Tables) → Keep [] t → in_group t ≡ false
in-rule t w = lt-leb 128 (get_or t.lefts t.left 0) w.chain.1

pub in_group_lem : (p : ℕ) (ps : List ℕ) (t : Tables) → Keep (p ∷ ps) t → in_group t ≡ true
in_group_lem p ps t w = le-leb 128 (get_or t.lefts t.left 0) w.chain.1

-- a rule begins: no left side stands in another
pub rule-keeps : (k : ℕ) (t : Tables) → k < 128 → Based t → Keep [] (begun k t)
rule-keeps k t h w = record {
  base = w;
  chain = (omega (arith, length-append t.lefts (k ∷ [])), rw (get_or-append_seam t.lefts k [] 0) h);
}
