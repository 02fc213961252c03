-- What the tables tell of a text's meaning, and how each change of them follows the notes of that meaning. Assumes nothing.
use Prim.Native.Nat.{ℕ, ◌+◌, ◌*◌, ◌≤◌, ◌<◌}
use native.Mathlib.Omega.{arith}
use mathlib.Core.Path.{◌≡◌, refl, sym, ap, ◌∙◌, subst}
use mathlib.Core.List.{List, [], ◌∷◌, ◌++◌, map, map-append}
use mathlib.Core.Bool.{Bool, true, false}
use lib.ListN.{length, length-append, length-map}
use lib.Dec.{ltb, leb}
use borrow.Author.Tests.{lt-ltb, le-ltb}
use Rattle.cfg.specs.Reading.{pick}
use Rattle.abnf_tables.specs.Run.{Run, on, refused, ◌then◌}
use Rattle.abnf_tables.specs.Words.{word_at, position}
use Rattle.abnf_tables.specs.Tables.{Tables, item, element, noted, used, among, begun, ruled, defined, listed, literal, group_of, opened, closed, parted}
use Rattle.abnf_grammar.specs.Subset.{NoneOf}
use Rattle.abnf_grammar.specs.Meaning.{index, with}
use Rattle.abnf_grammar.proofs.Notes.{Notes, note_item, note_name, note_literal, note_left, note_group}
use Rattle.abnf_grammar.proofs.Numbered.{Every, every-snoc, every_map, position-index, index-le, with-index, with-known, with-keeps, of_names, names-snoc, among-names, among_none, among-some}
use Rattle.abnf_grammar.proofs.Kept.{Gives, gives_then, Base, Keep, element-gives, noted-gives, listed-gives, opened-gives, element-keeps, used-keeps, literal-keeps, group-keeps, Back, closed-keeps, rule-keeps, renamed-base}

-- two facts at once, and what follows from one
pub gives_both : {A : Type 0} (P Q : A → Type 0) (r : Run A) → Gives P r → Gives Q r → Gives (λ a. P a × Q a) r
gives_both P Q (on a) h k = (h, k)
gives_both P Q (refused n p) h k = h

pub gives-map : {A : Type 0} (P Q : A → Type 0) (r : Run A) → ((a : A) → P a → Q a) → Gives P r → Gives Q r
gives-map P Q (on a) f h = f a h
gives-map P Q (refused n p) f h = h

-- a word that is there, and one that is new
with-old : (w : List ℕ) (ws : List (List ℕ)) → index w ws < length ws → ws ≡ with w ws
unfolding with
with-old w ws h = rw (lt-ltb (index w ws) (length ws) h)

with-new : (w : List ℕ) (ws : List (List ℕ)) → length ws ≤ index w ws → ws ++ (w ∷ []) ≡ with w ws
unfolding with
with-new w ws h = rw (le-ltb (index w ws) (length ws) h)

-- what is known keeps its number
numbers_keep : (w : List ℕ) (names ws : List (List ℕ)) → Every (λ v. index v names < length names) ws
    → map (λ v. index v names) ws ≡ map (λ v. index v (with w names)) ws
numbers_keep w names [] h = refl
numbers_keep w names (v ∷ vs) h = rw ((with-keeps v w names h.0).0, numbers_keep w names vs h.1)

module _ (text : List ℕ) where
  -- the tables are those of the notes, and the names that have rules are the words ws
  pub record Says (ws : List (List ℕ)) (n : Notes) (ns ls fs is : List ℕ) (g : ℕ) : Type 0 where
    pub names : map (word_at false text) ns ≡ n.names
    pub literals : map (word_at true text) ls ≡ n.literals
    pub lefts : fs ≡ n.lefts
    pub items : is ≡ n.items
    pub groups : g ≡ n.groups
    pub ruled : of_names fs ≡ map (λ w. index w n.names) ws
    pub known : Every (λ w. index w n.names < length n.names) ws

  -- one item, one name, one literal more
  says-item : (ws : List (List ℕ)) (n : Notes) (ns ls fs is : List ℕ) (g l m c d : ℕ) → l ≡ m → c ≡ d → Says ws n ns ls fs is g
      → Says ws (note_item m d n) ns ls fs (is ++ (item l c ∷ [])) g
  says-item ws n ns ls fs is g l m c d e f w =
      record {
        names = w.names;
        literals = w.literals;
        lefts = w.lefts;
        items = rw (w.items, e, f);
        groups = w.groups;
        ruled = w.ruled;
        known = w.known;
      }

  says-name : (v : List ℕ) (ws : List (List ℕ)) (n : Notes) (ns ms ls fs is : List ℕ) (g : ℕ) → map (word_at false text) ms ≡ with v n.names
      → Says ws n ns ls fs is g → Says ws (note_name v n) ms ls fs is g
  says-name v ws n ns ms ls fs is g e w = record {
    names = e;
    literals = w.literals;
    lefts = w.lefts;
    items = w.items;
    groups = w.groups;
    ruled = w.ruled ∙ numbers_keep v n.names ws w.known;
    known = every_map (λ u. index u n.names < length n.names) (λ u. index u (with v n.names) < length (with v n.names))
        (λ u h. (with-keeps u v n.names h).1) ws w.known;
  }

  says-literal : (v : List ℕ) (ws : List (List ℕ)) (n : Notes) (ns ls ms fs is : List ℕ) (g : ℕ) → map (word_at true text) ms ≡ with v n.literals
      → Says ws n ns ls fs is g → Says ws (note_literal v n) ns ms fs is g
  says-literal v ws n ns ls ms fs is g e w =
      record { names = w.names; literals = e; lefts = w.lefts; items = w.items; groups = w.groups; ruled = w.ruled; known = w.known }

  -- the words at some places, with the one at `from`
  words-old : (q : Bool) (from : ℕ) (v : List ℕ) (ns : List ℕ) (vs : List (List ℕ)) → word_at q text from ≡ v → map (word_at q text) ns ≡ vs
      → position q text from ns ≡ index v vs
  words-old q from v ns vs e f = position-index q text from ns ∙ rw (e, f)

  -- a word that is there changes nothing; a new one is put behind
  word-there : (q : Bool) (from : ℕ) (v : List ℕ) (ns : List ℕ) (vs : List (List ℕ)) → word_at q text from ≡ v → map (word_at q text) ns ≡ vs
      → position q text from ns < length ns → map (word_at q text) ns ≡ with v vs
  word-there q from v ns vs e f h =
      let k : position q text from ns ≡ index v vs = words-old q from v ns vs e f in
      let m : length vs ≡ length ns = ap length (sym f) ∙ length-map ns (word_at q text) in
      f ∙ with-old v vs (omega arith)

  word-put : (q : Bool) (from : ℕ) (v : List ℕ) (ns : List ℕ) (vs : List (List ℕ)) → word_at q text from ≡ v → map (word_at q text) ns ≡ vs
      → length ns ≤ position q text from ns → map (word_at q text) (ns ++ (from ∷ [])) ≡ with v vs
  word-put q from v ns vs e f h =
      let k : position q text from ns ≡ index v vs = words-old q from v ns vs e f in
      let m : length vs ≡ length ns = ap length (sym f) ∙ length-map ns (word_at q text) in
      map-append (word_at q text) ns (from ∷ []) ∙ rw (e, f) (with-new v vs (omega arith))

  -- ---- in an alternative of left side l, behind some symbol, and before its first

  pub record In (ps : List ℕ) (l : ℕ) (ws : List (List ℕ)) (n : Notes) (t : Tables) : Type 0 where
    pub keep : Keep ps t
    pub told : Says ws n t.names t.literals t.lefts t.items t.groups
    pub left : t.left ≡ l
    pub size : 1 ≤ t.size
    pub items : 1 ≤ length t.items

  pub record Start (ps : List ℕ) (l : ℕ) (ws : List (List ℕ)) (n : Notes) (t : Tables) : Type 0 where
    pub keep : Keep ps t
    pub told : Says ws n t.names t.literals t.lefts t.items t.groups
    pub left : t.left ≡ l
    pub size : t.size ≡ 0

  -- the same but for what is kept
  record Tells (l : ℕ) (ws : List (List ℕ)) (n : Notes) (t : Tables) : Type 0 where
    told : Says ws n t.names t.literals t.lefts t.items t.groups
    left : t.left ≡ l
    size : 1 ≤ t.size
    items : 1 ≤ length t.items

  kept_in : (ps : List ℕ) (l : ℕ) (ws : List (List ℕ)) (n : Notes) (t : Tables) → Keep ps t × Tells l ws n t → In ps l ws n t
  kept_in ps l ws n t w = record { keep = w.0; told = w.1.told; left = w.1.left; size = w.1.size; items = w.1.items }

  -- a list with one more is not empty
  some-items : (is : List ℕ) (v : ℕ) → 1 ≤ length (is ++ (v ∷ []))
  some-items is v = omega (arith, length-append is (v ∷ []))

  -- an element begins, the first and another
  pub first-element : (at : ℕ) (ps : List ℕ) (l : ℕ) (ws : List (List ℕ)) (n : Notes) (t : Tables) → Start ps l ws n t
      → Gives (In ps l ws (note_item l 1 n)) (element at t)
  first-element at ps l ws n t w =
      gives-map (λ u. Keep ps u × Tells l ws (note_item l 1 n) u) (In ps l ws (note_item l 1 n)) (element at t) (kept_in ps l ws (note_item l 1 n))
      (gives_both (Keep ps) (Tells l ws (note_item l 1 n)) (element at t) (element-keeps at ps t w.keep)
      (element-gives (Tells l ws (note_item l 1 n)) at t (λ h. absurd (omega (arith, w.size)))
      (λ h. record {
        told = says-item ws n t.names t.literals t.lefts t.items t.groups t.left l 1 1 w.left refl w.told;
        left = w.left;
        size = omega arith;
        items = some-items t.items (item t.left 1);
      })))

  pub next-element : (at : ℕ) (ps : List ℕ) (l : ℕ) (ws : List (List ℕ)) (n : Notes) (t : Tables) → In ps l ws n t → Gives (In ps l ws n) (element at t)
  next-element at ps l ws n t w =
      gives-map (λ u. Keep ps u × Tells l ws n u) (In ps l ws n) (element at t) (kept_in ps l ws n)
      (gives_both (Keep ps) (Tells l ws n) (element at t) (element-keeps at ps t w.keep)
      (element-gives (Tells l ws n) at t (λ h. record { told = w.told; left = w.left; size = omega arith; items = w.items })
      (λ h. absurd (omega (arith, w.size)))))

  -- a name
  pub name-told : (from : ℕ) (v : List ℕ) (ps : List ℕ) (l : ℕ) (ws : List (List ℕ)) (n : Notes) (t : Tables) → word_at false text from ≡ v → In ps l ws n t
      → Gives (In ps l ws (note_item l (2 * index v n.names) (note_name v n))) (used text from t)
  unfolding used
  name-told from v ps l ws n t e w =
      let m = note_item l (2 * index v n.names) (note_name v n) in
      let k = position false text from t.names in
      let i : 2 * k ≡ 2 * index v n.names = ap (λ x. 2 * x) (words-old false from v t.names n.names e w.told.names) in
      gives-map (λ u. Keep ps u × Tells l ws m u) (In ps l ws m) (used text from t) (kept_in ps l ws m)
      (gives_both (Keep ps) (Tells l ws m) (used text from t) (used-keeps text from ps t w.keep)
      (gives_then (Tells l ws (note_name v n)) (Tells l ws m) (noted k from t) _
      (noted-gives (Tells l ws (note_name v n)) k from t
      (λ h. record {
        told = says-name v ws n t.names t.names t.literals t.lefts t.items t.groups
            (word-there false from v t.names n.names e w.told.names h) w.told;
        left = w.left;
        size = w.size;
        items = w.items;
      })
      (λ h q. record {
        told = says-name v ws n t.names (t.names ++ (from ∷ [])) t.literals t.lefts t.items t.groups
            (word-put false from v t.names n.names e w.told.names h) w.told;
        left = w.left;
        size = w.size;
        items = w.items;
      }))
      (λ u x. record {
        told = says-item ws (note_name v n) u.names u.literals u.lefts u.items u.groups u.left l (2 * k)
            (2 * index v n.names) x.left i x.told;
        left = x.left;
        size = x.size;
        items = some-items u.items (item u.left (2 * k));
      })))

  -- a literal
  pub literal-told : (from : ℕ) (v : List ℕ) (ps : List ℕ) (l : ℕ) (ws : List (List ℕ)) (n : Notes) (t : Tables) → word_at true text from ≡ v → In ps l ws n t
      → Gives (In ps l ws (note_item l (2 * (index v n.literals + 5) + 1) (note_literal v n))) (literal text from t)
  unfolding literal
  literal-told from v ps l ws n t e w =
      let m = note_item l (2 * (index v n.literals + 5) + 1) (note_literal v n) in
      let k = position true text from t.literals in
      let i : 2 * (k + 5) + 1 ≡ 2 * (index v n.literals + 5) + 1 =
      ap (λ x. 2 * (x + 5) + 1) (words-old true from v t.literals n.literals e w.told.literals) in
      gives-map (λ u. Keep ps u × Tells l ws m u) (In ps l ws m) (literal text from t) (kept_in ps l ws m)
      (gives_both (Keep ps) (Tells l ws m) (literal text from t) (literal-keeps text from ps t w.keep)
      (gives_then (Tells l ws (note_literal v n)) (Tells l ws m) (listed k from t) _
      (listed-gives (Tells l ws (note_literal v n)) k from t
      (λ h. record {
        told = says-literal v ws n t.names t.literals t.literals t.lefts t.items t.groups
            (word-there true from v t.literals n.literals e w.told.literals h) w.told;
        left = w.left;
        size = w.size;
        items = w.items;
      })
      (λ h. record {
        told = says-literal v ws n t.names t.literals (t.literals ++ (from ∷ [])) t.lefts t.items t.groups
            (word-put true from v t.literals n.literals e w.told.literals h) w.told;
        left = w.left;
        size = w.size;
        items = w.items;
      }))
      (λ u x. record {
        told = says-item ws (note_literal v n) u.names u.literals u.lefts u.items u.groups u.left l (2 * (k + 5) + 1)
            (2 * (index v n.literals + 5) + 1) x.left i x.told;
        left = x.left;
        size = x.size;
        items = some-items u.items (item u.left (2 * (k + 5) + 1));
      })))

  -- "["
  pub group-told : (at : ℕ) (ps : List ℕ) (l : ℕ) (ws : List (List ℕ)) (n : Notes) (t : Tables) → In ps l ws n t
      → Gives (Start (l ∷ ps) (length n.lefts) ws (note_group (note_item l (2 * (128 + n.groups)) n))) (opened at t)
  group-told at ps l ws n t w =
      opened-gives (Start (l ∷ ps) (length n.lefts) ws (note_group (note_item l (2 * (128 + n.groups)) n))) at t
      (λ h.
      let a = w.told in
      let g : 128 + t.groups ≡ 128 + n.groups = ap (λ x. 128 + x) a.groups in
      let high : ltb (128 + t.groups) 128 ≡ false = le-ltb (128 + t.groups) 128 (omega arith) in
      record {
        keep = subst (λ x. Keep (x ∷ ps) (group_of t)) w.left (group-keeps ps t h w.keep);
        told = record {
          names = a.names;
          literals = a.literals;
          lefts = rw (a.lefts, a.groups);
          items = rw (a.items, w.left, a.groups);
          groups = rw a.groups;
          ruled = names-snoc t.lefts (128 + t.groups) ∙ rw high (append-none (of_names t.lefts) ∙ a.ruled);
          known = a.known;
        };
        left = ap length a.lefts;
        size = refl;
      })
    where
      append-none : (xs : List ℕ) → xs ++ [] ≡ xs
      append-none [] = refl
      append-none (x ∷ xs) = ap {B = List ℕ} (λ r. x ∷ r) (append-none xs)

  -- "]"
  pub closed-told : (p : ℕ) (ps : List ℕ) (l : ℕ) (ws : List (List ℕ)) (n : Notes) (t : Tables) → In (p ∷ ps) l ws n t → In ps p ws n (closed t)
  unfolding closed
  closed-told p ps l ws n t w =
      let b : Back p ps (closed t) = closed-keeps p ps t w.keep in
      record { keep = b.keep; told = w.told; left = b.left; size = b.size; items = w.items }

  -- "/"
  pub parted-told : (ps : List ℕ) (l : ℕ) (ws : List (List ℕ)) (n : Notes) (t : Tables) → In ps l ws n t → Start ps l ws n (parted t)
  parted-told ps l ws n t w = record { keep = record { base = w.keep.base; chain = w.keep.chain }; told = w.told; left = w.left; size = refl }

  -- ---- between rules

  -- the words ws have rules, in the tables as in the notes
  pub record Between (ws : List (List ℕ)) (n : Notes) (t : Tables) : Type 0 where
    pub base : Base (length t.names) t.groups t.items
    pub told : Says ws n t.names t.literals t.lefts t.items t.groups
    pub some : 1 ≤ length ws → 1 ≤ length t.items
    pub fewer : 1 ≤ length t.items → 1 ≤ length ws

  -- a name is defined: a limit is passed, it was defined before, or its rule begins
  pub data Defines (v : List ℕ) (ws : List (List ℕ)) (n : Notes) (r : Run Tables) : Type 0 where
    limit : (p : ℕ) → r ≡ refused 20 p → Defines v ws n r
    again : (p : ℕ) → r ≡ refused 18 p → ¬ NoneOf v ws → Defines v ws n r
    new : (u : Tables) → r ≡ on u → NoneOf v ws → Start [] (length n.lefts) (ws ++ (v ∷ [])) (note_left (index v n.names) (note_name v n)) u
        → Defines v ws n r

  record Named (k : ℕ) (v : List ℕ) (ws : List (List ℕ)) (n : Notes) (t : Tables) : Type 0 where
    base : Base (length t.names) t.groups t.items
    told : Says ws (note_name v n) t.names t.literals t.lefts t.items t.groups
    small : k < 128

  -- a rule begins: its name is one more that has a rule
  says-rule : (v : List ℕ) (ws : List (List ℕ)) (n : Notes) (ns ls fs is : List ℕ) (g k : ℕ) → k ≡ index v n.names → k < 128
      → Says ws (note_name v n) ns ls fs is g
      → Says (ws ++ (v ∷ [])) (note_left (index v n.names) (note_name v n)) ns ls (fs ++ (k ∷ [])) is g
  says-rule v ws n ns ls fs is g k e h w =
      let i : k ≡ index v (with v n.names) = e ∙ sym (with-index v n.names) in
      let same : of_names fs ++ (k ∷ []) ≡ map (λ u. index u (with v n.names)) ws ++ (index v (with v n.names) ∷ []) = rw (w.ruled, i) in
      record {
        names = w.names;
        literals = w.literals;
        lefts = rw (w.lefts, e);
        items = w.items;
        groups = w.groups;
        ruled = names-snoc fs k ∙ rw (lt-ltb k 128 h) (same ∙ sym (map-append (λ u. index u (with v n.names)) ws (v ∷ [])));
        known = every-snoc (λ u. index u (with v n.names) < length (with v n.names)) ws v w.known
            (omega (arith, with-index v n.names, with-known v n.names));
      }

  -- a name that was noted is defined
  rule-begins : (from k : ℕ) (v : List ℕ) (ws : List (List ℕ)) (n : Notes) (u : Tables) → k ≡ index v n.names → Named k v ws n u
      → Defines v ws n (ruled k from u)
  unfolding ruled
  rule-begins from k v ws n u e w = by (among k u.lefts) refl (leb 128 (length u.lefts))
    where
      number : k ≡ index v (with v n.names)
      number = e ∙ sym (with-index v n.names)

      there : index v (with v n.names) < length (with v n.names)
      there = omega (arith, with-index v n.names, with-known v n.names)

      same : among k u.lefts ≡ among (index v (with v n.names)) (map (λ x. index x (with v n.names)) ws)
      same = among-names k u.lefts w.small ∙ rw (w.told.ruled, number)

      by : (a : Bool) → among k u.lefts ≡ a → (b : Bool) → Defines v ws n (pick a (refused 18 from) (pick b (refused 20 from) (on (begun k u))))
      by true f b = again from refl (among-some v (with v n.names) ws there (sym same ∙ f))
      by false f true = limit from refl
      by false f false = new (begun k u) refl (among_none v (with v n.names) ws there (sym same ∙ f)) (record {
        keep = rule-keeps k u w.small w.base;
        told = says-rule v ws n u.names u.literals u.lefts u.items u.groups k e w.small w.told;
        left = ap length w.told.lefts;
        size = refl;
      })

  -- a name is noted and defined
  pub rule_told : (from : ℕ) (v : List ℕ) (ws : List (List ℕ)) (n : Notes) (t : Tables) → word_at false text from ≡ v → Between ws n t
      → Defines v ws n (defined text from t)
  unfolding defined
  rule_told from v ws n t e w =
      let k = position false text from t.names in
      let i : k ≡ index v n.names = words-old false from v t.names n.names e w.told.names in
      let m : length n.names ≡ length t.names = ap length (sym w.told.names) ∙ length-map t.names (word_at false text) in
      by i (noted k from t)
      (noted-gives (Named k v ws n) k from t
      (λ h. record {
        base = w.base;
        told = says-name v ws n t.names t.names t.literals t.lefts t.items t.groups
            (word-there false from v t.names n.names e w.told.names h) w.told;
        small = omega (arith, w.base.few);
      })
      (λ h q. record {
        base = renamed-base from t q w.base;
        told = says-name v ws n t.names (t.names ++ (from ∷ [])) t.literals t.lefts t.items t.groups
            (word-put false from v t.names n.names e w.told.names h) w.told;
        small = omega (arith, index-le v n.names);
      }))
    where
      by : {k : ℕ} → k ≡ index v n.names → (r : Run Tables) → Gives (Named k v ws n) r → Defines v ws n (r then ruled k from)
      by {k} i (on u) h = rule-begins from k v ws n u i h
      by {k} i (refused x p) h = limit p (rw h)
