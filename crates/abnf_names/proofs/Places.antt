-- "[" number g outside literals and comments is the place at which the text's group g begins. Assumes nothing.
use Prim.Native.Nat.{ℕ, ◌+◌, ◌-◌, ◌≤◌}
use native.Mathlib.Omega.{arith}
use mathlib.Core.Path.{◌≡◌, refl, sym, ◌∙◌}
use mathlib.Core.List.{List, [], ◌∷◌}
use mathlib.Core.Bool.{Bool, true, false, ◌&&◌, ◌||◌}
use lib.ListN.{length, get_or}
use lib.Dec.{ltb, leb, eqb}
use borrow.Author.Tests.{eqb-true, eqb-false, ne_eqb, lt-ltb, le-ltb}
use Rattle.cfg.specs.Reading.{pick}
use Rattle.abnf_tables.specs.Run.{Run, on, refused, ◌then◌}
use Rattle.abnf_tables.specs.Bytes.{blank, letter, name_byte, literal_byte, comment_byte}
use Rattle.abnf_tables.specs.Words.{position}
use Rattle.abnf_tables.specs.Tables.{Tables, first_element, element, noted, used, among, ruled, defined, listed, literal, opened, closed, in_group}
use Rattle.abnf_rules.specs.Machine.{State, breaks, broken, begins, behind, spaced, wanted, equals, empty, inside, whole, fresh, step, scanned, start}
use Rattle.abnf_rules.specs.declared.machine.Mode.{Mode}
use Rattle.abnf_rules.specs.declared.machine.Mode.TheVariants.{Blank, Naming, Equals, Want, Name, Quote, After, Spaced}
use Rattle.abnf_rules.specs.declared.machine.Line.{Line}
use Rattle.abnf_rules.specs.declared.machine.Line.TheVariants.{Inside, Comment, Return, Ended}
use Rattle.abnf_rules.proofs.Bounds.{Holds, holds-if, holds_then}
use Rattle.abnf_names.specs.declared.TextPart.{TextPart}
use Rattle.abnf_names.specs.Parts.{part, no_part, state_after, opens, group_part}

-- ---- where a state of the text stands

abbrev quoted : Mode → ℕ
quoted Blank = 0
quoted (Naming from) = 0
quoted Equals = 0
quoted Want = 0
quoted (Name from) = 0
quoted (Quote from) = 1
quoted After = 0
quoted Spaced = 0

abbrev pub side : Line → Mode → ℕ
side Inside m = quoted m
side Comment m = 2
side Return m = 0
side Ended m = 0

abbrev Plain : Mode → Type 0
Plain m = quoted m ≡ 0

-- a line ends, or a comment begins, outside literals
abbrev pub Broken : Line → Mode → Type 0
Broken Inside m = Unit {0}
Broken Comment m = Plain m
Broken Return m = Plain m
Broken Ended m = Plain m

-- behind byte b, which stood in `state`, with g groups before
pub record Went (state b g : ℕ) (s : State) : Type 0 where
  pub plain : Broken s.line s.mode
  pub stands : side s.line s.mode ≡ state_after state b
  pub groups : s.tables.groups ≡ g + pick (opens state b) 1 0

abbrev Calm : ℕ → Type 0
Calm b = (state_after 0 b ≡ 0) × (opens 0 b ≡ false)

other : (p : ℕ → Bool) (b k : ℕ) → p b ≡ true → p k ≡ false → b ≡ k → ⊥
other p b k e f h = let z : p k ≡ true = rw h at e in let y : ◌≡◌ {A = ℕ} 0 1 = cc in omega arith

calm : (b : ℕ) → (b ≡ 34 → ⊥) → (b ≡ 59 → ⊥) → (b ≡ 91 → ⊥) → Calm b
unfolding state_after
calm b x y z = (rw (ne_eqb b 34 x, ne_eqb b 59 y), rw (ne_eqb b 91 z))

calm-by : (p : ℕ → Bool) (b : ℕ) → p b ≡ true → p 34 ≡ false → p 59 ≡ false → p 91 ≡ false → Calm b
calm-by p b e x y z = calm b (other p b 34 e x) (other p b 59 e y) (other p b 91 e z)

-- a state outside, with as many groups as before
went-calm : (b g : ℕ) (m : Mode) (t : Tables) → Calm b → Plain m → t.groups ≡ g → Went 0 b g (record { line = Inside; mode = m; tables = t })
went-calm b g m t c x y = record { plain = tt; stands = x ∙ sym c.0; groups = let z = c.1 in rw z (omega arith) }

-- ---- what changes no groups

abbrev Same : ℕ → Tables → Type 0
Same g t = t.groups ≡ g

element-same : (at : ℕ) (t : Tables) → Holds (Same t.groups) (element at t)
unfolding element first_element
element-same at t =
    holds-if (Same t.groups) (leb 64 t.size || leb 4096 t.symbols) _ _ (λ z. refl)
    (λ z. holds-if (Same t.groups) (leb 1 t.size) _ _ (λ y. refl) (λ y. holds-if (Same t.groups) (leb 512 t.productions) _ _ (λ x. refl) (λ x. refl)))

noted-same : (k from : ℕ) (t : Tables) → Holds (Same t.groups) (noted k from t)
unfolding noted
noted-same k from t = holds-if (Same t.groups) (ltb k (length t.names)) _ _ (λ z. refl) (λ z. holds-if (Same t.groups) (leb 128 (length t.names + t.groups)) _ _ (λ y. refl) (λ y. refl))

used-same : (text : List ℕ) (from : ℕ) (t : Tables) → Holds (Same t.groups) (used text from t)
unfolding used
used-same text from t = holds_then (Same t.groups) (Same t.groups) (noted (position false text from t.names) from t) _ (noted-same (position false text from t.names) from t) (λ u v. v)

defined-same : (text : List ℕ) (from : ℕ) (t : Tables) → Holds (Same t.groups) (defined text from t)
unfolding defined ruled
defined-same text from t =
    holds_then (Same t.groups) (Same t.groups) (noted (position false text from t.names) from t) _ (noted-same (position false text from t.names) from t)
    (λ u v. holds-if (Same t.groups) (among (position false text from t.names) u.lefts) _ _ (λ z. refl) (λ z. holds-if (Same t.groups) (leb 128 (length u.lefts)) _ _ (λ y. refl) (λ y. v)))

literal-same : (text : List ℕ) (from : ℕ) (t : Tables) → Holds (Same t.groups) (literal text from t)
unfolding literal listed
literal-same text from t =
    holds_then (Same t.groups) (Same t.groups) (listed (position true text from t.literals) from t) _
    (holds-if (Same t.groups) (ltb (position true text from t.literals) (length t.literals)) _ _ (λ z. refl) (λ z. holds-if (Same t.groups) (leb 4089 (length t.literals)) _ _ (λ y. refl) (λ y. refl)))
    (λ u v. v)

opened-more : (at : ℕ) (t : Tables) → Holds (Same (t.groups + 1)) (opened at t)
unfolding opened
opened-more at t = holds-if (Same (t.groups + 1)) (leb 128 (length t.names + t.groups) || (leb 128 (length t.lefts) || leb 512 t.productions)) _ _ (λ z. refl) (λ z. refl)

and_first : (a b : Bool) → (a && b) ≡ true → a ≡ true
and_first true b e = refl
and_first false b e = e

-- ---- each step

broken-went : (b g : ℕ) (m : Mode) (t : Tables) → Plain m → breaks b ≡ true → t.groups ≡ g → Holds (Went 0 b g) (broken b m t)
unfolding state_after
broken-went b g m t p e h = by (eqb b 59) refl (eqb b 13) refl
  where
    by : (a : Bool) → eqb b 59 ≡ a → (c : Bool) → eqb b 13 ≡ c → Went 0 b g (record { line = pick (eqb b 59) Comment Return; mode = m; tables = t })
    by true f c k = let z : b ≡ 59 = eqb-true b 59 f in record { plain = rw z p; stands = rw z; groups = rw z (omega arith) }
    by false f true k = let z : b ≡ 13 = eqb-true b 13 k in record { plain = rw z p; stands = rw z; groups = rw z (omega arith) }
    by false f false k = let z : (eqb b 13 || eqb b 59) ≡ false = rw (k, f) in let y : ◌≡◌ {A = ℕ} 0 1 = cc in absurd (omega arith)

blank-calm : (b : ℕ) → blank b ≡ true → Calm b
unfolding blank
blank-calm b e = calm-by blank b e refl refl refl

letter-calm : (b : ℕ) → letter b ≡ true → Calm b
unfolding letter
letter-calm b e = calm-by letter b e refl refl refl

name-calm : (b : ℕ) → name_byte b ≡ true → Calm b
unfolding name_byte letter
name-calm b e = calm-by name_byte b e refl refl refl

byte-calm : (b k : ℕ) → eqb b k ≡ true → Calm k → Calm b
byte-calm b k e c = let z : b ≡ k = eqb-true b k e in rw z c

begins-went : (text : List ℕ) (at b g : ℕ) (t : Tables) → t.groups ≡ g → Holds (Went 0 b g) (begins text at b t)
unfolding begins state_after
begins-went text at b g t h =
    holds-if (Went 0 b g) (letter b) _ _ (λ z. holds_then (Same t.groups) (Went 0 b g) (element at t) _ (element-same at t) (λ u v. went-calm b g _ _ (letter-calm b z) refl (v ∙ h)))
    (λ z. holds-if (Went 0 b g) (eqb b 34) _ _
    (λ y. holds-if (Went 0 b g) (eqb (get_or text (at + 1) 0) 34) _ _ (λ x. refl)
    (λ x. holds_then (Same t.groups) (Went 0 b g) (element at t) _ (element-same at t) (λ u v. let k : b ≡ 34 = eqb-true b 34 y in record { plain = tt; stands = rw k; groups = rw k (omega arith) })))
    (λ y. holds-if (Went 0 b g) (eqb b 91) _ _
    (λ x. holds_then (Same t.groups) (Went 0 b g) (element at t) _ (element-same at t)
    (λ u v. holds_then (Same (u.groups + 1)) (Went 0 b g) (opened at u) _ (opened-more at u) (λ m n. let k : b ≡ 91 = eqb-true b 91 x in record { plain = tt; stands = rw k; groups = rw k (omega arith) })))
    (λ x. refl)))

behind-went : (at b g : ℕ) (t : Tables) → t.groups ≡ g → Holds (Went 0 b g) (behind at b t)
unfolding behind closed state_after
behind-went at b g t h =
    holds-if (Went 0 b g) (breaks b) _ _ (λ z. broken-went b g Spaced t refl z h)
    (λ z. holds-if (Went 0 b g) (blank b) _ _ (λ y. went-calm b g _ _ (blank-calm b y) refl h)
    (λ y. holds-if (Went 0 b g) (eqb b 47) _ _ (λ x. went-calm b g _ _ (byte-calm b 47 x (refl, refl)) refl h)
    (λ x. holds-if (Went 0 b g) (eqb b 93 && in_group t) _ _ (λ u. went-calm b g _ _ (byte-calm b 93 (and_first (eqb b 93) (in_group t) u) (refl, refl)) refl h) (λ u. refl))))

spaced-went : (text : List ℕ) (at b g : ℕ) (t : Tables) → t.groups ≡ g → Holds (Went 0 b g) (spaced text at b t)
unfolding spaced
spaced-went text at b g t h = holds-if (Went 0 b g) (letter b || (eqb b 34 || eqb b 91)) _ _ (λ z. begins-went text at b g t h) (λ z. behind-went at b g t h)

wanted-went : (text : List ℕ) (at b g : ℕ) (t : Tables) → t.groups ≡ g → Holds (Went 0 b g) (wanted text at b t)
unfolding wanted
wanted-went text at b g t h = holds-if (Went 0 b g) (breaks b) _ _ (λ z. broken-went b g Want t refl z h) (λ z. holds-if (Went 0 b g) (blank b) _ _ (λ y. went-calm b g _ _ (blank-calm b y) refl h) (λ y. begins-went text at b g t h))

equals-went : (at b g : ℕ) (t : Tables) → t.groups ≡ g → Holds (Went 0 b g) (equals at b t)
unfolding equals state_after
equals-went at b g t h =
    holds-if (Went 0 b g) (breaks b) _ _ (λ z. broken-went b g Equals t refl z h)
    (λ z. holds-if (Went 0 b g) (blank b) _ _ (λ y. went-calm b g _ _ (blank-calm b y) refl h)
    (λ y. holds-if (Went 0 b g) (eqb b 61) _ _ (λ x. went-calm b g _ _ (byte-calm b 61 x (refl, refl)) refl h) (λ x. refl)))

empty-went : (at b g : ℕ) (t : Tables) → t.groups ≡ g → Holds (Went 0 b g) (empty at b t)
unfolding empty
empty-went at b g t h = holds-if (Went 0 b g) (breaks b) _ _ (λ z. broken-went b g Blank t refl z h) (λ z. holds-if (Went 0 b g) (blank b) _ _ (λ y. went-calm b g _ _ (blank-calm b y) refl h) (λ y. refl))

-- a byte of a literal
quoted-went : (b from : ℕ) (t : Tables) → literal_byte b ≡ true → Went 1 b t.groups (record { line = Inside; mode = Quote from; tables = t })
unfolding literal_byte state_after
quoted-went b from t e = record { plain = tt; stands = rw (ne_eqb b 34 (other literal_byte b 34 e refl)); groups = omega arith }

inside-went : (text : List ℕ) (at b : ℕ) (m : Mode) (t : Tables) → Holds (Went (quoted m) b t.groups) (inside text at b m t)
unfolding inside state_after
inside-went text at b Blank t = empty-went at b t.groups t refl
inside-went text at b (Naming from) t =
    holds-if (Went 0 b t.groups) (name_byte b) _ _ (λ z. holds-if (Went 0 b t.groups) (leb (from + 64) at) _ _ (λ y. refl) (λ y. went-calm b t.groups _ _ (name-calm b z) refl refl))
    (λ z. holds_then (Same t.groups) (Went 0 b t.groups) (defined text from t) _ (defined-same text from t) (λ u v. equals-went at b t.groups u v))
inside-went text at b Equals t = equals-went at b t.groups t refl
inside-went text at b Want t = wanted-went text at b t.groups t refl
inside-went text at b (Name from) t =
    holds-if (Went 0 b t.groups) (name_byte b) _ _ (λ z. holds-if (Went 0 b t.groups) (leb (from + 64) at) _ _ (λ y. refl) (λ y. went-calm b t.groups _ _ (name-calm b z) refl refl))
    (λ z. holds_then (Same t.groups) (Went 0 b t.groups) (used text from t) _ (used-same text from t) (λ u v. behind-went at b t.groups u v))
inside-went text at b (Quote from) t =
    holds-if (Went 1 b t.groups) (literal_byte b) _ _ (λ z. holds-if (Went 1 b t.groups) (leb (from + 65) at) _ _ (λ y. refl) (λ y. quoted-went b from t z))
    (λ z. holds-if (Went 1 b t.groups) (eqb b 34) _ _
    (λ y. holds_then (Same t.groups) (Went 1 b t.groups) (literal text (from + 1) t) _ (literal-same text (from + 1) t) (λ u v. let k : b ≡ 34 = eqb-true b 34 y in record { plain = tt; stands = rw k; groups = omega arith }))
    (λ y. refl))
inside-went text at b After t = behind-went at b t.groups t refl
inside-went text at b Spaced t = spaced-went text at b t.groups t refl

-- a byte of a comment
comment-went : (b : ℕ) (m : Mode) (t : Tables) → Plain m → comment_byte b ≡ true → Went 2 b t.groups (record { line = Comment; mode = m; tables = t })
unfolding comment_byte state_after
comment-went b m t p e = record { plain = p; stands = rw (ne_eqb b 13 (other comment_byte b 13 e refl)); groups = omega arith }

step_went : (text : List ℕ) (at b : ℕ) (l : Line) (m : Mode) (t : Tables) → Broken l m → Holds (Went (side l m) b t.groups) (step text at b l m t)
unfolding step fresh state_after
step_went text at b Inside m t p = inside-went text at b m t
step_went text at b Comment m t p =
    holds-if (Went 2 b t.groups) (comment_byte b) _ _ (λ z. comment-went b m t p z)
    (λ z. holds-if (Went 2 b t.groups) (eqb b 13) _ _ (λ y. let k : b ≡ 13 = eqb-true b 13 y in record { plain = rw k p; stands = rw k; groups = omega arith }) (λ y. refl))
step_went text at b Return m t p = holds-if (Went 0 b t.groups) (eqb b 10) _ _ (λ z. let k : b ≡ 10 = eqb-true b 10 z in record { plain = p; stands = rw k; groups = rw k (omega arith) }) (λ z. refl)
step_went text at b Ended m t p =
    holds-if (Went 0 b t.groups) (blank b) _ _ (λ z. went-calm b t.groups m t (blank-calm b z) p refl)
    (λ z. holds-if (Went 0 b t.groups) (whole m t) _ _
    (λ y. holds-if (Went 0 b t.groups) (letter b) _ _ (λ x. went-calm b t.groups (Naming at) t (letter-calm b x) refl refl) (λ x. holds-if (Went 0 b t.groups) (breaks b) _ _ (λ u. broken-went b t.groups Blank t refl u refl) (λ u. refl)))
    (λ y. refl))

-- ---- the text

abbrev pub part_from : Run State → (State → TextPart) → TextPart
part_from (on s) f = f s
part_from (refused number place) f = no_part

-- the place at which the groups become more than g
unfoldable pub group_begins : List ℕ → ℕ → List ℕ → State → ℕ → TextPart
group_begins text at [] s g = no_part
group_begins text at (b ∷ bs) s g = part_from (step text at b s.line s.mode s.tables) (λ u. pick (ltb g u.tables.groups) (part at (at + 1)) (group_begins text (at + 1) bs u g))

-- one byte, whose groups are `n` before it and u's behind it
module _ (text : List ℕ) (at : ℕ) (bs : List ℕ) (st b n g : ℕ) (u : State) (w : Went st b n u) (h : n ≤ g)
    (k : u.tables.groups ≤ g → group_part (side u.line u.mode) (g - u.tables.groups) (at + 1) bs ≡ group_begins text (at + 1) bs u g) where
  abbrev Turns : Type 0
  Turns =
      pick (opens st b && eqb (g - n) 0) (part at (at + 1)) (group_part (state_after st b) (pick (opens st b) (g - n - 1) (g - n)) (at + 1) bs)
      ≡ pick (ltb g u.tables.groups) (part at (at + 1)) (group_begins text (at + 1) bs u g)

  turn-open : opens st b ≡ true → (c : Bool) → eqb (g - n) 0 ≡ c → Turns
  turn-open o true d =
      let m : u.tables.groups ≡ n + 1 = w.groups ∙ rw o in
      rw (o, d, lt-ltb g u.tables.groups (omega (arith, eqb-true (g - n) 0 d)))
  turn-open o false d =
      let m : u.tables.groups ≡ n + 1 = w.groups ∙ rw o in
      let q : g - n ≡ 0 → ⊥ = eqb-false (g - n) 0 d in
      let i : g - n - 1 ≡ g - u.tables.groups = omega arith in
      rw (o, d, le-ltb g u.tables.groups (omega arith), i, ← w.stands) (k (omega arith))

  turns : (a : Bool) → opens st b ≡ a → Turns
  turns true o = turn-open o (eqb (g - n) 0) refl
  turns false o =
      let m : u.tables.groups ≡ n + 0 = w.groups ∙ rw o in
      let i : g - n ≡ g - u.tables.groups = omega arith in
      rw (o, le-ltb g u.tables.groups (omega arith), i, ← w.stands) (k (omega arith))

pub brackets-begin : (text : List ℕ) (at : ℕ) (bs : List ℕ) (s : State) (t : Tables) → Broken s.line s.mode → scanned text at bs s ≡ on t → (g : ℕ) → s.tables.groups ≤ g
    → group_part (side s.line s.mode) (g - s.tables.groups) at bs ≡ group_begins text at bs s g
unfolding scanned group_part group_begins
brackets-begin text at [] s t p e g h = refl
brackets-begin text at (b ∷ bs) s t p e g h = by (leb 32768 at) e (step text at b s.line s.mode s.tables) refl (λ u q f k. brackets-begin text (at + 1) bs u t q f g k)
  where
    by : (c : Bool) → pick c (refused 20 at) (step text at b s.line s.mode s.tables then scanned text (at + 1) bs) ≡ on t → (r : Run State) → step text at b s.line s.mode s.tables ≡ r
        → ((u : State) → Broken u.line u.mode → scanned text (at + 1) bs u ≡ on t → u.tables.groups ≤ g → group_part (side u.line u.mode) (g - u.tables.groups) (at + 1) bs ≡ group_begins text (at + 1) bs u g)
        → group_part (side s.line s.mode) (g - s.tables.groups) at (b ∷ bs) ≡ part_from (step text at b s.line s.mode s.tables) (λ u. pick (ltb g u.tables.groups) (part at (at + 1)) (group_begins text (at + 1) bs u g))
    by true f r d k = let z : ◌≡◌ {A = ℕ} 0 1 = cc in absurd (omega arith)
    by false f (refused n q) d k = let y : ◌≡◌ {A = Run Tables} (refused n q) (on t) = rw d at f in let z : ◌≡◌ {A = ℕ} 0 1 = cc in absurd (omega arith)
    by false f (on u) d k =
        let w : Went (side s.line s.mode) b s.tables.groups u = rw d at (step_went text at b s.line s.mode s.tables p) in
        let y : scanned text (at + 1) bs u ≡ on t = rw d at f in
        rw d (turns text at bs (side s.line s.mode) b s.tables.groups g u w h (λ l. k u w.plain y l) (opens (side s.line s.mode) b) refl)

-- of a text that is read, "[" of group g is where that group begins
pub group-back : (text : List ℕ) (t : Tables) → scanned text 0 text start ≡ on t → (g : ℕ) → group_part 0 g 0 text ≡ group_begins text 0 text start g
group-back text t e g = let z : g - 0 ≡ g = omega arith in rw z at (brackets-begin text 0 text start t refl e g (omega arith))
