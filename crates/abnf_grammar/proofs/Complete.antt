-- The automaton reads each rule of the subset to its end: what it notes is what the text means, unless a limit is passed. Assumes nothing.
use Prim.Native.Nat.{ℕ, ◌+◌, ◌*◌, ◌≤◌}
use native.Mathlib.Omega.{arith}
use mathlib.Core.Path.{◌≡◌, refl, sym, ap, ◌∙◌, subst}
use mathlib.Core.List.{List, [], ◌∷◌, map}
use mathlib.Core.Bool.{Bool, true, false, ◌||◌, ◌&&◌}
use lib.ListN.{length, get_or, drop}
use lib.Seq.{get_or-drop}
use lib.Dec.{leb, eqb}
use borrow.Author.Tests.{leb-true, eqb-true, ne_eqb}
use Rattle.abnf_tables.specs.Run.{on}
use Rattle.abnf_tables.specs.Bytes.{blank, letter, name_byte, literal_byte, lower}
use Rattle.abnf_tables.specs.Words.{part, word, word_at}
use Rattle.abnf_tables.specs.Tables as Tab
use Rattle.abnf_tables.specs.Tables.{Tables, used, literal, opened, closed, parted}
use Rattle.abnf_rules.specs.Machine.{to, breaks, begins, behind, spaced, wanted, inside, step, scanned}
use Rattle.abnf_rules.specs.declared.machine.Mode.{Mode}
use Rattle.abnf_rules.specs.declared.machine.Mode.TheVariants.{Blank, Naming, Equals, Want, Name, Quote, After, Spaced}
use Rattle.abnf_rules.specs.declared.machine.Line.TheVariants.{Inside}
use Rattle.abnf_grammar.specs.Subset.{Part, named, quoted, optional, Row, last, next, Choice, only, either, more, spelled, rulename, char_val, element, concatenation, alternation}
use Rattle.abnf_grammar.specs.Meaning.{index}
use Rattle.abnf_grammar.proofs.Notes.{Notes, note_item, note_name, note_literal, note_group, note_part, note_row, note_choice}
use Rattle.abnf_grammar.proofs.Kept.{Gives, gives-if, gives_then, in_group_lem}
use Rattle.abnf_grammar.proofs.Told.{In, Start, first-element, next-element, name-told, literal-told, group-told, closed-told, parted-told}
use Rattle.abnf_grammar.proofs.Leads.{state, Goes, here, drop-next, Stop, Stops, stop-plain, stop-name, cwsp-stops, blanks-stop, Leads, goes, lead-then, reads, settles, reads-to, blanks-lead}

-- ---- words

-- the word of bytes that are spelled and then stop is these bytes without case
pub word-is : (q : Bool) (p : ℕ → Bool) (w bs rest : List ℕ) → ((b : ℕ) → p b ≡ part q b) → spelled p w bs rest → word q rest ≡ [] → word q bs ≡ map lower w
unfolding word
word-is q p [] bs rest f d h = rw d h
word-is q p (b ∷ w) bs rest f d h =
    let e : part q b ≡ true = sym (f b) ∙ d.2 in rw (d.1, e) (ap {B = List ℕ} (λ r. lower b ∷ r) (word-is q p w d.0 rest f d.3 h))

-- the kinds of bytes by which words are taken
pub name-part : (b : ℕ) → name_byte b ≡ part false b
unfolding part
name-part b = refl

literal-part : (b : ℕ) → literal_byte b ≡ part true b
unfolding part
literal-part b = refl

-- at a stop, and at a quote, no word begins
pub stop-word : (rest : List ℕ) → Stops rest → word false rest ≡ []
unfolding word part
stop-word rest s = rw (s.2, stop-name s.0 s.3)

quote-word : (rest r : List ℕ) → rest ≡ 34 ∷ r → word true rest ≡ []
unfolding word part literal_byte
quote-word rest r e = rw e

-- what a letter is and is not
pub letter-high : (b : ℕ) → letter b ≡ true → 65 ≤ b
unfolding letter
letter-high b e = by (leb 65 b) refl (leb 97 b) refl e
  where
    by : (c : Bool) → leb 65 b ≡ c → (d : Bool) → leb 97 b ≡ d → ((c && leb b 90) || (d && leb b 122)) ≡ true → 65 ≤ b
    by true f d g z = leb-true 65 b f
    by false f true g z = let h = leb-true 97 b g in omega arith
    by false f false g z = let y : ◌≡◌ {A = ℕ} 0 1 = cc in absurd (omega arith)

pub letter-name : (b : ℕ) → letter b ≡ true → name_byte b ≡ true
unfolding name_byte
letter-name b e = rw e

pub letter-unbroken : (b : ℕ) → letter b ≡ true → breaks b ≡ false
letter-unbroken b e = let h = letter-high b e in rw (ne_eqb b 13 (λ q. omega arith), ne_eqb b 59 (λ q. omega arith))

pub letter-solid : (b : ℕ) → letter b ≡ true → blank b ≡ false
unfolding blank
letter-solid b e = let h = letter-high b e in rw (ne_eqb b 32 (λ q. omega arith), ne_eqb b 9 (λ q. omega arith))

-- where an element may begin
abbrev pub Ready : Mode → Type 0
Ready Blank = ⊥
Ready (Naming from) = ⊥
Ready Equals = ⊥
Ready Want = Unit {0}
Ready (Name from) = ⊥
Ready (Quote from) = ⊥
Ready After = ⊥
Ready Spaced = Unit {0}

module _ (text : List ℕ) where
  pub begin-step : (at b : ℕ) (m : Mode) (t : Tables) → Ready m → breaks b ≡ false → blank b ≡ false → (letter b || (eqb b 34 || eqb b 91)) ≡ true
      → step text at b Inside m t ≡ begins text at b t
  unfolding step inside wanted spaced
  begin-step at b Blank t h e f g = absurd h
  begin-step at b (Naming from) t h e f g = absurd h
  begin-step at b Equals t h e f g = absurd h
  begin-step at b Want t h e f g = rw (e, f)
  begin-step at b (Name from) t h e f g = absurd h
  begin-step at b (Quote from) t h e f g = absurd h
  begin-step at b After t h e f g = absurd h
  begin-step at b Spaced t h e f g = rw g

  -- tables in which an element may begin, and then have Q
  abbrev pub Opens : (Tables → Type 0) → Tables → Type 0
  Opens Q t = (at : ℕ) → Gives Q (Tab.element at t)

  -- ---- names

  -- the first letter of a name
  letter-leads : (at b : ℕ) (bs rest : List ℕ) (m : Mode) (t : Tables) (Q : Tables → Type 0) → Ready m → drop at text ≡ bs → bs ≡ b ∷ rest → letter b ≡ true
      → Opens Q t
      → Leads text (scanned text at bs (state Inside m t)) Inside (Name at) rest Q
  unfolding begins
  letter-leads at b bs rest m t Q h d e f q =
      reads text at b bs rest Inside m t Inside (Name at) Q d e
      (rw (begin-step at b m t h (letter-unbroken b f) (letter-solid b f) (rw f), f)
      (gives_then Q (Goes Inside (Name at) Q) (Tab.element at t) (to (Name at)) (q at) (λ u v. here Inside (Name at) Q u v)))

  -- its other bytes
  name-bytes : (from at : ℕ) (w bs rest : List ℕ) (t : Tables) (Q : Tables → Type 0) → drop at text ≡ bs → spelled name_byte w bs rest → Q t
      → Leads text (scanned text at bs (state Inside (Name from) t)) Inside (Name from) rest Q
  unfolding step inside
  name-bytes from at [] bs rest t Q d s q = goes at t (d ∙ s) (rw s) q
  name-bytes from at (b ∷ w) bs rest t Q d s q =
      lead-then text
      (reads text at b bs s.0 Inside (Name from) t Inside (Name from) Q d s.1
      (rw s.2 (gives-if (Goes Inside (Name from) Q) (leb (from + 64) at) _ _ (λ z. refl) (λ z. here Inside (Name from) Q t q))))
      (λ a u e r. name-bytes from a w s.0 rest u Q e s.3 r)

  -- a name ends where no byte of a name follows; what is behind it is read as behind a blank
  name-ends : (from at : ℕ) (bs : List ℕ) (t : Tables) (Q : Tables → Type 0) → drop at text ≡ bs → Stops bs → Gives Q (used text from t)
      → Leads text (scanned text at bs (state Inside (Name from) t)) Inside Spaced bs Q
  unfolding step inside spaced
  name-ends from at bs t Q d s g =
      settles text at s.0 bs s.1 (Name from) Spaced t (used text from t) Q d s.2 (rw (stop-name s.0 s.3, stop-plain s.0 s.3)) g

  -- the same behind a literal or an option
  after-ends : (at : ℕ) (bs : List ℕ) (t : Tables) (Q : Tables → Type 0) → drop at text ≡ bs → Stops bs → Q t
      → Leads text (scanned text at bs (state Inside After t)) Inside Spaced bs Q
  unfolding step inside spaced
  after-ends at bs t Q d s g = settles text at s.0 bs s.1 After Spaced t (on t) Q d s.2 (rw (stop-plain s.0 s.3)) g

  -- a name from its first byte to its stop
  name-leads : (w : List ℕ) (m : Mode) (at : ℕ) (bs rest : List ℕ) (t : Tables) (ps : List ℕ) (l : ℕ) (ws : List (List ℕ)) (n : Notes) → Ready m
      → drop at text ≡ bs → rulename w bs rest → Stops rest
      → Opens (In text ps l ws n) t
      → Leads text (scanned text at bs (state Inside m t)) Inside Spaced rest (In text ps l ws (note_item l (2 * index (map lower w) n.names) (note_name (map lower w) n)))
  name-leads [] m at bs rest t ps l ws n h d e s q = absurd e
  name-leads (b ∷ w) m at bs rest t ps l ws n h d e s q =
      let v : word_at false text at ≡ map lower (b ∷ w) =
      ap (word false) d ∙ word-is false name_byte (b ∷ w) bs rest name-part (e.0, e.1, letter-name b e.2, e.3) (stop-word rest s) in
      lead-then text (letter-leads at b bs e.0 m t (In text ps l ws n) h d e.1 e.2 q)
      (λ a u f i. lead-then text (name-bytes at a w e.0 rest u (In text ps l ws n) f e.3 i)
      (λ a' u' f' i'. name-ends at a' rest u' _ f' s (name-told text at (map lower (b ∷ w)) ps l ws n u' v i')))

  -- ---- literals

  -- the quote before a literal that is not empty
  quote-leads : (at c : ℕ) (bs rest r : List ℕ) (m : Mode) (t : Tables) (Q : Tables → Type 0) → Ready m → drop at text ≡ bs → bs ≡ 34 ∷ rest → rest ≡ c ∷ r
      → literal_byte c ≡ true → Opens Q t
      → Leads text (scanned text at bs (state Inside m t)) Inside (Quote at) rest Q
  unfolding begins letter blank literal_byte
  quote-leads at c bs rest r m t Q h d e f k q =
      let g : get_or text (at + 1) 0 ≡ c = sym (get_or-drop at text 1 0) ∙ ap (λ x. get_or x 1 0) (d ∙ e ∙ ap {B = List ℕ} (λ x. 34 ∷ x) f) in
      let other : eqb c 34 ≡ false = unquoted c k in
      reads text at 34 bs rest Inside m t Inside (Quote at) Q d e
      (rw (begin-step at 34 m t h refl refl refl, g, other)
      (gives_then Q (Goes Inside (Quote at) Q) (Tab.element at t) (to (Quote at)) (q at) (λ u v. here Inside (Quote at) Q u v)))
    where
      unquoted : (c : ℕ) → literal_byte c ≡ true → eqb c 34 ≡ false
      unquoted c k = by (eqb c 34) refl
        where
          by : (z : Bool) → eqb c 34 ≡ z → eqb c 34 ≡ false
          by false y = y
          by true y =
              let x : literal_byte 34 ≡ true = subst (λ v. literal_byte v ≡ true) (eqb-true c 34 y) k in let o : ◌≡◌ {A = ℕ} 0 1 = cc in absurd (omega arith)

  -- its bytes
  literal-bytes : (from at : ℕ) (w bs rest : List ℕ) (t : Tables) (Q : Tables → Type 0) → drop at text ≡ bs → spelled literal_byte w bs rest → Q t
      → Leads text (scanned text at bs (state Inside (Quote from) t)) Inside (Quote from) rest Q
  unfolding step inside
  literal-bytes from at [] bs rest t Q d s q = goes at t (d ∙ s) (rw s) q
  literal-bytes from at (b ∷ w) bs rest t Q d s q =
      lead-then text
      (reads text at b bs s.0 Inside (Quote from) t Inside (Quote from) Q d s.1
      (rw s.2 (gives-if (Goes Inside (Quote from) Q) (leb (from + 65) at) _ _ (λ z. refl) (λ z. here Inside (Quote from) Q t q))))
      (λ a u e r. literal-bytes from a w s.0 rest u Q e s.3 r)

  -- its end
  literal-ends : (from at : ℕ) (bs rest : List ℕ) (t : Tables) (Q : Tables → Type 0) → drop at text ≡ bs → bs ≡ 34 ∷ rest
      → Gives Q (literal text (from + 1) t)
      → Leads text (scanned text at bs (state Inside (Quote from) t)) Inside After rest Q
  unfolding step inside literal_byte
  literal-ends from at bs rest t Q d e g =
      reads text at 34 bs rest Inside (Quote from) t Inside After Q d e
      (gives_then Q (Goes Inside After Q) (literal text (from + 1) t) (to After) g (λ u v. here Inside After Q u v))

  -- a literal from quote to stop
  literal-leads : (w : List ℕ) (m : Mode) (at : ℕ) (bs rest : List ℕ) (t : Tables) (ps : List ℕ) (l : ℕ) (ws : List (List ℕ)) (n : Notes) → Ready m
      → drop at text ≡ bs → char_val w bs rest → Stops rest
      → Opens (In text ps l ws n) t
      → Leads text (scanned text at bs (state Inside m t)) Inside Spaced rest (In text ps l ws (note_item l (2 * (index (map lower w) n.literals + 5) + 1) (note_literal (map lower w) n)))
  literal-leads [] m at bs rest t ps l ws n h d e s q = absurd e
  literal-leads (b ∷ w) m at bs rest t ps l ws n h d e s q =
      let x = e.0 in
      let y = e.2.0 in
      let inner : spelled literal_byte (b ∷ w) x y = e.2.1 in
      let v : word_at true text (at + 1) ≡ map lower (b ∷ w) =
      ap (word true) (next-drop at 34 bs x d e.1) ∙ word-is true literal_byte (b ∷ w) x y literal-part inner (quote-word y rest e.2.2) in
      lead-then text (quote-leads at b bs x inner.0 m t (In text ps l ws n) h d e.1 inner.1 inner.2 q)
      (λ a u f i. lead-then text (literal-bytes at a (b ∷ w) x y u (In text ps l ws n) f inner i)
      (λ a' u' f' i'. lead-then text (literal-ends at a' y rest u' _ f' e.2.2 (literal-told text (at + 1) (map lower (b ∷ w)) ps l ws n u' v i'))
      (λ a'' u'' f'' i''. after-ends a'' rest u'' _ f'' s i'')))
    where
      next-drop : (at b : ℕ) (bs rest : List ℕ) → drop at text ≡ bs → bs ≡ b ∷ rest → drop (at + 1) text ≡ rest
      next-drop at b bs rest d e = drop-next at b rest text (d ∙ e)

  -- ---- options

  -- "[" begins an option
  open-leads : (m : Mode) (at : ℕ) (bs rest : List ℕ) (t : Tables) (ps : List ℕ) (l : ℕ) (ws : List (List ℕ)) (n : Notes) → Ready m → drop at text ≡ bs
      → bs ≡ 91 ∷ rest → Opens (In text ps l ws n) t
      → Leads text (scanned text at bs (state Inside m t)) Inside Want rest (Start text (l ∷ ps) (length n.lefts) ws (note_group (note_item l (2 * (128 + n.groups)) n)))
  unfolding begins letter blank
  open-leads m at bs rest t ps l ws n h d e q =
      let Q = Start text (l ∷ ps) (length n.lefts) ws (note_group (note_item l (2 * (128 + n.groups)) n)) in
      reads text at 91 bs rest Inside m t Inside Want Q d e
      (rw (begin-step at 91 m t h refl refl refl)
      (gives_then (In text ps l ws n) (Goes Inside Want Q) (Tab.element at t) _ (q at)
      (λ u v. gives_then Q (Goes Inside Want Q) (opened at u) (to Want) (group-told text at ps l ws n u v) (λ x y. here Inside Want Q x y))))

  -- "]" ends it
  close-leads : (at : ℕ) (bs rest : List ℕ) (t : Tables) (p : ℕ) (ps : List ℕ) (l : ℕ) (ws : List (List ℕ)) (n : Notes) → drop at text ≡ bs → bs ≡ 93 ∷ rest
      → In text (p ∷ ps) l ws n t
      → Leads text (scanned text at bs (state Inside Spaced t)) Inside After rest (In text ps p ws n)
  unfolding step inside spaced behind letter blank
  close-leads at bs rest t p ps l ws n d e w =
      reads-to text at 93 bs rest Inside Spaced t Inside After (closed t) (In text ps p ws n) d e (rw (in_group_lem p ps t w.keep))
      (closed-told text p ps l ws n t w)

  -- "/" begins the next alternative
  slash-leads : (at : ℕ) (bs rest : List ℕ) (t : Tables) (ps : List ℕ) (l : ℕ) (ws : List (List ℕ)) (n : Notes) → drop at text ≡ bs → bs ≡ 47 ∷ rest
      → In text ps l ws n t
      → Leads text (scanned text at bs (state Inside Spaced t)) Inside Want rest (Start text ps l ws n)
  unfolding step inside spaced behind letter blank
  slash-leads at bs rest t ps l ws n d e w =
      reads-to text at 47 bs rest Inside Spaced t Inside Want (parted t) (Start text ps l ws n) d e refl (parted-told text ps l ws n t w)

  -- ---- elements, concatenations, alternations

  mutual
    unfolding note_part

    -- each element, each concatenation, each alternation leads from its first byte to its stop
    pub part-leads : (p : Part) (m : Mode) (at : ℕ) (bs rest : List ℕ) (t : Tables) (ps : List ℕ) (l : ℕ) (ws : List (List ℕ)) (n : Notes) → Ready m
        → drop at text ≡ bs → element p bs rest → Stops rest
        → Opens (In text ps l ws n) t → Leads text (scanned text at bs (state Inside m t)) Inside Spaced rest (In text ps l ws (note_part p l n))
    part-leads (named w) m at bs rest t ps l ws n h d e s q = name-leads w m at bs rest t ps l ws n h d e s q
    part-leads (quoted w) m at bs rest t ps l ws n h d e s q = literal-leads w m at bs rest t ps l ws n h d e s q
    part-leads (optional c) m at bs rest t ps l ws n h d e s q =
        let x = e.2 in
        let y = x.2 in
        let z = y.2 in
        lead-then text (open-leads m at bs e.0 t ps l ws n h d e.1 q)
        (λ a₁ t₁ d₁ w₁. lead-then text (blanks-lead text a₁ e.0 x.0 Want t₁ _ tt d₁ x.1 w₁)
        (λ a₂ t₂ d₂ w₂. lead-then text (choice-leads c a₂ x.0 y.0 t₂ (l ∷ ps) (length n.lefts) ws
        (note_group (note_item l (2 * (128 + n.groups)) n)) d₂ y.1 (blanks-stop y.0 z.0 z.1 (93, rest, z.2, Stop.bracket refl)) w₂)
        (λ a₃ t₃ d₃ w₃. lead-then text (blanks-lead text a₃ y.0 z.0 Spaced t₃ _ tt d₃ z.1 w₃)
        (λ a₄ t₄ d₄ w₄. lead-then text (close-leads a₄ z.0 rest t₄ l ps (length n.lefts) ws
        (note_choice c (length n.lefts) (note_group (note_item l (2 * (128 + n.groups)) n))) d₄ z.2 w₄)
        (λ a₅ t₅ d₅ w₅. after-ends a₅ rest t₅ _ d₅ s w₅)))))

    pub row-leads : (r : Row) (m : Mode) (at : ℕ) (bs rest : List ℕ) (t : Tables) (ps : List ℕ) (l : ℕ) (ws : List (List ℕ)) (n : Notes) → Ready m
        → drop at text ≡ bs → concatenation r bs rest → Stops rest
        → Opens (In text ps l ws n) t → Leads text (scanned text at bs (state Inside m t)) Inside Spaced rest (In text ps l ws (note_row r l n))
    row-leads (last p) m at bs rest t ps l ws n h d e s q = part-leads p m at bs rest t ps l ws n h d e s q
    row-leads (next p r) m at bs rest t ps l ws n h d e s q =
        let x = e.2 in
        let b = x.1 in
        lead-then text (part-leads p m at bs e.0 t ps l ws n h d e.1 (cwsp-stops e.0 b.0 b.1) q)
        (λ a₁ t₁ d₁ w₁. lead-then text (blanks-lead text a₁ e.0 x.0 Spaced t₁ _ tt d₁ (more b.1 b.2) w₁)
        (λ a₂ t₂ d₂ w₂. row-leads r Spaced a₂ x.0 rest t₂ ps l ws (note_part p l n) tt d₂ x.2 s
        (λ k. next-element text k ps l ws (note_part p l n) t₂ w₂)))

    pub choice-leads : (c : Choice) (at : ℕ) (bs rest : List ℕ) (t : Tables) (ps : List ℕ) (l : ℕ) (ws : List (List ℕ)) (n : Notes) → drop at text ≡ bs
        → alternation c bs rest → Stops rest
        → Start text ps l ws n t → Leads text (scanned text at bs (state Inside Want t)) Inside Spaced rest (In text ps l ws (note_choice c l n))
    choice-leads (only r) at bs rest t ps l ws n d e s w =
        row-leads r Want at bs rest t ps l ws (note_item l 1 n) tt d e s (λ k. first-element text k ps l ws n t w)
    choice-leads (either r c) at bs rest t ps l ws n d e s w =
        let x = e.2 in
        let y = x.2 in
        let z = y.2 in
        lead-then text (row-leads r Want at bs e.0 t ps l ws (note_item l 1 n) tt d e.1
        (blanks-stop e.0 x.0 x.1 (47, y.0, y.1, Stop.slash refl)) (λ k. first-element text k ps l ws n t w))
        (λ a₁ t₁ d₁ w₁. lead-then text (blanks-lead text a₁ e.0 x.0 Spaced t₁ _ tt d₁ x.1 w₁)
        (λ a₂ t₂ d₂ w₂. lead-then text (slash-leads a₂ x.0 y.0 t₂ ps l ws (note_row r l (note_item l 1 n)) d₂ y.1 w₂)
        (λ a₃ t₃ d₃ w₃. lead-then text (blanks-lead text a₃ y.0 z.0 Want t₃ _ tt d₃ z.1 w₃)
        (λ a₄ t₄ d₄ w₄. choice-leads c a₄ z.0 rest t₄ ps l ws (note_row r l (note_item l 1 n)) d₄ z.2 s w₄))))
