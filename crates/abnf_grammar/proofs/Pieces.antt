-- A rule of the subset is a set of byte strings: where the first text is such a piece and then the second, it is one of those strings before the
-- second, and that string is such a piece before any other text. Assumes nothing.
use Prim.Native.Nat.{ℕ}
use mathlib.Core.Path.{◌≡◌, refl, sym, ap, ◌∙◌, subst}
use mathlib.Core.Logic.{inl, inr}
use mathlib.Core.List.{List, [], ◌∷◌, ◌++◌, append_assoc}
use mathlib.Core.Bool.{Bool}
use Rattle.abnf_grammar.specs.Subset.{Part, named, quoted, optional, Row, last, next, Choice, only, either, Definition, Piece, byte, char, ◌⨾◌, ◌or◌, Many, none, more, Some, spelled, CRLF, comment, c-nl, c-wsp, rulename, char_val, element, concatenation, alternation, defined-as, elements, rule}
use Rattle.abnf_tables.specs.Bytes.{blank, comment_byte, literal_byte, name_byte}

-- a piece x stands before any text
abbrev pub Stands : Piece → List ℕ → Type 0
Stands P x = (r : List ℕ) → P (x ++ r) r

-- such a piece is a string before the rest, and so before any text
abbrev pub Proper : Piece → Type 0
Proper P = (bs rest : List ℕ) → P bs rest → (x : List ℕ) × (bs ≡ x ++ rest) × Stands P x

-- the signs
byte-proper : (p : ℕ → Bool) → Proper (byte p)
byte-proper p bs rest w = (w.0 ∷ [], w.1, λ r. (w.0, refl, w.2))

char-proper : (c : ℕ) → Proper (char c)
char-proper c bs rest e = (c ∷ [], e, λ r. refl)

-- one behind the other, from the two
joined-cut : (x y bs mid rest : List ℕ) → bs ≡ x ++ mid → mid ≡ y ++ rest → bs ≡ (x ++ y) ++ rest
joined-cut x y bs mid rest e f = e ∙ ap (λ z. x ++ z) f ∙ sym (append_assoc x y rest)

seq-proper : (P Q : Piece) → Proper P → Proper Q → Proper (P ⨾ Q)
seq-proper P Q p q bs rest w =
    let a = p bs w.0 w.1 in
    let b = q w.0 rest w.2 in (
      a.0 ++ b.0,
      joined-cut a.0 b.0 bs w.0 rest a.1 b.1,
      λ r. (b.0 ++ r, subst (λ z. P z (b.0 ++ r)) (sym (append_assoc a.0 b.0 r)) (a.2 (b.0 ++ r)), b.2 r),
    )

or-proper : (P Q : Piece) → Proper P → Proper Q → Proper (P or Q)
or-proper P Q p q bs rest (inl w) = let a = p bs rest w in (a.0, a.1, λ r. inl (a.2 r))
or-proper P Q p q bs rest (inr w) = let a = q bs rest w in (a.0, a.1, λ r. inr (a.2 r))

many-proper : (P : Piece) → Proper P → Proper (Many P)
many-proper P p bs rest none = ([], refl, λ r. none)
many-proper P p bs rest (more {mid = mid} w ws) =
    let a = p bs mid w in
    let b = many-proper P p mid rest ws in (
      a.0 ++ b.0,
      joined-cut a.0 b.0 bs mid rest a.1 b.1,
      λ r. subst (λ z. Many P z r) (sym (append_assoc a.0 b.0 r)) (more (a.2 (b.0 ++ r)) (b.2 r)),
    )

spelled-proper : (p : ℕ → Bool) (w : List ℕ) → Proper (spelled p w)
spelled-proper p [] bs rest e = ([], e, λ r. refl)
spelled-proper p (b ∷ w) bs rest s =
    let a = spelled-proper p w s.0 rest s.3 in (b ∷ a.0, s.1 ∙ ap {B = List ℕ} (λ z. b ∷ z) a.1, λ r. (a.0 ++ r, refl, s.2, a.2 r))

-- the rules without a meaning
crlf-proper : Proper CRLF
crlf-proper = seq-proper (char 13) (char 10) (char-proper 13) (char-proper 10)

comment-proper : Proper comment
comment-proper =
    seq-proper (char 59) (Many (byte comment_byte) ⨾ CRLF) (char-proper 59)
    (seq-proper (Many (byte comment_byte)) CRLF (many-proper (byte comment_byte) (byte-proper comment_byte)) crlf-proper)

cnl-proper : Proper c-nl
cnl-proper = or-proper comment CRLF comment-proper crlf-proper

cwsp-proper : Proper c-wsp
cwsp-proper = or-proper (byte blank) (c-nl ⨾ byte blank) (byte-proper blank) (seq-proper c-nl (byte blank) cnl-proper (byte-proper blank))

blanks-proper : Proper (Many c-wsp)
blanks-proper = many-proper c-wsp cwsp-proper

-- names and literals
name-proper : (w : List ℕ) → Proper (rulename w)
name-proper [] bs rest e = absurd e
name-proper (b ∷ w) bs rest s =
    let a = spelled-proper name_byte w s.0 rest s.3 in (b ∷ a.0, s.1 ∙ ap {B = List ℕ} (λ z. b ∷ z) a.1, λ r. (a.0 ++ r, refl, s.2, a.2 r))

literal-proper : (w : List ℕ) → Proper (char_val w)
literal-proper [] bs rest e = absurd e
literal-proper (b ∷ w) bs rest s =
    seq-proper (char 34) (spelled literal_byte (b ∷ w) ⨾ char 34) (char-proper 34)
    (seq-proper (spelled literal_byte (b ∷ w)) (char 34) (spelled-proper literal_byte (b ∷ w)) (char-proper 34)) bs rest s

mutual
  pub element-proper : (p : Part) → Proper (element p)
  element-proper (named w) = name-proper w
  element-proper (quoted w) = literal-proper w
  element-proper (optional c) =
      seq-proper (char 91) (Many c-wsp ⨾ alternation c ⨾ Many c-wsp ⨾ char 93) (char-proper 91)
      (seq-proper (Many c-wsp) (alternation c ⨾ Many c-wsp ⨾ char 93) blanks-proper
      (seq-proper (alternation c) (Many c-wsp ⨾ char 93) (alternation-proper c) (seq-proper (Many c-wsp) (char 93) blanks-proper (char-proper 93))))

  pub concatenation-proper : (r : Row) → Proper (concatenation r)
  concatenation-proper (last p) = element-proper p
  concatenation-proper (next p r) =
      seq-proper (element p) (Some c-wsp ⨾ concatenation r) (element-proper p)
      (seq-proper (Some c-wsp) (concatenation r) (seq-proper c-wsp (Many c-wsp) cwsp-proper blanks-proper) (concatenation-proper r))

  pub alternation-proper : (c : Choice) → Proper (alternation c)
  alternation-proper (only r) = concatenation-proper r
  alternation-proper (either r c) =
      seq-proper (concatenation r) (Many c-wsp ⨾ char 47 ⨾ Many c-wsp ⨾ alternation c) (concatenation-proper r)
      (seq-proper (Many c-wsp) (char 47 ⨾ Many c-wsp ⨾ alternation c) blanks-proper
      (seq-proper (char 47) (Many c-wsp ⨾ alternation c) (char-proper 47) (seq-proper (Many c-wsp) (alternation c) blanks-proper (alternation-proper c))))

-- a rule, and a line without one
pub rule-proper : (d : Definition) → Proper (rule d)
rule-proper d =
    seq-proper (rulename d.name) (defined-as ⨾ elements d.choice ⨾ c-nl) (name-proper d.name)
    (seq-proper defined-as (elements d.choice ⨾ c-nl)
    (seq-proper (Many c-wsp) (char 61 ⨾ Many c-wsp) blanks-proper (seq-proper (char 61) (Many c-wsp) (char-proper 61) blanks-proper))
    (seq-proper (elements d.choice) c-nl (seq-proper (alternation d.choice) (Many c-wsp) (alternation-proper d.choice) blanks-proper) cnl-proper))

pub blank-line-proper : Proper (Many c-wsp ⨾ c-nl)
blank-line-proper = seq-proper (Many c-wsp) c-nl blanks-proper cnl-proper
