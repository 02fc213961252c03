-- The subset of RFC 5234 that a register's text may use, rule by rule as its section 4 has them, with what each text means. A rule of the RFC is
-- a relation of two texts: the first is such a piece and then the second. What is left out: groups in parentheses, repetition, "=/", num-val and
-- prose-val. What is narrower: a literal has at least one byte, and a text at least one rule. Assumes nothing.
use Rattle.std.specs.Prelude.{ℕ, ◌≤◌, List, [], ◌∷◌, map, Bool, true, ◌≡◌, ◌⊎◌, length}
use Rattle.abnf_tables.specs.Bytes.{blank, letter, name_byte, literal_byte, comment_byte, lower}

-- ---- what a text means

mutual
  -- a name or a literal by its bytes, or an option by what stands in it
  pub data Part : Type 0 where
    named : List ℕ → Part
    quoted : List ℕ → Part
    optional : Choice → Part

  -- parts one behind the other
  pub data Row : Type 0 where
    last : Part → Row
    next : Part → Row → Row

  -- alternatives
  pub data Choice : Type 0 where
    only : Row → Choice
    either : Row → Choice → Choice

-- a name, and what it is defined as
pub record Definition : Type 0 where
  pub name : List ℕ
  pub choice : Choice

-- ---- the RFC's signs

-- the first text is a piece and then the second
abbrev pub Piece : Type 1
Piece = List ℕ → List ℕ → Type 0

-- a byte of a kind, and a byte
abbrev pub byte : (ℕ → Bool) → Piece
byte p bs rest = (b : ℕ) × (bs ≡ b ∷ rest) × (p b ≡ true)

abbrev pub char : ℕ → Piece
char c bs rest = bs ≡ c ∷ rest

infixr 20 ◌⨾◌
-- one behind the other
abbrev pub ◌⨾◌ : Piece → Piece → Piece
◌⨾◌ P Q bs rest = (mid : List ℕ) × P bs mid × Q mid rest

infixr 10 ◌or◌
-- one or the other
abbrev pub ◌or◌ : Piece → Piece → Piece
◌or◌ P Q bs rest = P bs rest ⊎ Q bs rest

-- *P and 1*P
pub data Many (P : List ℕ → List ℕ → Type 0) : List ℕ → List ℕ → Type 0 where
  none : {bs : List ℕ} → Many P bs bs
  more : {bs mid rest : List ℕ} → P bs mid → Many P mid rest → Many P bs rest

abbrev pub Some : Piece → Piece
Some P = P ⨾ Many P

-- the bytes w, each of a kind
abbrev pub spelled : (ℕ → Bool) → List ℕ → Piece
spelled p [] bs rest = bs ≡ rest
spelled p (b ∷ w) bs rest = (mid : List ℕ) × (bs ≡ b ∷ mid) × (p b ≡ true) × spelled p w mid rest

-- ---- the RFC's rules

abbrev pub WSP : Piece
WSP = byte blank

abbrev pub CRLF : Piece
CRLF = char 13 ⨾ char 10

-- comment = ";" *(WSP / VCHAR) CRLF
abbrev pub comment : Piece
comment = char 59 ⨾ Many (byte comment_byte) ⨾ CRLF

-- c-nl = comment / CRLF
abbrev pub c-nl : Piece
c-nl = comment or CRLF

-- c-wsp = WSP / (c-nl WSP)
abbrev pub c-wsp : Piece
c-wsp = WSP or c-nl ⨾ WSP

-- rulename = ALPHA *(ALPHA / DIGIT / "-")
abbrev pub rulename : List ℕ → Piece
rulename [] bs rest = ⊥
rulename (b ∷ w) bs rest = (mid : List ℕ) × (bs ≡ b ∷ mid) × (letter b ≡ true) × spelled name_byte w mid rest

-- char-val = DQUOTE 1*(%x20-21 / %x23-7E) DQUOTE; the RFC has * for 1*
abbrev pub char_val : List ℕ → Piece
char_val [] bs rest = ⊥
char_val (b ∷ w) bs rest = (char 34 ⨾ spelled literal_byte (b ∷ w) ⨾ char 34) bs rest

abbrev mutual
  -- element = rulename / option / char-val
  pub element : Part → Piece
  element (named w) = rulename w
  element (quoted w) = char_val w
  -- option = "[" *c-wsp alternation *c-wsp "]"
  element (optional c) = char 91 ⨾ Many c-wsp ⨾ alternation c ⨾ Many c-wsp ⨾ char 93

  -- concatenation = element *(1*c-wsp element)
  pub concatenation : Row → Piece
  concatenation (last p) = element p
  concatenation (next p r) = element p ⨾ Some c-wsp ⨾ concatenation r

  -- alternation = concatenation *(*c-wsp "/" *c-wsp concatenation)
  pub alternation : Choice → Piece
  alternation (only r) = concatenation r
  alternation (either r c) = concatenation r ⨾ Many c-wsp ⨾ char 47 ⨾ Many c-wsp ⨾ alternation c

-- defined-as = *c-wsp "=" *c-wsp
abbrev pub defined-as : Piece
defined-as = Many c-wsp ⨾ char 61 ⨾ Many c-wsp

-- elements = alternation *c-wsp
abbrev pub elements : Choice → Piece
elements c = alternation c ⨾ Many c-wsp

-- rule = rulename defined-as elements c-nl
abbrev pub rule : Definition → Piece
rule d = rulename d.name ⨾ defined-as ⨾ elements d.choice ⨾ c-nl

-- *(rule / (*c-wsp c-nl)), to the end of the text
pub data Lines : List Definition → List ℕ → Type 0 where
  end : Lines [] []
  rules : {d : Definition} {ds : List Definition} {bs rest : List ℕ} → rule d bs rest → Lines ds rest → Lines (d ∷ ds) bs
  blanks : {ds : List Definition} {bs rest : List ℕ} → (Many c-wsp ⨾ c-nl) bs rest → Lines ds rest → Lines ds bs

-- rulelist = 1*(rule / (*c-wsp c-nl)), of which one at least is a rule
abbrev pub Rulelist : List Definition → List ℕ → Type 0
Rulelist ds text = (1 ≤ length ds) × Lines ds text

-- ---- names are compared without case

-- the names that are defined, without case
abbrev pub defines : List Definition → List (List ℕ)
defines ds = map (λ d. map lower d.name) ds

-- x is none of the words
abbrev pub NoneOf : List ℕ → List (List ℕ) → Type 0
NoneOf x [] = Unit {0}
NoneOf x (w ∷ ws) = ¬ (x ≡ w) × NoneOf x ws

-- no word stands there twice
abbrev pub Different : List (List ℕ) → Type 0
Different [] = Unit {0}
Different (w ∷ ws) = NoneOf w ws × Different ws

-- the text is a rulelist, and no name is defined twice
abbrev pub InSubset : List ℕ → Type 0
InSubset text = (ds : List Definition) × Rulelist ds text × Different (defines ds)
