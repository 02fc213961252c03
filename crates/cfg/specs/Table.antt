-- The grammar table, in reading order. Assumes nothing.
use Rattle.std.specs.Prelude.{ℕ, zero, suc, ◌+◌, ◌*◌, ◌-◌, ◌/◌, ◌%◌, min, ◌≤◌, List, [], ◌∷◌, ◌++◌, Bool, ◌&&◌, ◌≡◌, refl, Result, Ok, Err, length, take, ltb, leb, eqb}
use Rattle.cfg.specs.Reading.{Reading, got, refused, pick, ◌then◌}
use Rattle.cfg.specs.Number.{number}
use Rattle.refusals.specs.Numbers.{number as number_of}
use Rattle.refusals.specs.declared.Refusal.{Refusal}
use Rattle.cfg.specs.declared.table.Read.{Read}
use Rattle.cfg.specs.declared.table.Shape.{Shape}
use Rattle.cfg.specs.declared.table.Table.{Table}
use Rattle.cfg.specs.Words.{Sound}
use Rattle.cfg.specs.Grammar.{Grammar, nonterminal, terminal}
use Rattle.cfg.specs.Written.{productions_of}

-- a number from `least` to `most`, or refusal `r`
abbrev pub field : List ℕ → ℕ → ℕ → ℕ → ℕ → Reading ℕ
field b r least most at =
    number b at then λ v next. pick (leb least v && leb v most) (got v next) (refused r)

-- 2i with i below n, or 2x + 1 with x from 5 to t + 4
abbrev pub is_symbol : ℕ → ℕ → ℕ → Bool
is_symbol n t c = pick (eqb (c % 2) 0) (ltb (c / 2) n) (leb 5 (c / 2) && leb (c / 2) (t + 4))

abbrev pub symbol : List ℕ → ℕ → ℕ → ℕ → Reading ℕ
symbol b n t at = number b at then λ c next. pick (is_symbol n t c) (got c next) (refused 6)

-- `count` symbols, put behind the words read so far
unfoldable pub symbols : List ℕ → ℕ → ℕ → ℕ → List ℕ → ℕ → Reading (List ℕ)
symbols b n t zero ws at = got ws at
symbols b n t (suc count) ws at =
    symbol b n t at then λ c next. symbols b n t count (ws ++ (c ∷ [])) next

-- one production: its left side, its length, which keeps the symbols in all at most 4,096, and its symbols; `total` symbols were read before it
abbrev pub production : List ℕ → ℕ → ℕ → ℕ → List ℕ → ℕ → Reading (List ℕ)
production b n t total ws at =
    field b 6 0 (n - 1) at then λ left next.
    field b 5 0 (min 64 (4096 - total)) next then λ size next.
    symbols b n t size (ws ++ (left ∷ size ∷ [])) next

-- `p` productions, the first of them number `i`: what is read so far has 2i words that are no symbols
unfoldable pub productions : List ℕ → ℕ → ℕ → ℕ → ℕ → List ℕ → ℕ → Reading (List ℕ)
productions b n t i zero ws at = got ws at
productions b n t i (suc p) ws at =
    production b n t (length ws - 2 * i) ws at then λ ws next. productions b n t (i + 1) p ws next

-- an answer whose value tells how many words are in use
abbrev pub says_words : Result (Read ℕ) Refusal → List ℕ → Reading (List ℕ)
says_words (Ok read) words = got (take read.value words) read.next
says_words (Err e) words = refused (number_of e)

-- such an answer's value lies between two bounds
abbrev pub UsesBetween : Result (Read ℕ) Refusal → ℕ → ℕ → Type 0
UsesBetween (Ok read) least most = (least ≤ read.value) × (read.value ≤ most)
UsesBetween (Err e) least most = Unit {0}

-- nothing may follow
abbrev pub ends : {A : Type 0} → List ℕ → A → ℕ → Reading A
ends b a at = pick (eqb at (length b)) (got a at) (refused 7)

pub record Header : Type 0 where
  pub n : ℕ
  pub t : ℕ
  pub start : ℕ
  pub p : ℕ

-- the four numbers before the productions
abbrev pub header : List ℕ → Reading Header
header b =
    field b 5 1 128 0 then λ n next.
    field b 5 0 4089 next then λ t next.
    field b 6 0 (n - 1) next then λ start next.
    field b 5 0 512 next then λ p next.
    got (record { n = n; t = t; start = start; p = p }) next

-- a header that is read keeps its limits
abbrev pub HeaderInside : Result (Read Shape) Refusal → Type 0
HeaderInside (Ok read) = (1 ≤ read.value.n) × (read.value.n ≤ 128) × (read.value.t ≤ 4089) × (read.value.p ≤ 512)
HeaderInside (Err e) = Unit {0}

-- the grammar whose productions stand in some words
abbrev pub grammar_of : Header → List ℕ → Grammar
grammar_of h ws = record { n = h.n; t = h.t; start = h.start; productions = productions_of h.p ws }

-- the table, whole
unfoldable pub read_table : List ℕ → Reading Grammar
read_table b =
    header b then λ h next.
    productions b h.n h.t 0 h.p [] next then λ ws next.
    ends b (grammar_of h ws) next

-- what the header's and the table's answers say
abbrev pub header_of : Shape → Header
header_of s = record { n = s.n; t = s.t; start = s.start; p = s.p }

abbrev pub header_says : Result (Read Shape) Refusal → Reading Header
header_says (Ok read) = got (header_of read.value) read.next
header_says (Err e) = refused (number_of e)

abbrev pub table_says : Result Table Refusal → ℕ → List ℕ → Reading Grammar
table_says (Ok table) end words = got (grammar_of (header_of table.shape) (take table.used words)) end
table_says (Err e) end words = refused (number_of e)

-- a grammar that is read keeps its limits, and its words are sound
pub record GrammarSound (n p used : ℕ) (words : List ℕ) : Type 0 where
  pub nonterminals : n ≤ 128
  pub productions : p ≤ 512
  pub inside : used ≤ length words
  pub sound : Sound n p (take used words)

abbrev pub TableSound : Result Table Refusal → List ℕ → Type 0
TableSound (Ok table) words = GrammarSound table.shape.n table.shape.p table.used words
TableSound (Err e) words = Unit {0}

-- S → 5 V; V → 6; V → nothing
listing-table : read_table (2 ∷ 2 ∷ 0 ∷ 3 ∷ 0 ∷ 2 ∷ 0x0B ∷ 2 ∷ 1 ∷ 1 ∷ 0x0D ∷ 1 ∷ 0 ∷ [])
    ≡ got
    (record {
      n = 2;
      t = 2;
      start = 0;
      productions =
          record { left = 0; right = terminal 5 ∷ nonterminal 1 ∷ [] }
          ∷ record { left = 1; right = terminal 6 ∷ [] }
          ∷ record { left = 1; right = [] }
          ∷ [];
    })
    13
unfolding read_table productions symbols
listing-table = refl

-- exercise j, S → S and S → S | 5; exercise l, S → nothing
unproductive-table : read_table (1 ∷ 1 ∷ 0 ∷ 1 ∷ 0 ∷ 1 ∷ 0 ∷ []) ≡ got (record { n = 1; t = 1; start = 0; productions = record { left = 0; right = nonterminal 0 ∷ [] } ∷ [] }) 7
unfolding read_table productions symbols
unproductive-table = refl

empty-table : read_table (1 ∷ 0 ∷ 0 ∷ 1 ∷ 0 ∷ 0 ∷ []) ≡ got (record { n = 1; t = 0; start = 0; productions = record { left = 0; right = [] } ∷ [] }) 6
unfolding read_table productions symbols
empty-table = refl

-- each refusal of the table once: cut short, a number too long, n = 0, a symbol too large, a byte left over
cut_short : read_table (1 ∷ 0 ∷ 0 ∷ 1 ∷ 0 ∷ []) ≡ refused 3
unfolding read_table productions symbols
cut_short = refl

too_long : read_table (1 ∷ 0x80 ∷ 0x80 ∷ 0 ∷ []) ≡ refused 4
unfolding read_table productions symbols
too_long = refl

no-nonterminal : read_table (0 ∷ 0 ∷ 0 ∷ 0 ∷ []) ≡ refused 5
unfolding read_table productions symbols
no-nonterminal = refl

symbol-outside : read_table (1 ∷ 1 ∷ 0 ∷ 1 ∷ 0 ∷ 1 ∷ 13 ∷ []) ≡ refused 6
unfolding read_table productions symbols
symbol-outside = refl

left_over : read_table (1 ∷ 0 ∷ 0 ∷ 1 ∷ 0 ∷ 0 ∷ 0 ∷ []) ≡ refused 7
unfolding read_table productions symbols
left_over = refl
