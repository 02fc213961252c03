-- When a text passes a limit (20), in the words of the rules: the bytes before one are read without a refusal, and that one is too many of something,
-- which counts at its own first byte. Assumes nothing.
use Rattle.std.specs.Prelude.{ℕ, zero, suc, ◌+◌, ◌≤◌, ◌<◌, List, map, Bool, true, false, ◌≡◌, ◌⊎◌, length, get_or, leb}
use Rattle.cfg.specs.Reading.{pick}
use Rattle.abnf_tables.specs.Run.{Run, on, ◌then◌}
use Rattle.abnf_tables.specs.Bytes.{letter, name_byte, literal_byte}
use Rattle.abnf_tables.specs.Words.{word_at}
use Rattle.abnf_tables.specs.Tables.{Tables}
use Rattle.abnf_rules.specs.declared.machine.Mode.TheVariants.{Naming, Want, Name, Quote, Spaced}
use Rattle.abnf_rules.specs.declared.machine.Line.TheVariants.{Inside}
use Rattle.abnf_rules.specs.Machine.{State, start, step}
use Rattle.abnf_grammar.specs.Subset.{NoneOf}

-- where the first i bytes of a text lead, one after the other
unfoldable pub read_to : List ℕ → ℕ → Run State
read_to text zero = on start
read_to text (suc i) = read_to text i then λ s. step text i (get_or text i 0) s.line s.mode s.tables

-- the name that begins at p is in hand, the literal whose quote is at p is, or an element may begin
abbrev pub InName : State → ℕ → Type 0
InName s p = (s.line ≡ Inside) × ((s.mode ≡ Naming p) ⊎ (s.mode ≡ Name p))

abbrev pub InLiteral : State → ℕ → Type 0
InLiteral s p = (s.line ≡ Inside) × (s.mode ≡ Quote p)

abbrev pub Awaits : State → Type 0
Awaits s = (s.line ≡ Inside) × ((s.mode ≡ Want) ⊎ (s.mode ≡ Spaced))

-- an element begins with byte b, where c is behind it: a name, a literal that is not empty, or a group
abbrev pub Begins : ℕ → ℕ → Type 0
Begins b c = (letter b ≡ true) ⊎ (((b ≡ 34) × ¬ (c ≡ 34)) ⊎ (b ≡ 91))

-- the word at p is none of those at some places
abbrev pub New : Bool → List ℕ → ℕ → List ℕ → Type 0
New quoted text p places = NoneOf (word_at quoted text p) (map (word_at quoted text) places)

-- an alternative's first element is a production more
abbrev pub own : Tables → ℕ
own t = pick (leb 1 t.size) 0 1

-- byte b at place i, in a state with these tables, is too many of something, which counts at p
pub data Passes (text : List ℕ) (i b : ℕ) (s : State) (p : ℕ) : Type 0 where
  -- bytes of a name or of a literal: 64, which stand before this one
  long-name : InName s p → name_byte b ≡ true → p + 64 ≤ i → Passes text i b s p
  long-literal : InLiteral s p → literal_byte b ≡ true → p + 1 + 64 ≤ i → Passes text i b s p
  -- names and groups: 128, where a new name ends, or a group begins
  name : InName s p → name_byte b ≡ false → New false text p s.tables.names → 128 < length s.tables.names + 1 + s.tables.groups → Passes text i b s p
  group : Awaits s → b ≡ 91 → p ≡ i → 128 < length s.tables.names + (s.tables.groups + 1) → Passes text i b s p
  -- literals: 4,089, where a new one ends
  literal : InLiteral s p → b ≡ 34 → New true text (p + 1) s.tables.literals → 4089 < length s.tables.literals + 1 → Passes text i b s p
  -- productions: 512, where an alternative's first element begins, or a group, whose empty one counts too
  production : Awaits s → Begins b (get_or text (i + 1) 0) → p ≡ i → s.tables.size ≡ 0 → 512 < s.tables.productions + 1 → Passes text i b s p
  empty-production : Awaits s → b ≡ 91 → p ≡ i → 512 < s.tables.productions + own s.tables + 1 → Passes text i b s p
  -- symbols: 64 of one right side, 4,096 in all, where an element begins
  right_side : Awaits s → Begins b (get_or text (i + 1) 0) → p ≡ i → 64 < s.tables.size + 1 → Passes text i b s p
  symbols : Awaits s → Begins b (get_or text (i + 1) 0) → p ≡ i → 4096 < s.tables.symbols + 1 → Passes text i b s p

-- the text passes a limit at p, and nothing before is refused: its own of 32,768 bytes, or one of the above
pub data Limit (text : List ℕ) (p : ℕ) : Type 0 where
  long-text : (i : ℕ) (s : State) → read_to text i ≡ on s → i < length text → i ≡ 32768 → p ≡ i → Limit text p
  at_byte : (i : ℕ) (s : State) → read_to text i ≡ on s → i < length text → i < 32768 → Passes text i (get_or text i 0) s p → Limit text p
