-- One turn of each loop that looks for a part, and where parts stand. Assumes nothing.
use Prim.Native.Nat.{ℕ, suc, max, ◌+◌, ◌-◌, ◌≤◌, ◌<◌}
use native.Mathlib.Numerals.{add-one}
use native.Mathlib.Omega.{arith}
use mathlib.Core.Path.{◌≡◌, refl, sym, ◌∙◌}
use mathlib.Core.List.{List, [], ◌∷◌}
use mathlib.Core.Bool.{Bool, true, false, ◌&&◌}
use lib.ListN.{length, get_or, take, drop}
use lib.Seq.{drop-cons, length-take-le, get_or-take}
use lib.Dec.{ltb, leb, eqb}
use borrow.Author.Tests.{lt-ltb, le-ltb, le-leb, lt-leb, leb-true, eq-eqb, ne_eqb}
use Rattle.cfg.specs.Reading.{pick}
use Rattle.abnf_tables.specs.Run.{Run, on, refused}
use Rattle.abnf_tables.specs.Words.{word, word_at, rank}
use Rattle.abnf_tables.specs.Tables.{Tables}
use Rattle.abnf_tables.specs.Says.{tables_of, tables_say, Sane, SaneBuilt, HeadIs, no_byte, a_byte}
use Rattle.abnf_tables.specs.declared.tables.Counts.{Counts}
use Rattle.abnf_tables.specs.declared.tables.Notes.{Notes}
use Rattle.std.specs.Result.{is_err}
use Rattle.abnf_tables.specs.declared.refused.Refused.{Refused}
use Rattle.std.specs.Prelude.{Result, Ok, Err, Option, None}
use Rattle.abnf_names.specs.declared.Within.{Within}
use Rattle.abnf_names.specs.declared.Within.TheVariants.{Rule}
use Rattle.abnf_tables.proofs.WordLaws.{drop_past}
use Rattle.abnf_rules.specs.Machine.{scanned, start}
use Rattle.abnf_names.specs.declared.TextPart.{TextPart}
use Rattle.abnf_names.specs.Parts.{part, no_part, word_part, name_numbered, state_after, opens, group_part, nonterminal_in, terminal_in, part_of, nonterminal_part, terminal_part, Inside}
use Rattle.abnf_names.specs.Noted.{part_says, NonterminalIn, TerminalIn, state_number}

-- ---- the end of a word

-- the bytes from `from` up to `at` belong to the word
pub record Ends (text : List ℕ) (q : Bool) (from at : ℕ) : Type 0 where
  pub most : at ≤ max (length text) from
  pub rest : at + length (word_at q text at) ≡ from + length (word_at q text from)

module _ (text : List ℕ) (q : Bool) (from : ℕ) where
  pub ends-start : Ends text q from from
  ends-start = record { most = omega arith; rest = refl }

  module _ (at : ℕ) (w : Ends text q from at) where
    pub ends-past : length text ≤ at → from ≤ at → max (length text) from ≡ from + length (word_at q text from)
    unfolding word
    ends-past h k = let e : at + 0 ≡ from + length (word_at q text from) = rw (drop_past text at h) at w.rest in omega (arith, w.most)

    pub ends-here : (h : ℕ) → HeadIs text q at h → h ≡ 0 → at ≡ from + length (word_at q text from)
    ends-here h (no_byte e v) z = let f : at + 0 ≡ from + length (word_at q text from) = rw v at w.rest in omega arith
    ends-here h (a_byte e k v) z = absurd (omega arith)

    pub ends_next : at < length text → (h : ℕ) → HeadIs text q at h → (h ≡ 0 → ⊥) → Ends text q from (at + 1)
    ends_next l h (no_byte e v) z = absurd (z e)
    ends_next l h (a_byte e k v) z =
        let f : at + suc (length (word_at q text (at + 1))) ≡ from + length (word_at q text from) = rw v at w.rest in
        record { most = omega arith; rest = omega arith }

module _ (text : List ℕ) (q : Bool) (from end : ℕ) (e : end ≡ from + length (word_at q text from)) where
  pub word-inside : end ≤ length text → part from end ≡ word_part q text from
  unfolding word_part
  word-inside h = rw (← e, le-leb end (length text) h)

  pub word-outside : length text < end → (r : TextPart) → r ≡ no_part → r ≡ word_part q text from
  unfolding word_part
  word-outside h r f = rw (← e, lt-leb end (length text) h) f

-- ---- a name by its number

-- the names before k have other numbers
pub record Seeks (text names : List ℕ) (number k : ℕ) : Type 0 where
  pub rest : name_numbered text names number (drop k names) ≡ name_numbered text names number names

module _ (text names : List ℕ) (number : ℕ) where
  pub seeks-start : Seeks text names number 0
  seeks-start = record { rest = refl }

  module _ (k : ℕ) (w : Seeks text names number k) where
    pub seeks-end : length names ≤ k → no_part ≡ name_numbered text names number names
    unfolding name_numbered
    seeks-end h = rw (drop_past names k h) at w.rest

    module _ (from before i : ℕ) (h : k < length names) (e : from ≡ get_or names k 0) (b : before ≡ rank text from names) (j : i ≡ number) where
      opened : pick (eqb before i) (word_part false text from) (name_numbered text names number (drop (k + 1) names)) ≡ name_numbered text names number names
      unfolding name_numbered
      opened = rw (j, b, e, add-one) (rw (drop-cons names k 0 h) at w.rest)

      pub seeks-here : before ≡ i → (r : TextPart) → r ≡ word_part false text from → r ≡ name_numbered text names number names
      seeks-here z r f = f ∙ (rw (eq-eqb before i z) at opened)

      pub seeks-next : (before ≡ i → ⊥) → Seeks text names number (k + 1)
      seeks-next z = record { rest = rw (ne_eqb before i z) at opened }

-- ---- "[" of a group

-- what is left of the text, from a place on, has the group
pub record Counts-down (text : List ℕ) (goal : TextPart) (state : Within) (g at : ℕ) : Type 0 where
  pub rest : group_part (state_number state) g at (drop at text) ≡ goal

module _ (text : List ℕ) where
  pub down-start : (g : ℕ) → Counts-down text (group_part 0 g 0 text) Rule g 0
  down-start g = record { rest = refl }

  module _ (goal : TextPart) (state : Within) (g at : ℕ) (w : Counts-down text goal state g at) where
    pub down-end : length text ≤ at → no_part ≡ goal
    unfolding group_part
    down-end h = rw (drop_past text at h) at w.rest

    module _ (h : at < length text) where
      abbrev b : ℕ
      b = get_or text at 0

      abbrev n : ℕ
      n = state_number state

      turned : pick (opens n b && eqb g 0) (part at (at + 1)) (group_part (state_after n b) (pick (opens n b) (g - 1) g) (at + 1) (drop (at + 1) text)) ≡ goal
      unfolding group_part
      turned =
          let d : drop at text ≡ b ∷ drop (at + 1) text = rw add-one (drop-cons text at 0 h) in
          rw d at w.rest

      module _ (t : Bool) (e : t ≡ opens n b) where
        pub down-here : t ≡ true → g ≡ 0 → part at (at + 1) ≡ goal
        down-here o z = rw (← e, o, eq-eqb g 0 z) at turned

        pub down-group : t ≡ true → (g ≡ 0 → ⊥) → (x : Within) → state_number x ≡ state_after n b → Counts-down text goal x (g - 1) (at + 1)
        down-group o z x f = record { rest = rw f (rw (← e, o, ne_eqb g 0 z) at turned) }

        pub down-other : t ≡ false → (x : Within) → state_number x ≡ state_after n b → Counts-down text goal x g (at + 1)
        down-other o x f = record { rest = rw f (rw (← e, o) at turned) }

-- ---- parts stand in their text

inside-if : (text : List ℕ) (b : Bool) (x y : TextPart) → (b ≡ true → Inside text x) → Inside text y → Inside text (pick b x y)
inside-if text true x y f h = f refl
inside-if text false x y f h = h

pub none_inside : (text : List ℕ) → Inside text no_part
none_inside text = record { order = omega arith; inside = omega arith }

word_in : (q : Bool) (text : List ℕ) (from : ℕ) → Inside text (word_part q text from)
unfolding word_part
word_in q text from =
    inside-if text (leb (from + length (word_at q text from)) (length text)) (part from (from + length (word_at q text from))) no_part
    (λ e. record { order = omega arith; inside = leb-true (from + length (word_at q text from)) (length text) e }) (none_inside text)

name_in : (text names : List ℕ) (number : ℕ) (fs : List ℕ) → Inside text (name_numbered text names number fs)
unfolding name_numbered
name_in text names number [] = none_inside text
name_in text names number (f ∷ fs) = inside-if text (eqb (rank text f names) number) (word_part false text f) (name_numbered text names number fs) (λ e. word_in false text f) (name_in text names number fs)

group-in : (text : List ℕ) (state g at : ℕ) (bs : List ℕ) → at + length bs ≡ length text → Inside text (group_part state g at bs)
unfolding group_part
group-in text state g at [] h = none_inside text
group-in text state g at (b ∷ bs) h =
    inside-if text (opens state b && eqb g 0) _ _ (λ e. record { order = omega arith; inside = omega arith }) (group-in text (state_after state b) (pick (opens state b) (g - 1) g) (at + 1) bs (omega arith))

nonterminal-inside : (text : List ℕ) (i : ℕ) → Inside text (nonterminal_part text i)
unfolding nonterminal_part nonterminal_in
nonterminal-inside text i = by (scanned text 0 text start)
  where
    by : (r : Run Tables) → Inside text (part_of r (nonterminal_in text i))
    by (on t) =
        inside-if text (ltb i (length t.names)) _ _ (λ e. name_in text t.names i t.names)
        (inside-if text (ltb i (length t.names + t.groups)) _ _ (λ e. group-in text 0 (i - length t.names) 0 text (omega arith)) (none_inside text))
    by (refused n p) = none_inside text

terminal-inside : (text : List ℕ) (x : ℕ) → Inside text (terminal_part text x)
unfolding terminal_part terminal_in
terminal-inside text x = by (scanned text 0 text start)
  where
    by : (r : Run Tables) → Inside text (part_of r (terminal_in text x))
    by (on t) = inside-if text (leb 5 x && ltb (x - 5) (length t.literals)) _ _ (λ e. word_in true text (get_or t.literals (x - 5) 0)) (none_inside text)
    by (refused n p) = none_inside text

-- ---- what is noted

module _ (text ns : List ℕ) (c : Counts) (i : ℕ) (asked : (c.names + c.groups ≤ 128) × (c.names ≤ length ns)) where
  names-length : length (take c.names ns) ≡ c.names
  names-length = length-take-le c.names ns asked.1

  pub by_name : i < c.names → (k : ℕ) → k ≡ c.names → (r : Option TextPart) → part_says r ≡ name_numbered text (take k ns) i (take k ns) → NonterminalIn text c i r ns
  unfolding nonterminal_in
  by_name h k e r f = record { says = λ t names groups. rw (names, groups, names-length, lt-ltb i c.names h, ← e) f }

  module _ (h : c.names ≤ i) where
    pub by-group : i < c.names + c.groups → (r : Option TextPart) → part_says r ≡ group_part 0 (i - c.names) 0 text → NonterminalIn text c i r ns
    unfolding nonterminal_in
    by-group k r f = record { says = λ t names groups. rw (names, groups, names-length, le-ltb i c.names h, lt-ltb i (c.names + c.groups) k) f }

    pub by-none : c.names + c.groups ≤ i → NonterminalIn text c i None ns
    unfolding nonterminal_in
    by-none k = record { says = λ t names groups. rw (names, groups, names-length, le-ltb i c.names h, le-ltb i (c.names + c.groups) k) }

module _ (text ls : List ℕ) (c : Counts) (x : ℕ) where
  pub low-number : x < 5 → TerminalIn text c x None ls
  unfolding terminal_in
  low-number h = record { says = λ t literals. rw (lt-leb 5 x h) }

  module _ (room : c.literals ≤ length ls) (h : 5 ≤ x) where
    literals-length : length (take c.literals ls) ≡ c.literals
    literals-length = length-take-le c.literals ls room

    pub by-literal : x - 5 < c.literals → (k from : ℕ) → k ≡ x - 5 → from ≡ get_or ls k 0 → (r : Option TextPart) → part_says r ≡ word_part true text from → TerminalIn text c x r ls
    unfolding terminal_in
    by-literal l k from f g r u =
        let s : get_or (take c.literals ls) (x - 5) 0 ≡ from = get_or-take c.literals ls (x - 5) 0 l ∙ rw (← f) (sym g) in
        record { says = λ t literals. rw (literals, le-leb 5 x h, literals-length, s, lt-ltb (x - 5) c.literals l) u }

    pub high-number : c.literals ≤ x - 5 → TerminalIn text c x None ls
    unfolding terminal_in
    high-number l = record { says = λ t literals. rw (literals, le-leb 5 x h, literals-length, le-ltb (x - 5) c.literals l) }

-- ---- the whole text

module _ (text : List ℕ) (n : Notes) (b : Result (Unit {0}) Refused) (says : tables_say b n ≡ scanned text 0 text start) (i : ℕ) (t : Bool) (d : t ≡ is_err b) where
  pub refused-nonterminal : t ≡ true → no_part ≡ nonterminal_part text i
  unfolding nonterminal_part
  refused-nonterminal e = by b says (sym d ∙ e)
    where
      by : (b : Result (Unit {0}) Refused) → tables_say b n ≡ scanned text 0 text start → is_err b ≡ true → no_part ≡ part_of (scanned text 0 text start) (nonterminal_in text i)
      by (Ok u) s z = cc
      by (Err x) s z = rw (← s)

  pub refused-terminal : t ≡ true → no_part ≡ terminal_part text i
  unfolding terminal_part
  refused-terminal e = by b says (sym d ∙ e)
    where
      by : (b : Result (Unit {0}) Refused) → tables_say b n ≡ scanned text 0 text start → is_err b ≡ true → no_part ≡ part_of (scanned text 0 text start) (terminal_in text i)
      by (Ok u) s z = cc
      by (Err x) s z = rw (← s)

  module _ (e : t ≡ false) where
    done : tables_say b n ≡ on (tables_of n)
    done = by b (sym d ∙ e)
      where
        by : (b : Result (Unit {0}) Refused) → is_err b ≡ false → tables_say b n ≡ on (tables_of n)
        by (Ok u) z = refl
        by (Err x) z = cc

    pub whole-nonterminal : (r : Option TextPart) → NonterminalIn text n.counts i r n.names → part_says r ≡ nonterminal_part text i
    unfolding nonterminal_part
    whole-nonterminal r w = rw (← says, done) (w.says (tables_of n) refl refl)

    pub whole-terminal : (r : Option TextPart) → TerminalIn text n.counts i r n.literals → part_says r ≡ terminal_part text i
    unfolding terminal_part
    whole-terminal r w = rw (← says, done) (w.says (tables_of n) refl)

    pub nonterminal-in-text : (r : Option TextPart) → NonterminalIn text n.counts i r n.names → Inside text (part_says r)
    nonterminal-in-text r w = rw (whole-nonterminal r w) (nonterminal-inside text i)

    pub terminal-in-text : (r : Option TextPart) → TerminalIn text n.counts i r n.literals → Inside text (part_says r)
    terminal-in-text r w = rw (whole-terminal r w) (terminal-inside text i)

    module _ (sane : SaneBuilt 0 b n) where
      kept : Sane 0 n.counts
      kept = by b (sym d ∙ e) sane
        where
          by : (b : Result (Unit {0}) Refused) → is_err b ≡ false → SaneBuilt 0 b n → Sane 0 n.counts
          by (Ok u) z s = s
          by (Err x) z s = cc

      pub names-few : n.counts.names + n.counts.groups ≤ 128
      names-few = kept.names

      pub literals-few : n.counts.literals ≤ 4089
      literals-few = kept.literals

      pub names-inside : length n.names ≡ 128 → n.counts.names ≤ length n.names
      names-inside room = let few = names-few in omega arith

      pub literals-inside : length n.literals ≡ 4089 → n.counts.literals ≤ length n.literals
      literals-inside room = let few = literals-few in omega arith
