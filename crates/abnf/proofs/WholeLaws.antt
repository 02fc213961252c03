-- The table of what was noted, and of a text. Assumes nothing.
use Prim.Native.Nat.{ℕ, zero, suc, ◌+◌, ◌≤◌, ◌<◌}
use native.Mathlib.Omega.{arith}
use mathlib.Core.Path.{◌≡◌, refl, sym, ap, ◌∙◌}
use mathlib.Core.List.{List, [], ◌∷◌, ◌++◌}
use lib.ListN.{length, get_or, take, drop, length-take, take-append-drop}
use lib.Seq.{length-take-le, get_or-take}
use Rattle.cfg.specs.Write.{write_numbers, write_table, all_numbers}
use Rattle.abnf_tables.specs.Run.{Run, on}
use Rattle.abnf_rules.specs.Machine.{scanned, start}
use Rattle.abnf.specs.Numbering.{missing, number_of, productions_from, grammar_of}
use Rattle.abnf.specs.Abnf.{read_rules, table_of, answer_of, bytes_after, ReadsAbnf}
use Rattle.abnf_tables.specs.Says.{tables_of, tables_say, Sane, SaneBuilt}
use Rattle.abnf.specs.Writes.{table_says, Kept, unless_missed, FirstMissing, PutsAll, AllBelow, WritesTable, Numbered, Scanned, table_bytes}
use Rattle.abnf.specs.declared.grammar.Put.{Put}
use Rattle.abnf_tables.specs.declared.refused.Refused.{Refused}
use Rattle.refusals.specs.declared.Refusal.TheVariants.{Undefined}
use Rattle.std.specs.Prelude.{Option, Some, None, Result, Ok, Err}
use Rattle.std.specs.Result.{IsErrAnd}
use Rattle.abnf_tables.proofs.TableLaws.{passed-on}
use Rattle.abnf_tables.specs.declared.tables.Counts.{Counts}
use Rattle.abnf_tables.specs.declared.tables.Notes.{Notes}
use Rattle.abnf_rules.proofs.Bounds.{Bounded, text-kept, kept-bounded}
use Rattle.abnf.proofs.Counting.{numbers_fit, numbers-small}

-- ---- the table of what was noted

module _ (text : List ℕ) (c : Counts) (names lefts items : List ℕ) (w : Numbered text c names lefts items) where
  pub start_small : (x : ℕ) → x ≡ get_or lefts 0 0 → x < 32768
  start_small x e = rw e (w.below 0)

  module _ (p : Put) (ns ms : List ℕ) (v : PutsAll p 0 ns ms (productions_from text names items 0 lefts)) (i : ℕ) (e : i ≡ p.used) where
    put-numbers : take i ms ≡ all_numbers (productions_from text names items 0 lefts)
    put-numbers = rw e v.puts.says

    pub put-size : i ≡ length (take i ms)
    put-size = rw put-numbers (omega (arith, v.puts.end))

    pub put_small : AllBelow 32768 (take i ms)
    put_small = rw put-numbers w.small

    pub put-few : length (take i ms) ≤ 9600
    put-few = rw put-numbers w.numbers

    module _ (x : ℕ) (f : x ≡ get_or lefts 0 0) (s : ℕ) (g : (s ≡ number_of text names x) × (s < 32768)) where
      pub header-small : AllBelow 32768 ((c.names + c.groups) ∷ c.literals ∷ s ∷ p.count ∷ [])
      header-small zero = omega (arith, w.limits)
      header-small (suc zero) = omega (arith, w.terminals)
      header-small (suc (suc zero)) = g.1
      header-small (suc (suc (suc zero))) = omega (arith, v.few, v.puts.end, w.numbers)
      header-small (suc (suc (suc (suc j)))) = omega arith

      pub table-bytes : (r : Result ℕ Refused) (out out' : List ℕ) → WritesTable r out out' (write_numbers (((c.names + c.groups) ∷ c.literals ∷ s ∷ p.count ∷ []) ++ take i ms)) → WritesTable r out out' (table_bytes text c names lefts items)
      unfolding table_bytes write_table grammar_of
      table-bytes r out out' u =
          let h : s ≡ number_of text names (get_or lefts 0 0) = g.0 ∙ rw f in
          rw (put-numbers, v.count, h) at u

-- ---- the table of a text

module _ (text : List ℕ) (n : Notes) (b : Result (Unit {0}) Refused) (says : tables_say b n ≡ scanned text 0 text start) where
  module _ (e : Refused) (f : b ≡ Err e) (r : Result ℕ Refused) (h : IsErrAnd r (λ f. f ≡ e)) where
    pub whole-refused : (out : List ℕ) → table_says r out ≡ table_of text (length out)
    unfolding table_of read_rules
    whole-refused out = rw (passed-on r e h, ← says, f)

    pub refused-kept : (out : List ℕ) → Kept r out out
    refused-kept out = rw (passed-on r e h) refl

  pub whole-scanned : b ≡ Ok tt → SaneBuilt 0 b n → Scanned text n
  whole-scanned e s = record { says = sym says ∙ rw e; sane = rw e at s }

module _ (text : List ℕ) (n : Notes) (w : Scanned text n) (room-names : length n.names ≡ 128) (room-literals : length n.literals ≡ 4089) (room-lefts : length n.lefts ≡ 128) (room-items : length n.items ≡ 4608) where
  abbrev c : Counts
  c = n.counts

  pub lefts-inside : c.lefts ≤ length n.lefts
  lefts-inside = let s = w.sane in omega (arith, s.lefts, room-lefts)

  pub names-part : (i : ℕ) → i ≡ c.names → i ≤ length n.names
  names-part i e = let s = w.sane in omega (arith, s.names, room-names)

  pub lefts-part : (i : ℕ) → i ≡ c.lefts → i ≤ length n.lefts
  lefts-part i e = let s = w.sane in omega (arith, s.lefts, room-lefts)

  pub items-part : (i : ℕ) → i ≡ c.items → i ≤ length n.items
  items-part i e = let s = w.sane in omega (arith, s.items, s.productions, s.symbols, room-items)

  pub names-whole : (i : ℕ) → i ≡ c.names → i ≡ length (take i n.names)
  names-whole i e = sym (length-take-le i n.names (names-part i e))

  pub lefts-whole : (i : ℕ) → i ≡ c.lefts → i ≡ length (take i n.lefts)
  lefts-whole i e = sym (length-take-le i n.lefts (lefts-part i e))

  pub items-whole : (i : ℕ) → i ≡ c.items → i ≡ length (take i n.items)
  items-whole i e = sym (length-take-le i n.items (items-part i e))

  names-length : length (take c.names n.names) ≡ c.names
  names-length = length-take-le c.names n.names (names-part c.names refl)

  literals-length : length (take c.literals n.literals) ≡ c.literals
  literals-length = let s = w.sane in length-take-le c.literals n.literals (omega (arith, s.literals, room-literals))

  bounded : Bounded (tables_of n)
  bounded = kept-bounded (tables_of n) (rw w.says at (text-kept text))

  pub whole-numbered : (i j k : ℕ) → i ≡ c.names → j ≡ c.lefts → k ≡ c.items → Numbered text c (take i n.names) (take j n.lefts) (take k n.items)
  whole-numbered i j k f g h =
      let b : Bounded (tables_of n) = bounded in
      let s : Sane 0 c = w.sane in
      let size : length (take c.items n.items) ≤ 4608 = omega (arith, length-take c.items n.items, s.items, s.productions, s.symbols) in
      let sides : length (take c.lefts n.lefts) ≤ 128 = omega (arith, length-take c.lefts n.lefts, s.lefts) in
      let few : length (take c.names n.names) ≤ 128 = omega (arith, length-take c.names n.names, s.names) in
      rw (f, g, h) (record {
        few = few;
        sides = sides;
        below = λ j. let z = b.lefts j in omega arith;
        limits = s.names;
        terminals = s.literals;
        numbers = numbers_fit text (take c.names n.names) (take c.items n.items) (take c.lefts n.lefts) size sides;
        small = numbers-small text (take c.names n.names) few (take c.items n.items) size b.codes 0 (take c.lefts n.lefts) b.lefts;
      })

  module _ (k : Option ℕ) (m : FirstMissing (take c.lefts n.lefts) c.names k) where
    after : missing (take c.lefts n.lefts) 0 (take c.names n.names) (on (tables_of n)) ≡ unless_missed k (take c.names n.names) (on (tables_of n))
    after = m.says (take c.names n.names) (on (tables_of n)) names-length

    pub whole-missing : (i : ℕ) → k ≡ Some i → (x : ℕ) → x ≡ get_or n.names i 0 → (r : Result ℕ Refused) → r ≡ Err (record { refusal = Undefined; place = x }) → (out : List ℕ) → table_says r out ≡ table_of text (length out)
    unfolding table_of read_rules
    whole-missing i e x f r g out =
        let h : i < c.names = rw e at m.inside in
        rw (g, w.says, after, e, get_or-take c.names n.names i 0 h, f)

    pub whole-written : k ≡ None → (i j l : ℕ) → i ≡ c.names → j ≡ c.lefts → l ≡ c.items → (r : Result ℕ Refused) (out out' : List ℕ) → WritesTable r out out' (table_bytes text c (take i n.names) (take j n.lefts) (take l n.items)) → table_says r out' ≡ table_of text (length out)
    unfolding table_of read_rules table_bytes grammar_of
    whole-written e i j l f g q r out out' u =
        let v : WritesTable r out out' (table_bytes text c (take c.names n.names) (take c.lefts n.lefts) (take c.items n.items)) = rw (f, g, q) at u in
        rw (w.says, after, e, names-length, literals-length) v.says

-- ---- what is said of the bytes in front, and of those behind them, said of all

pub reads-abnf : (text lent : List ℕ) (r : Result ℕ Refused) (after : List ℕ) → table_says r after ≡ table_of text (length lent) → Kept r lent after
    → length after ≡ length lent → ReadsAbnf text lent r after
reads-abnf text lent (Ok n) after e k l =
    let i : length (take n after) ≡ n = length-take-le n after (let q = k.0 in omega arith) in
    let a : after ≡ take n after ++ drop n lent = sym (take-append-drop n after) ∙ ap (λ (d : List ℕ). take n after ++ d) k.1 in
    let b : take n after ++ drop n lent ≡ take n after ++ drop (length (take n after)) lent = ap (λ (x : ℕ). take n after ++ drop x lent) (sym i) in
    record { answer = ap on (sym i) ∙ ap answer_of e; bytes = a ∙ b ∙ ap (λ (x : Run (List ℕ)). bytes_after x lent) e }
reads-abnf text lent (Err x) after e k l = record { answer = ap answer_of e; bytes = k ∙ ap (λ (x : Run (List ℕ)). bytes_after x lent) e }
