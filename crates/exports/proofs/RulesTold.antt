-- A text's table and its answer, told in lent bytes and words; that this leaves one outcome; and that no number is 0 where nothing is lent. Assumes nothing.
use Prim.Native.Nat.{ℕ, ◌≤◌, ◌<◌}
use native.Mathlib.Omega.{arith}
use mathlib.Core.Path.{◌≡◌, refl, sym, ap, ◌∙◌}
use mathlib.Core.List.{List, [], ◌∷◌}
use borrow.Author.Tests.{lt-ltb, le-ltb}
use lib.ListN.{length}
use Rattle.k_tuple.specs.Paper.{gives}
use Rattle.abnf.specs.Abnf.{table_of, answer_says, ReadsAbnf}
use Rattle.abnf_tables.specs.Run.{Run, on, refused}
use Rattle.abnf_tables.specs.declared.refused.Refused.{Refused}
use Rattle.std.specs.Prelude.{Result}
use Rattle.abnf_names.specs.Parts.{nonterminal_part, terminal_part}
use Rattle.abnf_names.specs.declared.TextPart.{TextPart}
use Rattle.abnf_names.proofs.Back.{nonterminal-beyond, terminal-beyond}
use Rattle.exports.specs.Told.{fronted, Wrote, Told}
use Rattle.exports.specs.Rules.{answer_number, answer_words, refusal_of, ReadFor, part_words}
use Rattle.exports.proofs.Telling.{told_same}

-- there are two
two-words : (a : Run ℕ) → length (answer_words a) ≡ 2
two-words (on n) = refl
two-words (refused m p) = refl

-- no bytes are lent
pub no_bytes : {text none after : List ℕ} {a : Result ℕ Refused} {r : ℕ} → ReadsAbnf text none a after → 0 ≡ length none → r ≡ answer_number (answer_says a) → r ≡ refusal_of (table_of text 0)
no_bytes {text} p e f = f ∙ ap answer_number p.answer ∙ ap (λ (n : ℕ). refusal_of (table_of text n)) (sym e)

module _ {text table answer : List ℕ} where
  pub read_short : {r : ℕ} → length answer < 2 → r ≡ refusal_of (table_of text 0) → ReadFor text table answer r table answer
  read_short h e = record { number = rw (lt-ltb (length answer) 2 h) e; bytes = rw (lt-ltb (length answer) 2 h); words = rw (lt-ltb (length answer) 2 h) }

  pub read_whole : {a : Result ℕ Refused} {words table' answer' : List ℕ} {m r : ℕ} → 2 ≤ length answer → ReadsAbnf text table a table' → words ≡ answer_words (answer_says a)
      → m ≡ answer_number (answer_says a) → Wrote (length words) m words answer r answer' → ReadFor text table answer r table' answer'
  read_whole {a} h p e g t =
      let told = told_same (ap length e ∙ two-words (answer_says a)) g e t in
      record {
        number = told.number ∙ rw (le-ltb (length answer) 2 h) (ap answer_number p.answer);
        bytes = rw (le-ltb (length answer) 2 h) p.bytes;
        words = told.words ∙ rw (le-ltb (length answer) 2 h) (ap (λ (b : Run ℕ). fronted (answer_words b) answer) p.answer);
      }

  -- two outcomes that keep the promise are the same
  pub read-for-one : {r s : ℕ} {t u a b : List ℕ} → ReadFor text table answer r t a → ReadFor text table answer s u b → (r ≡ s) × ((t ≡ u) × (a ≡ b))
  read-for-one x y = (x.number ∙ sym y.number, (x.bytes ∙ sym y.bytes, x.words ∙ sym y.words))

-- ---- parts

pub text-part-told : {values out out' : List ℕ} {p q : TextPart} {r : ℕ} → p ≡ q → values ≡ part_words p → Wrote (length values) 0 values out r out' → Told 2 (gives (part_words q)) out r out'
text-part-told e f t = record { wrote = told_same (ap length f) refl (f ∙ ap part_words e) t }

pub no-nonterminal : (text : List ℕ) (number : ℕ) {out out' : List ℕ} {r : ℕ} → 65535 < number → Wrote 2 0 (0 ∷ 0 ∷ []) out r out' → Told 2 (gives (part_words (nonterminal_part text number))) out r out'
no-nonterminal text number h t = text-part-told (sym (nonterminal-beyond text number (omega arith))) refl t

pub no-terminal : (text : List ℕ) (number : ℕ) {out out' : List ℕ} {r : ℕ} → 65535 < number → Wrote 2 0 (0 ∷ 0 ∷ []) out r out' → Told 2 (gives (part_words (terminal_part text number))) out r out'
no-terminal text number h t = text-part-told (sym (terminal-beyond text number (omega arith))) refl t
