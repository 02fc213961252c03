-- The call of K6 for C: its bytes counted in one word, or, where that is not lent, refused as the call refuses with nothing lent. Assumes nothing.
use Prim.Native.Nat.{ℕ, ◌≤◌, ◌<◌}
use mathlib.Core.Path.{◌≡◌, refl, sym, ap, ◌∙◌}
use mathlib.Core.List.{List, [], ◌∷◌, ◌++◌}
use borrow.Author.Tests.{lt-ltb, le-ltb}
use lib.ListN.{length, take, drop}
use Rattle.std.specs.Prelude.{Result, Ok, Err}
use Rattle.std.specs.Result.{result_unwrap_or}
use Rattle.refusals.specs.declared.Refusal.{Refusal}
use Rattle.automaton.specs.Call.{Automata, recorded, record_of, Promised}
use Rattle.exports.specs.Told.{Wrote, number_told}
use Rattle.exports.specs.Automata.{made_of, AutomataCalled}
use Rattle.exports.proofs.Telling.{told_same}
use Rattle.exports.proofs.Needing.{nothing}

-- the record's two numbers are those of the result
number-is : (made : Result ℕ Refusal) → number_told made ≡ (recorded made).refusal
number-is (Ok n) = refl
number-is (Err e) = refl

bytes-are : (made : Result ℕ Refusal) → result_unwrap_or made 0 ≡ (recorded made).bytes
bytes-are (Ok n) = refl
bytes-are (Err e) = refl

refusal-is : (made : Result ℕ Refusal) {number : ℕ} {m : Automata} → number ≡ number_told made → recorded made ≡ m → number ≡ m.refusal
refusal-is made told e = told ∙ number-is made ∙ ap (λ (x : Automata). x.refusal) e

module _ {limit c : ℕ} {table answer : List ℕ} (made : Result ℕ Refusal) {number : ℕ} (told : number ≡ number_told made) where
  pub automata-short : (out result scratch : List ℕ) {o r s : List ℕ} → length answer < 1 → Promised limit c table (take 0 out) (take 0 result) (take 0 scratch) (recorded made) o r s
      → length o ≡ length (take 0 out) → length r ≡ length (take 0 result) → length s ≡ length (take 0 scratch)
      → AutomataCalled limit c table out result scratch answer number (o ++ drop 0 out) (r ++ drop 0 result) (s ++ drop 0 scratch) answer
  automata-short out result scratch {o} {r} {s} h p e f g = record {
    number = rw (lt-ltb (length answer) 1 h) (refusal-is made told p.answer);
    answer-words = rw (lt-ltb (length answer) 1 h);
    out-bytes = rw (lt-ltb (length answer) 1 h) (nothing o e out);
    result_words = rw (lt-ltb (length answer) 1 h) (nothing r f result);
    scratch-words = rw (lt-ltb (length answer) 1 h) (nothing s g scratch);
  }

  pub automata-told : {out result scratch out' result' scratch' words answer' : List ℕ} {r : ℕ} → 1 ≤ length answer → Promised limit c table out result scratch (recorded made) out' result' scratch'
      → words ≡ result_unwrap_or made 0 ∷ [] → Wrote (length words) number words answer r answer'
      → AutomataCalled limit c table out result scratch answer r out' result' scratch' answer'
  automata-told h p e w =
      let v = told_same (ap length e) (refusal-is made told p.answer) (e ∙ ap (λ (b : ℕ). b ∷ []) (bytes-are made) ∙ ap (λ (x : Automata). x.bytes ∷ []) p.answer) w in
      record {
        number = v.number ∙ rw (le-ltb (length answer) 1 h);
        answer-words = v.words;
        out-bytes = p.out-bytes ∙ rw (le-ltb (length answer) 1 h);
        result_words = p.result_words ∙ rw (le-ltb (length answer) 1 h);
        scratch-words = p.scratch-words ∙ rw (le-ltb (length answer) 1 h);
      }

-- two outcomes that keep the promise are the same
pub automata-called-one : {limit c : ℕ} {table out result scratch answer : List ℕ} {r s : ℕ} {O R S A O' R' S' A' : List ℕ}
    → AutomataCalled limit c table out result scratch answer r O R S A → AutomataCalled limit c table out result scratch answer s O' R' S' A'
    → (r ≡ s) × (O ≡ O') × (R ≡ R') × (S ≡ S') × (A ≡ A')
automata-called-one p q =
    (p.number ∙ sym q.number, p.out-bytes ∙ sym q.out-bytes, p.result_words ∙ sym q.result_words, p.scratch-words ∙ sym q.scratch-words, p.answer-words ∙ sym q.answer-words)

-- with a word for the answer the call's promise holds, and all that is proved of it
pub automata-promised : {limit c : ℕ} {table out result scratch answer : List ℕ} {r : ℕ} {out' result' scratch' answer' : List ℕ} → 1 ≤ length answer
    → AutomataCalled limit c table out result scratch answer r out' result' scratch' answer'
    → Promised limit c table out result scratch (record_of (made_of limit c table out result scratch)) out' result' scratch'
automata-promised {answer = answer} h l = record {
  answer = refl;
  out-bytes = l.out-bytes ∙ rw (le-ltb (length answer) 1 h);
  result_words = l.result_words ∙ rw (le-ltb (length answer) 1 h);
  scratch-words = l.scratch-words ∙ rw (le-ltb (length answer) 1 h);
}
