-- The call of K8 for C: its numbers told in four words, or, where those are not lent, refused as the call refuses with no words to work in. Assumes nothing.
use Prim.Native.Nat.{ℕ, ◌≤◌, ◌<◌}
use mathlib.Core.Path.{◌≡◌, refl, sym, ap, ◌∙◌}
use mathlib.Core.List.{List, ◌++◌}
use borrow.Author.Tests.{lt-ltb, le-ltb}
use lib.ListN.{length, take, drop}
use Rattle.marking.specs.Call.{Record, Promised}
use Rattle.exports.specs.Told.{Wrote}
use Rattle.exports.specs.Marks.{mark_of, mark_words, MarkCalled}
use Rattle.exports.proofs.Telling.{told_same}
use Rattle.exports.proofs.Needing.{nothing}

module _ {limit c : ℕ} {table rows answer : List ℕ} {m : Record} where
  -- too few words
  pub mark-short : (result scratch : List ℕ) {r s : List ℕ} → length answer < 4 → Promised limit c table rows (take 0 result) (take 0 scratch) m r s
      → length r ≡ length (take 0 result) → length s ≡ length (take 0 scratch)
      → {x : ℕ} → x ≡ m.refusal → MarkCalled limit c table rows result scratch answer x (r ++ drop 0 result) (s ++ drop 0 scratch) answer
  mark-short result scratch {r} {s} h p f g q = record {
    number = rw (lt-ltb (length answer) 4 h) (q ∙ ap (λ (x : Record). x.refusal) p.answer);
    answer-words = rw (lt-ltb (length answer) 4 h);
    result_words = rw (lt-ltb (length answer) 4 h) (nothing r f result);
    scratch-words = rw (lt-ltb (length answer) 4 h) (nothing s g scratch);
  }

  -- the numbers told
  pub mark-told : {result scratch result' scratch' words answer' : List ℕ} {r : ℕ} → 4 ≤ length answer → Promised limit c table rows result scratch m result' scratch'
      → {x : ℕ} → x ≡ m.refusal → words ≡ mark_words m → Wrote (length words) x words answer r answer'
      → MarkCalled limit c table rows result scratch answer r result' scratch' answer'
  mark-told h p q e w =
      let v = told_same (ap length e) (q ∙ ap (λ (x : Record). x.refusal) p.answer) (e ∙ ap mark_words p.answer) w in
      record {
        number = v.number ∙ rw (le-ltb (length answer) 4 h);
        answer-words = v.words;
        result_words = p.result_words ∙ rw (le-ltb (length answer) 4 h);
        scratch-words = p.scratch-words ∙ rw (le-ltb (length answer) 4 h);
      }

-- two outcomes that keep the promise are the same
pub mark-called-one : {limit c : ℕ} {table rows result scratch answer : List ℕ} {r s : ℕ} {R S A R' S' A' : List ℕ}
    → MarkCalled limit c table rows result scratch answer r R S A → MarkCalled limit c table rows result scratch answer s R' S' A'
    → (r ≡ s) × (R ≡ R') × (S ≡ S') × (A ≡ A')
mark-called-one p q = (p.number ∙ sym q.number, p.result_words ∙ sym q.result_words, p.scratch-words ∙ sym q.scratch-words, p.answer-words ∙ sym q.answer-words)

-- with words for the answer the call's promise holds, and all that is proved of it
pub mark-promised : {limit c : ℕ} {table rows result scratch answer : List ℕ} {r : ℕ} {result' scratch' answer' : List ℕ} → 4 ≤ length answer
    → MarkCalled limit c table rows result scratch answer r result' scratch' answer' → Promised limit c table rows result scratch (mark_of limit c table rows result scratch) result' scratch'
mark-promised {answer = answer} h l = record {
  answer = refl;
  result_words = l.result_words ∙ rw (le-ltb (length answer) 4 h);
  scratch-words = l.scratch-words ∙ rw (le-ltb (length answer) 4 h);
}
