-- The call for C: its record told in sixteen words, or, where these are too few, refused as the engine refuses with no words lent. Assumes nothing.
use Prim.Native.Nat.{ℕ, ◌+◌, ◌*◌, ◌≤◌, ◌<◌}
use native.Mathlib.Nat.{mul-pos}
use native.Mathlib.Omega.{arith}
use mathlib.Core.Path.{◌≡◌, refl, sym, ap, ◌∙◌, subst}
use mathlib.Core.List.{List, [], ◌++◌}
use borrow.Author.Tests.{lt-ltb, le-ltb}
use lib.ListN.{length}
use Rattle.std.specs.Prelude.{Result, Ok, Err}
use Rattle.refusals.specs.declared.Refusal.{Refusal}
use Rattle.cfg.specs.Grammar.{Grammar}
use Rattle.cfg.specs.Write.{Bytes}
use Rattle.cfg.proofs.Exactly.{refusal-rows}
use Rattle.k_tuples.specs.Work.{Answer, refused}
use Rattle.analysis.specs.Analysis.{Analysis, analyse}
use Rattle.analysis.specs.Promises.{EnoughWords, Verdict}
use Rattle.analysis.proofs.Verdict.{answers-all, one_answer}
use Rattle.engine.specs.declared.Lookahead.{Lookahead}
use Rattle.engine.specs.Call.{Record, record_of, answer_of, result_needed, scratch_needed, result_after, scratch_after, Promised}
use Rattle.engine.specs.Demands.{Demanded}
use Rattle.engine.proofs.Demands.{demanded}
use Rattle.exports.specs.Call.{record_words, answer_for, Called}
use Rattle.exports.specs.Told.{too_few, Wrote, number_told}
use Rattle.exports.proofs.Telling.{few-before, few-at-most, told-few, told_same}

-- the scratch always needs some
none-enough : (g : Grammar) (c : ℕ) → ¬ EnoughWords g c 0 0
none-enough g c h = let some : 0 < (2 * g.n + 4) * (2 * c + 1) = mul-pos (omega arith) (omega arith) in absurd (omega (arith, h.1))

-- with no words lent for the sets, what comes before 10 is refused as ever, and 10 else
module _ (k c : ℕ) (table : List ℕ) (result scratch : ℕ) where
  fewer-words : (m : Answer Analysis) → Verdict k c table result scratch m → Verdict k c table 0 0 (refused (too_few (answer_of m).refusal))
  unfolding answer_of
  fewer-words m (Verdict.bad-k h) = Verdict.bad-k h
  fewer-words m (Verdict.bad-room hk h) = Verdict.bad-room hk h
  fewer-words m (Verdict.bad-table {r = r} hk hc t) =
      let l = refusal-rows t in
      subst (λ (i : ℕ). Verdict k c table 0 0 (refused i)) (few-before (omega (arith, l.0)) (omega (arith, l.1))) (Verdict.bad-table hk hc t)
  fewer-words m (Verdict.unproductive hk hc reads h) = Verdict.unproductive hk hc reads h
  fewer-words m (Verdict.left-recursive hk hc reads p l) = Verdict.left-recursive hk hc reads p l
  fewer-words m (Verdict.few_words {g = g} hk hc reads ok _) = Verdict.few_words hk hc reads ok (none-enough g c)
  fewer-words m (Verdict.no_room {g = g} hk hc reads ok _ _) = Verdict.few_words hk hc reads ok (none-enough g c)
  fewer-words m (Verdict.analysed {g = g} hk hc reads ok _ _ _) = Verdict.few_words hk hc reads ok (none-enough g c)

  pub analyse-none : Bytes table → analyse k c table 0 0 ≡ refused (too_few (answer_of (analyse k c table result scratch)).refusal)
  analyse-none bytes = sym (one_answer k c table 0 0 _ (fewer-words _ (answers-all k c table result scratch bytes)))

-- a refusal of 1 to 10 leaves no words as it found them
module _ (k c needed : ℕ) (r : ℕ) where
  none_left : result_after k c needed [] (refused (too_few r)) ≡ []
  unfolding result_after
  none_left = rw (few-at-most r)

  none-worked : scratch_after needed [] (refused (too_few r)) ≡ []
  unfolding scratch_after
  none-worked = rw (few-at-most r)

-- the number that is told is the record's
told_number : (a : Result Lookahead Refusal) → number_told a ≡ (record_of a).refusal
told_number (Ok l) = refl
told_number (Err e) = refl

module _ {k c : ℕ} {table result scratch answer : List ℕ} where
  pub called-few : (a : Result Lookahead Refusal) {R S : List ℕ} {n : ℕ} → length answer < 16 → Promised k c table [] [] (record_of a) R S → Bytes table → n ≡ number_told a
      → Called k c table result scratch answer n (R ++ result) (S ++ scratch) answer
  unfolding answer_of
  called-few a {R} {S} h p bytes told =
      let r = (answer_for k c table result scratch).refusal in
      let none = analyse-none k c table (length result) (length scratch) bytes in
      record {
        bytes = bytes;
        wrote = told-few h (told ∙ told_number a ∙ ap (λ (x : Record). x.refusal) p.answer ∙ ap (λ (m : Answer Analysis). (answer_of m).refusal) none);
        result_words =
            ap (λ (l : List ℕ). l ++ result) (p.result_words ∙ ap (result_after k c (result_needed c table) []) none ∙ none_left k c (result_needed c table) r)
            ∙ rw (lt-ltb (length answer) 16 h);
        scratch-words =
            ap (λ (l : List ℕ). l ++ scratch) (p.scratch-words ∙ ap (scratch_after (scratch_needed c table) []) none ∙ none-worked k c (scratch_needed c table) r)
            ∙ rw (lt-ltb (length answer) 16 h);
      }

  pub called-whole : (a : Result Lookahead Refusal) {words result' scratch' answer' : List ℕ} {n r : ℕ} → 16 ≤ length answer → Promised k c table result scratch (record_of a) result' scratch' → Bytes table
      → n ≡ number_told a → words ≡ record_words (record_of a) → Wrote (length words) n words answer r answer' → Called k c table result scratch answer r result' scratch' answer'
  called-whole a h p bytes told e t = record {
    bytes = bytes;
    wrote = told_same (ap length e) (told ∙ told_number a ∙ ap (λ (x : Record). x.refusal) p.answer) (e ∙ ap record_words p.answer) t;
    result_words = p.result_words ∙ rw (le-ltb (length answer) 16 h);
    scratch-words = p.scratch-words ∙ rw (le-ltb (length answer) 16 h);
  }

  -- with words enough the engine's promise holds, and all that is proved of it
  pub called-promised : {r : ℕ} {result' scratch' answer' : List ℕ} → 16 ≤ length answer → Called k c table result scratch answer r result' scratch' answer'
      → Promised k c table result scratch (answer_for k c table result scratch) result' scratch'
  called-promised h l = record {
    answer = refl;
    result_words = l.result_words ∙ rw (le-ltb (length answer) 16 h);
    scratch-words = l.scratch-words ∙ rw (le-ltb (length answer) 16 h);
  }

  -- so is all that is demanded of the call
  pub called-demanded : {r : ℕ} {result' scratch' answer' : List ℕ} → 16 ≤ length answer → Called k c table result scratch answer r result' scratch' answer'
      → Demanded k c table result scratch (answer_for k c table result scratch) result'
  called-demanded {result' = result'} {scratch' = scratch'} h l = demanded k c table result scratch (answer_for k c table result scratch) result' scratch' (called-promised h l) l.bytes
