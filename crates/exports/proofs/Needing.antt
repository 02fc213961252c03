-- The record of K3 in lent words, and the call. Assumes nothing.
use Prim.Native.Nat.{ℕ, ◌+◌, ◌-◌, ◌≤◌, ◌<◌}
use native.Mathlib.Omega.{arith}
use mathlib.Core.Path.{◌≡◌, refl, sym, ap, ap₂, ◌∙◌}
use mathlib.Core.List.{List, [], ◌∷◌, ◌++◌, append_assoc, append-nil}
use borrow.Author.Tests.{lt-ltb, le-ltb}
use lib.ListN.{length, take, drop, length-append, length-drop}
use lib.Seq.{drop-drop, drop_at, length-take-le, take-length, drop-length}
use Rattle.decision.specs.Call.{Record, recorded, k_in, Promised}
use native.Mathlib.Numerals.{add-one}
use Rattle.std.specs.Prelude.{Result, Ok, Err, map, get_or, set, replicate}
use Rattle.std.specs.Result.{result_unwrap_or}
use Rattle.std.proofs.Math.Seq.{take-suc-set}
use Rattle.std.proofs.Math.ListN.{length-set, length-replicate}
use Rattle.std.proofs.lemmas.List.{map_more, take_all}
use Rattle.refusals.specs.declared.Refusal.{Refusal}
use Rattle.decision.specs.declared.Needed.{Needed}
use Rattle.exports.specs.Told.{number_told, fronted}
use Rattle.exports.specs.Needed.{needed_words, record_for, PutAt, PutRecord, NeededCalled}

-- ---- words at a place

-- the part that is lent is all that stands from the place on
pub part-all : (at : ℕ) (ws : List ℕ) → take (length ws - at) (drop at ws) ≡ drop at ws
part-all at ws = ap (λ (n : ℕ). take n (drop at ws)) (sym (length-drop at ws)) ∙ take-length (drop at ws)

part_none : (at : ℕ) (ws : List ℕ) → drop (length ws - at) (drop at ws) ≡ []
part_none at ws = ap (λ (n : ℕ). drop n (drop at ws)) (sym (length-drop at ws)) ∙ drop-length (drop at ws)

pub part_room : (at : ℕ) (ws : List ℕ) (n : ℕ) → at + n ≤ length ws → n ≤ length (take (length ws - at) (drop at ws))
part_room at ws n h = omega (arith, ap length (part-all at ws) ∙ length-drop at ws)

pub put-at : (at : ℕ) (words answer : List ℕ) {last : List ℕ} → last ≡ take (length words) words ++ drop (length words) (take (length answer - at) (drop at answer))
    → PutAt at words answer (take at answer ++ (last ++ drop (length answer - at) (drop at answer)))
put-at at words answer {last} e = record {
  words-put = ap (λ (l : List ℕ). take at answer ++ l) (ap₂ ◌++◌ (e ∙ ap₂ (λ (a b : List ℕ). a ++ drop (length words) b) (take-length words) (part-all at answer)) (part_none at answer) ∙ append-nil (fronted words (drop at answer)));
}

-- words ys behind n words, and then n words xs before them, are both at the front
fronted-both : (n : ℕ) (xs ys ws : List ℕ) → length xs ≡ n → n ≤ length ws → fronted xs (take n ws ++ fronted ys (drop n ws)) ≡ fronted (xs ++ ys) ws
fronted-both n xs ys ws e h =
    ap (λ (l : List ℕ). xs ++ l)
    (ap (λ (m : ℕ). drop m (take n ws ++ fronted ys (drop n ws))) e
    ∙ drop_at (take n ws) (fronted ys (drop n ws)) n (length-take-le n ws h)
    ∙ ap (λ (l : List ℕ). ys ++ l) (drop-drop (length ys) n ws ∙ ap (λ (m : ℕ). drop m ws) (sym (length-append xs ys ∙ ap (λ (m : ℕ). m + length ys) e))))
    ∙ sym (append_assoc xs ys (drop (length (xs ++ ys)) ws))

-- the last numbers, those before them, and the first two
pub record-put : (a : Record) (answer : List ℕ) {one two three : List ℕ} → 258 ≤ length answer → length a.refusals ≡ 128
    → PutAt 130 a.ks answer one → PutAt 2 a.refusals one two → three ≡ fronted (a.refusal ∷ a.n ∷ []) two → PutRecord a answer three
record-put a [] h l p q r = absurd (omega arith)
record-put a (x ∷ []) h l p q r = absurd (omega arith)
record-put a (x ∷ y ∷ ws) h l p q r = record {
  record-put =
      r ∙ ap (fronted (a.refusal ∷ a.n ∷ [])) (q.words-put ∙ ap (λ (one : List ℕ). take 2 one ++ fronted a.refusals (drop 2 one)) p.words-put)
      ∙ ap (λ (l : List ℕ). a.refusal ∷ a.n ∷ l) (fronted-both 128 a.refusals a.ks ws l (omega arith));
}

-- ---- the numbers of the answers

-- the first i of them were told
pub record Telling (f : Result ℕ Refusal → ℕ) (xs : List (Result ℕ Refusal)) (ns : List ℕ) (i : ℕ) : Type 0 where
  pub long : length ns ≡ 128
  pub told : take i ns ≡ map f (take i xs)

pub telling-start : (f : Result ℕ Refusal → ℕ) (xs : List (Result ℕ Refusal)) → Telling f xs (replicate 128 0) 0
telling-start f xs = record { long = length-replicate {A = ℕ} 128 0; told = refl }

module _ {f : Result ℕ Refusal → ℕ} {xs : List (Result ℕ Refusal)} {ns : List ℕ} {i : ℕ} (w : Telling f xs ns i) (long : length xs ≡ 128) where
  pub telling-more : i < 128 → {v : ℕ} → v ≡ f (get_or xs i (Ok 0)) → Telling f xs (set ns i v) (i + 1)
  telling-more h {v} e = record {
    long = length-set ns i v ∙ w.long;
    told = ap (λ (n : ℕ). take n (set ns i v)) (add-one i) ∙ take-suc-set ns i v (omega (arith, w.long))
        ∙ ap₂ (λ (a : List ℕ) (b : ℕ). a ++ b ∷ []) w.told e ∙ sym (map_more f xs i (Ok 0) (omega arith));
  }

  pub telling-end : 128 ≤ i → ns ≡ map f xs
  telling-end h = sym (take_all i ns (omega (arith, w.long))) ∙ w.told ∙ ap (map f) (take_all i xs (omega arith))

-- ---- the call

-- a k, or 0
pub unwrapped : (x : Result ℕ Refusal) → result_unwrap_or x 0 ≡ k_in x
unwrapped (Ok k) = refl
unwrapped (Err e) = refl

-- the number of what is returned is the record's
pub returned-number : (a : Result Needed Refusal) → number_told a ≡ (recorded a).refusal
returned-number (Ok a) = refl
returned-number (Err e) = refl

-- words that are none before others
pub nothing : (l : List ℕ) → length l ≡ 0 → (r : List ℕ) → l ++ r ≡ r
nothing [] e r = refl
nothing (x ∷ l) e r = absurd (omega arith)

module _ {limit c : ℕ} {table answer : List ℕ} {a : Record} where
  pub needed-short : (result scratch : List ℕ) {r s : List ℕ} → length answer < 258 → Promised limit c table (take 0 result) (take 0 scratch) a r s
      → length r ≡ length (take 0 result) → length s ≡ length (take 0 scratch)
      → {x : ℕ} → x ≡ a.refusal → NeededCalled limit c table result scratch answer x (r ++ drop 0 result) (s ++ drop 0 scratch) answer
  needed-short result scratch {r} {s} h p e f q = record {
    number = rw (lt-ltb (length answer) 258 h) (q ∙ ap (λ (x : Record). x.refusal) p.answer);
    answer-words = rw (lt-ltb (length answer) 258 h);
    result_words = rw (lt-ltb (length answer) 258 h) (nothing r e result);
    scratch-words = rw (lt-ltb (length answer) 258 h) (nothing s f scratch);
  }

  pub needed-told : {result scratch result' scratch' answer' : List ℕ} → 258 ≤ length answer → Promised limit c table result scratch a result' scratch' → PutRecord a answer answer'
      → {x : ℕ} → x ≡ a.refusal → NeededCalled limit c table result scratch answer x result' scratch' answer'
  needed-told h p w q = record {
    number = rw (le-ltb (length answer) 258 h) (q ∙ ap (λ (x : Record). x.refusal) p.answer);
    answer-words = rw (le-ltb (length answer) 258 h) (w.record-put ∙ ap (λ (x : Record). fronted (needed_words x) answer) p.answer);
    result_words = rw (le-ltb (length answer) 258 h) p.result_words;
    scratch-words = rw (le-ltb (length answer) 258 h) p.scratch-words;
  }

-- two outcomes that keep the promise are the same
pub needed-called-one : {limit c : ℕ} {table result scratch answer : List ℕ} {r s : ℕ} {R S A R' S' A' : List ℕ}
    → NeededCalled limit c table result scratch answer r R S A → NeededCalled limit c table result scratch answer s R' S' A' → (r ≡ s) × (R ≡ R') × (S ≡ S') × (A ≡ A')
needed-called-one p q =
    (p.number ∙ sym q.number, p.result_words ∙ sym q.result_words, p.scratch-words ∙ sym q.scratch-words, p.answer-words ∙ sym q.answer-words)

-- with words enough the call's promise holds, and all that is proved of it
pub needed-promised : {limit c : ℕ} {table result scratch answer : List ℕ} {r : ℕ} {result' scratch' answer' : List ℕ} → 258 ≤ length answer
    → NeededCalled limit c table result scratch answer r result' scratch' answer'
    → Promised limit c table result scratch (record_for limit c table (length result) (length scratch)) result' scratch'
needed-promised {answer = answer} h l = record {
  answer = refl;
  result_words = l.result_words ∙ rw (le-ltb (length answer) 258 h);
  scratch-words = l.scratch-words ∙ rw (le-ltb (length answer) 258 h);
}
