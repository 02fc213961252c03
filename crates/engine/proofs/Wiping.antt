-- The buffers before and after the work: wiped, worked in, and wiped again where that is asked. Assumes nothing.
use Prim.Native.Nat.{ℕ, ◌+◌, ◌*◌, ◌≤◌}
use native.Mathlib.Omega.{arith}
use mathlib.Core.Path.{◌≡◌, refl, sym, ap, ◌∙◌}
use mathlib.Core.Bool.{true, false, true≢false}
use mathlib.Core.List.{List, ◌++◌}
use borrow.Author.Tests.{lt-leb}
use lib.Dec.{leb}
use lib.ListN.{drop, replicate, length-replicate}
use lib.Seq.{drop_at}
use Rattle.cfg.specs.Grammar.{Grammar, Accepted}
use Rattle.k_tuples.specs.Work.{Answer, got, refused}
use Rattle.k_tuples.specs.Blocks.{store}
use Rattle.std.specs.Prelude.{Result, Ok, Err, is_err}
use Rattle.refusals.specs.declared.Refusal.{Refusal}
use Rattle.refusals.proofs.Numbers.{number-positive}
use Rattle.analysis.specs.Analysis.{Analysis, work, result_needs, scratch_needs}
use Rattle.analysis.proofs.Kept.{only-eleven}
use Rattle.cfg.specs.declared.table.Shape.{Shape}
use Rattle.engine.specs.declared.Lookahead.{Lookahead}
use Rattle.engine.specs.Call.{Record, record_of, answer_of, sets_of, wiped, result_after, scratch_after, Left}
use Rattle.engine.specs.Steps.{grammar_in, Ready, Enough, Clean, Ran, Worked}

pub wiped-beyond : (needed : ℕ) (ws : List ℕ) → drop needed (wiped needed ws) ≡ drop needed ws
wiped-beyond needed ws = drop_at (replicate needed 0) (drop needed ws) needed (length-replicate needed 0)

-- wiped again, words are wiped as they first came
pub wiped-again : (needed : ℕ) (ws ws' : List ℕ) → drop needed ws' ≡ drop needed (wiped needed ws) → wiped needed ws' ≡ wiped needed ws
wiped-again needed ws ws' e = ap (λ (l : List ℕ). replicate needed 0 ++ l) (e ∙ wiped-beyond needed ws)

module _ (k c : ℕ) (g : Grammar) (ok : Accepted g) (k>0 : 1 ≤ k) (c>0 : 1 ≤ c) (result scratch result' scratch' : List ℕ) (r : Record)
    (ran : Ran k c g (wiped (result_needs c g) result) (wiped (scratch_needs c g) scratch) r result' scratch') where
  abbrev N : ℕ
  N = result_needs c g

  abbrev M : ℕ
  M = scratch_needs c g

  scratch-wiped : wiped M scratch' ≡ wiped M scratch
  scratch-wiped = wiped-again M scratch scratch' ran.scratch-beyond

  -- a refusal of the work is 11
  late : (e : ℕ) → work k c g ≡ refused e → leb e 10 ≡ false
  late e w = let z = only-eleven g k c ok k>0 c>0 e w in lt-leb e 10 (omega arith)

  pub worked : r.refusal ≡ 0 → Worked k c g result scratch r result' (wiped M scratch')
  unfolding answer_of result_after scratch_after
  worked z = by (work k c g) refl ran.answer
    where
      by : (m : Answer Analysis) → work k c g ≡ m → r ≡ answer_of m → Left m k c N M result scratch r result' (wiped M scratch')
      by (refused e) w a = absurd (let n : r.refusal ≡ e = ap (λ (x : Record). x.refusal) a in let q = only-eleven g k c ok k>0 c>0 e w in omega arith)
      by (got x) w a = record {
        answer = a;
        result_words = ran.sets x w ∙ ap (store k (2 * c + 1) x.width (sets_of x)) (wiped-beyond N result);
        scratch-words = scratch-wiped;
      }

  pub gave-up : (r.refusal ≡ 0 → ⊥) → Worked k c g result scratch r (wiped N result') (wiped M scratch')
  unfolding answer_of result_after scratch_after
  gave-up z = by (work k c g) refl ran.answer
    where
      by : (m : Answer Analysis) → work k c g ≡ m → r ≡ answer_of m → Left m k c N M result scratch r (wiped N result') (wiped M scratch')
      by (refused e) w a = record {
        answer = a;
        result_words = wiped-again N result result' ran.result-beyond ∙ rw (late e w);
        scratch-words = scratch-wiped ∙ rw (late e w);
      }
      by (got x) w a = absurd (z (ap (λ (x : Record). x.refusal) a))

-- ---- as the functions go: wiped, run, wiped

-- what the test of the answer tells of its record
not-refused : (a : Result Lookahead Refusal) → is_err a ≡ false → (record_of a).refusal ≡ 0
not-refused (Ok x) e = refl
not-refused (Err r) e = absurd (true≢false e)

is-refused : (a : Result Lookahead Refusal) → is_err a ≡ true → (record_of a).refusal ≡ 0 → ⊥
is-refused (Ok x) e z = true≢false (sym e)
is-refused (Err r) e z = omega (arith, number-positive r)

module _ {k c : ℕ} {s : Shape} {words : List ℕ} {needed spare : ℕ} {result scratch : List ℕ} (ready : Ready k c s words) (enough : Enough c (grammar_in s words) needed spare result scratch) where
  pub clean : {result₁ scratch₁ : List ℕ} → result₁ ≡ wiped needed result → scratch₁ ≡ wiped spare scratch → Clean c (grammar_in s words) result₁ scratch₁
  clean e f = record {
    result-clean = let N = result_needs c (grammar_in s words) in rw (e, enough.result-needs) (sym (wiped-again N result (wiped N result) refl));
    scratch-clean = let M = scratch_needs c (grammar_in s words) in rw (f, enough.scratch-needs) (sym (wiped-again M scratch (wiped M scratch) refl));
  }

  pub run-wiped : {result₁ scratch₁ result₂ scratch₂ : List ℕ} {r : Record} → result₁ ≡ wiped needed result → scratch₁ ≡ wiped spare scratch
      → Ran k c (grammar_in s words) result₁ scratch₁ r result₂ scratch₂ → Ran k c (grammar_in s words) (wiped needed result) (wiped spare scratch) r result₂ scratch₂
  run-wiped e f ran = rw (← e, ← f) ran

  module _ (a : Result Lookahead Refusal) {result₂ scratch₂ scratch₃ : List ℕ} (ran : Ran k c (grammar_in s words) (wiped needed result) (wiped spare scratch) (record_of a) result₂ scratch₂) (h : scratch₃ ≡ wiped spare scratch₂) where
    ran-wiped : Ran k c (grammar_in s words) (wiped (result_needs c (grammar_in s words)) result) (wiped (scratch_needs c (grammar_in s words)) scratch) (record_of a) result₂ scratch₂
    ran-wiped = rw (← enough.result-needs, ← enough.scratch-needs) ran

    pub analysed-done : is_err a ≡ false → Worked k c (grammar_in s words) result scratch (record_of a) result₂ scratch₃
    analysed-done z =
        rw (h, enough.scratch-needs)
        (worked k c (grammar_in s words) ready.accepted ready.k>0 ready.c>0 result scratch result₂ scratch₂ (record_of a) ran-wiped (not-refused a z))

    pub analysed-not : {result₃ : List ℕ} → result₃ ≡ wiped needed result₂ → is_err a ≡ true → Worked k c (grammar_in s words) result scratch (record_of a) result₃ scratch₃
    analysed-not g z =
        rw (g, h, enough.result-needs, enough.scratch-needs)
        (gave-up k c (grammar_in s words) ready.accepted ready.k>0 ready.c>0 result scratch result₂ scratch₂ (record_of a) ran-wiped (is-refused a z))
