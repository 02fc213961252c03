-- What is promised of the call is kept. Assumes nothing.
use Prim.Native.Nat.{ℕ, ◌<◌}
use native.Mathlib.Omega.{arith}
use mathlib.Core.Path.{◌≡◌, refl, sym, ap, ◌∙◌}
use mathlib.Core.Logic.{◌⊎◌, inl, inr, ⊎_elim}
use mathlib.Core.List.{List, ◌++◌, map}
use lib.ListN.{length, drop}
use Rattle.k_tuples.specs.Work.{Answer, got, refused}
use Rattle.decision_theory.specs.Needed.{Decided, decisions, needed_ks}
use Rattle.decision_theory.specs.Automaton.{automaton, automata_bytes, AllAre, AllSmall, automata, AutomataAnswered, call-refused, one-refused, too-many-states, few_bytes, written}
use Rattle.decision_theory.proofs.Kept.{automata-all, automata-only, automata-right}
use Rattle.decision.specs.Call.{words_after}
use Rattle.decision.proofs.Further.{whole-between, one-between}
use Rattle.automaton.specs.Call.{Automata, record_of, bytes_after, Promised}
use Rattle.automaton.specs.Promises.{AutomataOne, AutomataAnswers, WholePassed, LowestPassed, TwentyThreeExactly, TenExactly, NothingWritten, BuffersUntouched, BuffersWiped, WrittenRight, NotRefused}

pub automata-one : AutomataOne
automata-one limit c table out result scratch r s O R S O' R' S' p q =
    (p.answer ∙ sym q.answer, p.out-bytes ∙ sym q.out-bytes, p.result_words ∙ sym q.result_words, p.scratch-words ∙ sym q.scratch-words)

pub automata-answers : AutomataAnswers
automata-answers limit c table out result scratch r O R S p = record {
  case = automata limit c table (length result) (length scratch) (length out);
  answered = automata-all limit c table (length result) (length scratch) (length out);
  told = p.answer;
  bytes = p.out-bytes;
}

-- ---- the outcome by the answer

-- the record of a refusal
number_of : (r : Automata) {m : Answer (List ℕ)} {x : ℕ} → r ≡ record_of m → m ≡ refused x → r.refusal ≡ x
unfolding record_of
number_of r e f = ap (λ (y : Automata). y.refusal) (e ∙ ap record_of f)

-- and of bytes
none_of : (r : Automata) {m : Answer (List ℕ)} {bs : List ℕ} → r ≡ record_of m → m ≡ got bs → (r.refusal ≡ 0) × (r.bytes ≡ length bs)
unfolding record_of
none_of r e f = (ap (λ (y : Automata). y.refusal) (e ∙ ap record_of f), ap (λ (y : Automata). y.bytes) (e ∙ ap record_of f))

module _ (limit c : ℕ) (table out result scratch : List ℕ) (r : Automata) (O R S : List ℕ) (p : Promised limit c table out result scratch r O R S) where
  -- an answer that the rules give is the definition's
  is : {m : Answer (List ℕ)} → AutomataAnswered limit c table (length result) (length scratch) (length out) m → automata limit c table (length result) (length scratch) (length out) ≡ m
  is a = sym (automata-only limit c table (length result) (length scratch) (length out) _ a)

  given : {x : ℕ} → AutomataAnswered limit c table (length result) (length scratch) (length out) (refused x) → r.refusal ≡ x
  given a = number_of r p.answer (is a)

pub whole-passed : WholePassed
whole-passed limit c table out result scratch r O R S p x e = given limit c table out result scratch r O R S p (call-refused e)

pub lowest-passed : LowestPassed
lowest-passed limit c table out result scratch r O R S p x l = given limit c table out result scratch r O R S p (one-refused l)

pub twenty-three-exactly : TwentyThreeExactly
twenty-three-exactly limit c table out result scratch r O R S p = (
  λ e. by e (automata limit c table (length result) (length scratch) (length out)) p.answer (automata-all limit c table (length result) (length scratch) (length out)),
  λ (ds, all, n). given limit c table out result scratch r O R S p (too-many-states all n),
)
  where
    by : r.refusal ≡ 23 → (m : Answer (List ℕ)) → r ≡ record_of m → AutomataAnswered limit c table (length result) (length scratch) (length out) m
        → (ds : List Decided) × AllAre limit c table (length result) (length scratch) ds × ¬ AllSmall ds
    by e m q (call-refused {r = x} f) = absurd (let b = whole-between limit c table (length result) (length scratch) x f in let z = number_of r q refl in omega (arith, b.1))
    by e m q (one-refused {r = x} l) = absurd (⊎_elim (λ (k : x ≡ 11). let z = number_of r q refl in omega arith) (λ (k : x ≡ 22). let z = number_of r q refl in omega arith) (one-between limit c table (length result) (length scratch) x l))
    by e m q (too-many-states {ds = ds} all n) = (ds, all, n)
    by e m q (few_bytes all small h) = absurd (let z = number_of r q refl in omega arith)
    by e m q (written all small h) = absurd (let z = (none_of r q refl).0 in omega arith)

pub ten-exactly : TenExactly
ten-exactly limit c table out result scratch r O R S p = (
  λ e. by e (automata limit c table (length result) (length scratch) (length out)) p.answer (automata-all limit c table (length result) (length scratch) (length out)),
  ⊎_elim (λ e. given limit c table out result scratch r O R S p (call-refused e)) (λ (ds, all, (small, h)). given limit c table out result scratch r O R S p (few_bytes all small h)),
)
  where
    by : r.refusal ≡ 10 → (m : Answer (List ℕ)) → r ≡ record_of m → AutomataAnswered limit c table (length result) (length scratch) (length out) m
        → (decisions limit c table (length result) (length scratch) ≡ refused 10)
        ⊎ ((ds : List Decided) × AllAre limit c table (length result) (length scratch) ds × (AllSmall ds × (length out < length (automata_bytes (map automaton ds)))))
    by e m q (call-refused {r = x} f) = inl (f ∙ ap refused (sym (number_of r q refl) ∙ e))
    by e m q (one-refused {r = x} l) = absurd (⊎_elim (λ (k : x ≡ 11). let z = number_of r q refl in omega arith) (λ (k : x ≡ 22). let z = number_of r q refl in omega arith) (one-between limit c table (length result) (length scratch) x l))
    by e m q (too-many-states {ds = ds} all n) = absurd (let z = number_of r q refl in omega arith)
    by e m q (few_bytes {ds = ds} all small h) = inr (ds, all, (small, h))
    by e m q (written all small h) = absurd (let z = (none_of r q refl).0 in omega arith)

pub nothing_written : NothingWritten
unfolding record_of bytes_after
nothing_written limit c table out result scratch r O R S p n = by (automata limit c table (length result) (length scratch) (length out)) p.answer p.out-bytes
  where
    by : (m : Answer (List ℕ)) → r ≡ record_of m → O ≡ bytes_after out m → (r.bytes ≡ 0) × (O ≡ out)
    by (refused x) e f = (ap (λ (y : Automata). y.bytes) e, f)
    by (got bs) e f = absurd (n (ap (λ (y : Automata). y.refusal) e))

-- ---- the buffers

pub buffers-untouched : BuffersUntouched
unfolding needed_ks words_after
buffers-untouched limit c table out result scratch r O R S p x e = (rw e at p.result_words, rw e at p.scratch-words)

pub buffers-wiped : BuffersWiped
unfolding needed_ks words_after
buffers-wiped limit c table out result scratch r O R S p ms e = (rw e at p.result_words, rw e at p.scratch-words)

-- ---- what is written

pub not-refused : NotRefused
unfolding bytes_after
not-refused limit c table out result scratch r O R S p z =
    by (automata limit c table (length result) (length scratch) (length out)) p.answer p.out-bytes (automata-all limit c table (length result) (length scratch) (length out))
  where
    by : (m : Answer (List ℕ)) → r ≡ record_of m → O ≡ bytes_after out m → AutomataAnswered limit c table (length result) (length scratch) (length out) m → WrittenRight limit c table out result scratch r O
    by m q f (call-refused {r = x} e) = absurd (let b = whole-between limit c table (length result) (length scratch) x e in let y = number_of r q refl in omega (arith, b.0))
    by m q f (one-refused {r = x} l) = absurd (⊎_elim (λ (k : x ≡ 11). let y = number_of r q refl in omega arith) (λ (k : x ≡ 22). let y = number_of r q refl in omega arith) (one-between limit c table (length result) (length scratch) x l))
    by m q f (too-many-states all n) = absurd (let y = number_of r q refl in omega arith)
    by m q f (few_bytes all small h) = absurd (let y = number_of r q refl in omega arith)
    by m q f (written {ds = ds} all small h) =
        let n = (none_of r q refl).1 in
        record {
          ds = ds;
          decided = all;
          small = small;
          automata-right = automata-right limit c table (length result) (length scratch) ds all;
          count = n;
          room = omega arith;
          written = f ∙ ap (λ (j : ℕ). automata_bytes (map automaton ds) ++ drop j out) (sym n);
        }
