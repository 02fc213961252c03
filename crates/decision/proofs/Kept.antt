-- What is promised of the call is kept. Assumes nothing.
use Prim.Native.Nat.{ℕ, suc, ◌≤◌}
use native.Mathlib.Omega.{arith}
use mathlib.Core.Path.{◌≡◌, refl, sym, ap, ◌∙◌}
use mathlib.Core.Logic.{◌⊎◌, inl, inr}
use mathlib.Core.List.{List}
use lib.ListN.{length, get_or}
use Rattle.cfg.specs.Grammar.{Grammar}
use Rattle.k_tuples.specs.Work.{Answer, got, refused}
use Rattle.analysis.specs.Analysis.{analyse}
use Rattle.analysis.specs.Promises.{Between}
use Rattle.engine.specs.Call.{result_needed, scratch_needed}
use Rattle.decision_theory.specs.Needed.{needed_ks, OneProduction, Needs, WorkedOut, NoneBelow, NotWorkedOut, Answered, one-production, serves, passed_on, own-set, none-serves, CallAnswered}
use Rattle.decision_theory.proofs.Needed.{answered-one}
use Rattle.decision_theory.proofs.Kept.{needed-answered, needed-one}
use Rattle.decision.specs.Call.{Record, refusal_of, k_of, record_of, words_after, Left, Promised}
use Rattle.decision.specs.Promises.{CallOne, CallAnswers, LimitExactly, AsEngineExactly, RefusedUntouched, NotRefused, AnsweredEach, Told, ToldRight}
use Rattle.decision.proofs.Padded.{padded-at, padded-behind}

pub call-one : CallOne
call-one limit c table result scratch r s R S R' S' p q = (p.answer ∙ sym q.answer, p.result_words ∙ sym q.result_words, p.scratch-words ∙ sym q.scratch-words)

pub call-answers : CallAnswers
call-answers limit c table result scratch r R S p = record {
  case = needed_ks limit c table (length result) (length scratch);
  answered = needed-answered limit c table (length result) (length scratch);
  told = p.answer;
}

-- ---- refusals of the whole call

-- the number of a refusal is in the record
number_of : (r : Record) {m : Answer (List (Answer ℕ))} {x : ℕ} → r ≡ record_of m → m ≡ refused x → r.refusal ≡ x
unfolding record_of
number_of r e f = ap (λ (y : Record). y.refusal) (e ∙ ap record_of f)

module _ (limit c : ℕ) (table result scratch : List ℕ) (r : Record) (R S : List ℕ) (p : Promised limit c table result scratch r R S) where
  -- an answer that the rules give is in the record
  given : {x : ℕ} → CallAnswered limit c table (length result) (length scratch) (refused x) → r.refusal ≡ x
  given a = number_of r p.answer (sym (needed-one limit c table (length result) (length scratch) (refused _) a))

  -- the refusal, by what is answered
  data Way : Type 0 where
    by-limit : ¬ Between 1 10 limit → r.refusal ≡ 1 → Way
    by-engine : (x : ℕ) → Between 1 10 limit → Between 2 10 x → analyse 1 c table (length result) (length scratch) ≡ refused x → r.refusal ≡ x → Way
    by-none : Between 1 10 limit → r.refusal ≡ 0 → Way

  way : Way
  unfolding record_of
  way = by (needed_ks limit c table (length result) (length scratch)) p.answer (needed-answered limit c table (length result) (length scratch))
    where
      by : (m : Answer (List (Answer ℕ))) → r ≡ record_of m → CallAnswered limit c table (length result) (length scratch) m → Way
      by m e (CallAnswered.bad-limit n) = by-limit n (number_of r e refl)
      by m e (CallAnswered.as-engine {r = x} h b f) = by-engine x h b f (number_of r e refl)
      by m e (CallAnswered.each-answered h hc reads ok words size each) = by-none h (ap (λ (y : Record). y.refusal) e)

pub limit-exactly : LimitExactly
limit-exactly limit c table result scratch r R S p = (λ e. by e (way limit c table result scratch r R S p), λ n. given limit c table result scratch r R S p (CallAnswered.bad-limit n))
  where
    by : r.refusal ≡ 1 → Way limit c table result scratch r R S p → ¬ Between 1 10 limit
    by e (by-limit n f) = n
    by e (by-engine x h b f q) = absurd (omega (arith, b.0, e, q))
    by e (by-none h q) = absurd (omega (arith, e, q))

pub as-engine-exactly : AsEngineExactly
as-engine-exactly limit c table result scratch r R S p h x b =
    (λ e. by e (way limit c table result scratch r R S p), λ f. given limit c table result scratch r R S p (CallAnswered.as-engine h b f))
  where
    by : r.refusal ≡ x → Way limit c table result scratch r R S p → analyse 1 c table (length result) (length scratch) ≡ refused x
    by e (by-limit n f) = absurd (n h)
    by e (by-engine y _ _ f q) = f ∙ ap refused (sym q ∙ e)
    by e (by-none _ q) = absurd (omega (arith, b.0, e, q))

pub refused-untouched : RefusedUntouched
unfolding record_of words_after
refused-untouched limit c table result scratch r R S p n = by (needed_ks limit c table (length result) (length scratch)) p (needed-answered limit c table (length result) (length scratch))
  where
    by : {needed needed' : ℕ} (m : Answer (List (Answer ℕ))) → Left m needed needed' result scratch r R S → CallAnswered limit c table (length result) (length scratch) m
        → Between 1 10 r.refusal × (r.n ≡ 0) × (R ≡ result) × (S ≡ scratch)
    by m l (CallAnswered.bad-limit h) =
        let e = number_of r l.answer refl in
        ((omega (arith, e), omega (arith, e)), ap (λ (x : Record). x.n) l.answer, l.result_words, l.scratch-words)
    by m l (CallAnswered.as-engine h b e) =
        let f = number_of r l.answer refl in
        ((omega (arith, b.0, f), omega (arith, b.1, f)), ap (λ (x : Record). x.n) l.answer, l.result_words, l.scratch-words)
    by m l (CallAnswered.each-answered h hc reads ok words size each) = absurd (n (ap (λ (x : Record). x.refusal) l.answer))

-- ---- the nonterminals

pub not-refused : NotRefused
unfolding record_of words_after
not-refused limit c table result scratch r R S p z = by (needed_ks limit c table (length result) (length scratch)) p (needed-answered limit c table (length result) (length scratch))
  where
    no : {s : ℕ} → 1 ≤ s → r ≡ record_of (refused s) → ⊥
    no h e = omega (arith, number_of r e refl)

    by : (m : Answer (List (Answer ℕ))) → Left m (result_needed c table) (scratch_needed c table) result scratch r R S → CallAnswered limit c table (length result) (length scratch) m
        → AnsweredEach limit c table result scratch r R S
    by m l (CallAnswered.bad-limit h) = absurd (no (omega arith) l.answer)
    by m l (CallAnswered.as-engine h b e) = absurd (no (omega (arith, b.0)) l.answer)
    by m l (CallAnswered.each-answered {g = g} {ks = ks} h hc reads ok words size each) =
        let refusals-are : (A : ℕ) → get_or r.refusals A 0 ≡ _ = λ A. ap (λ (x : Record). get_or x.refusals A 0) l.answer in
        let ks-are : (A : ℕ) → get_or r.ks A 0 ≡ _ = λ A. ap (λ (x : Record). get_or x.ks A 0) l.answer in
        record {
          g = g;
          reads = reads;
          accepted = ok;
          n = ap (λ (x : Record). x.n) l.answer ∙ size;
          each = λ A a. record {
            answer = get_or ks A (refused 0);
            refusal = refusals-are A ∙ padded-at refusal_of refl ks A (omega arith);
            k = ks-are A ∙ padded-at k_of refl ks A (omega arith);
            answered = each A a;
          };
          behind = λ A a. (refusals-are A ∙ padded-behind refusal_of refl ks A (omega arith), ks-are A ∙ padded-behind k_of refl ks A (omega arith));
          result-wiped = l.result_words;
          scratch-wiped = l.scratch-words;
        }

-- Where some k was not worked out, 11 is the answer.
eleven : (g : Grammar) (limit c A : ℕ) → ¬ OneProduction g A → NotWorkedOut g c limit A → Answered g c limit A (refused 11)
eleven g limit c A n (k, h, below, inl o) = passed_on n h below o
eleven g limit c A n (k, h, below, inr (enough, o)) = own-set n h below enough o

-- What an answer's two numbers say.
module _ (g : Grammar) (limit c A : ℕ) {e f : ℕ} where
  told : (x : Answer ℕ) → e ≡ refusal_of x → f ≡ k_of x → Answered g c limit A x → Told g limit c A e f
  told x p q a = record {
    refusals = kinds x p a;
    needs = λ z. need x (sym p ∙ z) a q;
    found = λ j n l worked. let y = answered-one g c limit A a (find j n l worked) in (p ∙ ap refusal_of y, q ∙ ap k_of y);
    none = λ n. nought x (λ z. n (p ∙ z)) q;
    zero-exactly = (λ (z, y). alone x (sym p ∙ z) (sym q ∙ y) a, λ o. let y = answered-one g c limit A a (one-production o) in (p ∙ ap refusal_of y, q ∙ ap k_of y));
    eleven-exactly = (λ z. not-worked x (sym p ∙ z) a, λ (n, w). p ∙ ap refusal_of (answered-one g c limit A a (eleven g limit c A n w)));
    twenty-two-exactly = (λ z. no-k x (sym p ∙ z) a, λ (n, below). p ∙ ap refusal_of (answered-one g c limit A a (none-serves n below)));
  }
    where
      kinds : (x : Answer ℕ) → e ≡ refusal_of x → Answered g c limit A x → (e ≡ 0) ⊎ ((e ≡ 11) ⊎ (e ≡ 22))
      kinds x p (one-production o) = inl p
      kinds x p (serves n h below w s) = inl p
      kinds x p (passed_on n h below o) = inr (inl p)
      kinds x p (own-set n h below enough o) = inr (inl p)
      kinds x p (none-serves n below) = inr (inr p)

      need : (x : Answer ℕ) → refusal_of x ≡ 0 → Answered g c limit A x → f ≡ k_of x → Needs g A f
      need x z (one-production o) q = rw q (Needs.needs-none o)
      need x z (serves n h below w s) q = rw q (Needs.smallest n h.0 s (λ j j>0 l. (below j j>0 l).1))
      need x z (passed_on n h below o) q = absurd (omega (arith, z))
      need x z (own-set n h below enough o) q = absurd (omega (arith, z))
      need x z (none-serves n below) q = absurd (omega (arith, z))

      find : (j : ℕ) → Needs g A j → j ≤ limit → ((i : ℕ) → 1 ≤ i → i ≤ j → WorkedOut g c A i) → Answered g c limit A (got j)
      find j (Needs.needs-none o) l worked = one-production o
      find j (Needs.smallest n h s below) l worked = serves n (h, l) (λ i i>0 m. (worked i i>0 (omega arith), below i i>0 m)) (worked j h (omega arith)) s

      nought : (x : Answer ℕ) → ¬ refusal_of x ≡ 0 → f ≡ k_of x → f ≡ 0
      nought (got k) n q = absurd (n refl)
      nought (refused r) n q = q

      alone : (x : Answer ℕ) → refusal_of x ≡ 0 → k_of x ≡ 0 → Answered g c limit A x → OneProduction g A
      alone x z y (one-production o) = o
      alone x z y (serves n h below w s) = absurd (omega (arith, h.0, y))
      alone x z y (passed_on n h below o) = absurd (omega (arith, z))
      alone x z y (own-set n h below enough o) = absurd (omega (arith, z))
      alone x z y (none-serves n below) = absurd (omega (arith, z))

      not-worked : (x : Answer ℕ) → refusal_of x ≡ 11 → Answered g c limit A x → ¬ OneProduction g A × NotWorkedOut g c limit A
      not-worked x z (one-production o) = absurd (omega (arith, z))
      not-worked x z (serves n h below w s) = absurd (omega (arith, z))
      not-worked x z (passed_on {k = k} n h below o) = (n, (k, h, below, inl o))
      not-worked x z (own-set {k = k} n h below enough o) = (n, (k, h, below, inr (enough, o)))
      not-worked x z (none-serves n below) = absurd (omega (arith, z))

      no-k : (x : Answer ℕ) → refusal_of x ≡ 22 → Answered g c limit A x → ¬ OneProduction g A × NoneBelow g c A (suc limit)
      no-k x z (one-production o) = absurd (omega (arith, z))
      no-k x z (serves n h below w s) = absurd (omega (arith, z))
      no-k x z (passed_on n h below o) = absurd (omega (arith, z))
      no-k x z (own-set n h below enough o) = absurd (omega (arith, z))
      no-k x z (none-serves n below) = (n, below)

pub told-right : ToldRight
told-right g limit c r A a = told g limit c A a.answer a.refusal a.k a.answered
