-- What is promised of the call is kept. Assumes nothing.
use Prim.Native.Nat.{ℕ}
use native.Mathlib.Omega.{arith}
use mathlib.Core.Path.{◌≡◌, sym, ap, ◌∙◌, subst}
use mathlib.Core.Logic.{⊎_elim}
use mathlib.Core.List.{List}
use lib.ListN.{length}
use Rattle.cfg.specs.Grammar.{Grammar}
use Rattle.k_tuples.specs.Work.{Answer, got, refused}
use Rattle.decision_theory.specs.Needed.{Decided, Reads, needed_ks}
use Rattle.decision_theory.specs.Automaton.{AllAre}
use Rattle.decision_theory.specs.Marking.{Row, AllGiven, FirstBad, FirstMissing, Marked, all-given, first-bad, first-missing, Mark as Marking, mark, CallMarked, mark-refused, one-refused, marked-as, automata_rows}
use Rattle.decision_theory.proofs.Automaton.{grammar-of, rights}
use Rattle.decision_theory.proofs.Marking.{accepted-exactly}
use Rattle.decision_theory.proofs.Listed.{automata-accepted}
use Rattle.decision_theory.proofs.Kept.{mark-all, mark-one}
use Rattle.decision.specs.Call.{words_after}
use Rattle.decision.proofs.Further.{whole-between, one-between}
use Rattle.marking.specs.Rows.{rows_in}
use Rattle.marking.specs.Call.{Record, width_in, record_of, Promised}
use Rattle.marking.specs.Promises as P

-- ---- one outcome

pub mark-one-outcome : P.MarkOne
mark-one-outcome limit c table rows result scratch r s R S R' S' p q =
    (p.answer ∙ sym q.answer, p.result_words ∙ sym q.result_words, p.scratch-words ∙ sym q.scratch-words)

pub mark-answers : P.MarkAnswers
mark-answers limit c table rows result scratch r R S p = record {
  case = mark limit c table (length result) (length scratch) (rows_in (width_in table) rows);
  answered = mark-all limit c table (length result) (length scratch) (rows_in (width_in table) rows);
  told = p.answer;
}

-- ---- the outcome by the answer

module _ (limit c : ℕ) (table rows result scratch : List ℕ) (r : Record) (R S : List ℕ) (p : Promised limit c table rows result scratch r R S) where
  abbrev ρ : List Row
  ρ = rows_in (width_in table) rows

  -- what the rules give is told
  given : {m : Answer Marking} → CallMarked limit c table (length result) (length scratch) ρ m → r ≡ record_of (width_in table) m
  given {m} a = p.answer ∙ ap (record_of (width_in table)) (sym (mark-one limit c table (length result) (length scratch) ρ m a))

  -- so is the mark where every nonterminal is decided
  decided-given : {Q : Grammar → List Row → Type 0} {x : Marking} → (d : P.Decides limit c table rows result scratch Q) → Marked d.g ρ x → r ≡ record_of (width_in table) (got x)
  decided-given d m = given (marked-as d.decided d.reads m)

  -- the answers by their refusals
  data Outcome : Type 0 where
    of-k3 : (¬ r.refusal ≡ 0) → (¬ r.refusal ≡ 24) → (¬ r.refusal ≡ 25) → (r.row ≡ 0) → (r.nonterminal ≡ 0) × (r.lo ≡ 0) × (r.hi ≡ 0) → Outcome
    of-mark : (ds : List Decided) → AllAre limit c table (length result) (length scratch) ds → (g : Grammar) → Reads table g → (x : Marking) → Marked g ρ x → r ≡ record_of (width_in table) (got x) → Outcome

  -- a refusal of K3
  k3 : (x : ℕ) → (¬ x ≡ 0) → (¬ x ≡ 24) → (¬ x ≡ 25) → r ≡ record_of (width_in table) (refused x) → Outcome
  unfolding record_of
  k3 x a b d e =
      let z : r.refusal ≡ x = ap (λ (y : Record). y.refusal) e in
      of-k3 (λ q. a (sym z ∙ q)) (λ q. b (sym z ∙ q)) (λ q. d (sym z ∙ q)) (ap (λ (y : Record). y.row) e) (ap (λ (y : Record). y.nonterminal) e, ap (λ (y : Record). y.lo) e, ap (λ (y : Record). y.hi) e)

  -- every outcome is one of these
  outcome : Outcome
  outcome = by (mark limit c table (length result) (length scratch) ρ) (mark-all limit c table (length result) (length scratch) ρ) p.answer
    where
      by : (m : Answer Marking) → CallMarked limit c table (length result) (length scratch) ρ m → r ≡ record_of (width_in table) m → Outcome
      by m (mark-refused {r = x} f) e = let b = whole-between limit c table (length result) (length scratch) x f in k3 x (λ q. omega (arith, b.0)) (λ q. omega (arith, b.1)) (λ q. omega (arith, b.1)) e
      by m (one-refused {r = x} l) e =
          ⊎_elim (λ (q : x ≡ 11). k3 x (λ z. omega arith) (λ z. omega arith) (λ z. omega arith) e) (λ (q : x ≡ 22). k3 x (λ z. omega arith) (λ z. omega arith) (λ z. omega arith) e) (one-between limit c table (length result) (length scratch) x l)
      by m (marked-as {ds = ds} {g = g} {x = x} all reads q) e = of-mark ds all g reads x q e

-- the numbers of a mark
number_of : (w : ℕ) (r : Record) (x : Marking) → r ≡ record_of w (got x) → r.refusal ≡ (record_of w (got x)).refusal
number_of w r x e = ap (λ (y : Record). y.refusal) e

-- ---- refusals

pub whole-passed : P.WholePassed
unfolding record_of
whole-passed limit c table rows result scratch r R S p x e = ap (λ (y : Record). y.refusal) (given limit c table rows result scratch r R S p (mark-refused e))

pub lowest-passed : P.LowestPassed
unfolding record_of
lowest-passed limit c table rows result scratch r R S p x l = ap (λ (y : Record). y.refusal) (given limit c table rows result scratch r R S p (one-refused l))

pub accepted-call-exactly : P.AcceptedExactly
unfolding record_of
accepted-call-exactly limit c table rows result scratch r R S p = (
  λ z. by z (outcome limit c table rows result scratch r R S p),
  λ d. ap (λ (y : Record). y.refusal) (decided-given limit c table rows result scratch r R S p d (all-given d.holds)),
)
  where
    by : r.refusal ≡ 0 → Outcome limit c table rows result scratch r R S p → P.Decides limit c table rows result scratch (λ g ρ. AllGiven g ρ)
    by z (of-k3 a b d e f) = absurd (a z)
    by z (of-mark ds all g reads x (all-given a) e) = record { ds = ds; decided = all; g = g; reads = reads; holds = a }
    by z (of-mark ds all g reads x (first-bad b) e) = absurd (let y = ap (λ (y : Record). y.refusal) e in omega arith)
    by z (of-mark ds all g reads x (first-missing n b) e) = absurd (let y = ap (λ (y : Record). y.refusal) e in omega arith)

pub twenty-four-exactly : P.TwentyFourExactly
unfolding record_of
twenty-four-exactly limit c table rows result scratch r R S p i = (
  λ (z, q). by z q (outcome limit c table rows result scratch r R S p),
  λ d. let e = decided-given limit c table rows result scratch r R S p d (first-bad d.holds) in (ap (λ (y : Record). y.refusal) e, ap (λ (y : Record). y.row) e),
)
  where
    by : r.refusal ≡ 24 → r.row ≡ i → Outcome limit c table rows result scratch r R S p → P.Decides limit c table rows result scratch (λ g ρ. FirstBad g ρ i)
    by z q (of-k3 a b d e f) = absurd (b z)
    by z q (of-mark ds all g reads x (all-given a) e) = absurd (let y = ap (λ (y : Record). y.refusal) e in omega arith)
    by z q (of-mark ds all g reads x (first-bad {i = j} b) e) =
        let same : j ≡ i = sym (ap (λ (y : Record). y.row) e) ∙ q in
        record { ds = ds; decided = all; g = g; reads = reads; holds = subst (FirstBad g (rows_in (width_in table) rows)) same b }
    by z q (of-mark ds all g reads x (first-missing n b) e) = absurd (let y = ap (λ (y : Record). y.refusal) e in omega arith)

pub twenty-five-told : P.TwentyFiveTold
unfolding record_of
twenty-five-told limit c table rows result scratch r R S p z = by (outcome limit c table rows result scratch r R S p)
  where
    by : Outcome limit c table rows result scratch r R S p → P.Decides limit c table rows result scratch (λ g ρ. P.MissingTold g (width_in table) ρ r)
    by (of-k3 a b d e f) = absurd (d z)
    by (of-mark ds all g reads x (all-given a) e) = absurd (let y = ap (λ (y : Record). y.refusal) e in omega arith)
    by (of-mark ds all g reads x (first-bad b) e) = absurd (let y = ap (λ (y : Record). y.refusal) e in omega arith)
    by (of-mark ds all g reads x (first-missing {A = A} {z = s} n b) e) =
        let same : A ≡ r.nonterminal = sym (ap (λ (y : Record). y.nonterminal) e) in
        record {
          ds = ds;
          decided = all;
          g = g;
          reads = reads;
          holds = record {
            none-bad = n;
            z = s;
            first = subst (λ (B : ℕ). FirstMissing g (rows_in (width_in table) rows) B s) same b;
            low = ap (λ (y : Record). y.lo) e;
            high = ap (λ (y : Record). y.hi) e;
          };
        }

pub twenty-five-given : P.TwentyFiveGiven
unfolding record_of
twenty-five-given limit c table rows result scratch r R S p A z d = decided-given limit c table rows result scratch r R S p d (first-missing d.holds.0 d.holds.1)

pub others-zero : P.OthersZero
unfolding record_of
others-zero limit c table rows result scratch r R S p = by (outcome limit c table rows result scratch r R S p)
  where
    by : Outcome limit c table rows result scratch r R S p → (¬ r.refusal ≡ 24 → r.row ≡ 0) × (¬ r.refusal ≡ 25 → (r.nonterminal ≡ 0) × (r.lo ≡ 0) × (r.hi ≡ 0))
    by (of-k3 a b d e f) = (λ _. e, λ _. f)
    by (of-mark ds all g reads x (all-given a) e) = (λ _. ap (λ (y : Record). y.row) e, λ _. (ap (λ (y : Record). y.nonterminal) e, ap (λ (y : Record). y.lo) e, ap (λ (y : Record). y.hi) e))
    by (of-mark ds all g reads x (first-bad b) e) = (λ n. absurd (n (ap (λ (y : Record). y.refusal) e)), λ _. (ap (λ (y : Record). y.nonterminal) e, ap (λ (y : Record). y.lo) e, ap (λ (y : Record). y.hi) e))
    by (of-mark ds all g reads x (first-missing n b) e) = (λ _. ap (λ (y : Record). y.row) e, λ q. absurd (q (ap (λ (y : Record). y.refusal) e)))

-- ---- the buffers

pub buffers-untouched : P.BuffersUntouched
unfolding needed_ks words_after
buffers-untouched limit c table rows result scratch r R S p x e = (rw e at p.result_words, rw e at p.scratch-words)

pub buffers-wiped : P.BuffersWiped
unfolding needed_ks words_after
buffers-wiped limit c table rows result scratch r R S p ms e = (rw e at p.result_words, rw e at p.scratch-words)

-- ---- the automata

pub automata-rows-accepted : P.AutomataAccepted
automata-rows-accepted limit c table rows result scratch r R S p ds all same once =
    let f = grammar-of limit c table (length result) (length scratch) ds all in
    let a = (accepted-exactly f.g ds (rights limit c table (length result) (length scratch) ds all) (automata_rows ds)).0 (automata-accepted f.g f.accepted ds (rights limit c table (length result) (length scratch) ds all)) in
    (accepted-call-exactly limit c table rows result scratch r R S p).1 (record {
      ds = ds;
      decided = all;
      g = f.g;
      reads = f.reads;
      holds = record { wanted = λ x m. a.wanted x ((same x).0 m); once = once; whole = λ x w. (same x).1 (a.whole x w) };
    })
