-- The strings that are wanted are well formed at the table's width, so the rows of the automata, written in words, are accepted. Assumes nothing.
use Prim.Native.Nat.{ℕ, zero, suc, ◌+◌, ◌≤◌, ◌<◌}
use native.Mathlib.Omega.{arith}
use mathlib.Core.Path.{◌≡◌, sym, ap, ◌∙◌, subst}
use mathlib.Core.Bool.{true}
use mathlib.Core.Logic.{◌↔◌}
use mathlib.Core.List.{List}
use lib.ListN.{length, get_or}
use Rattle.cfg.specs.Grammar.{Grammar, Accepted}
use Rattle.k_tuple.specs.Strings.{well_formed, width_of}
use Rattle.k_tuple.proofs.Binary.{width-holds, width-le, width-pos}
use Rattle.k_tuples.specs.Sets.{◌∈◌}
use Rattle.k_tuples.specs.States.{Each, each_none, each_more}
use Rattle.k_tuples.specs.Work.{Answer, got, refused}
use Rattle.k_tuples.proofs.Work.{not-got, got-inj}
use Rattle.k_tuples.proofs.Proper.{proper-fits}
use Rattle.decision_theory.specs.Needed.{OneProduction, Needs, needs-none, smallest, Decided, only_k, decide, needed_k, Answered, one-production, serves, passed_on, own-set, none-serves}
use Rattle.decision_theory.specs.Automaton.{AllAre}
use Rattle.decision_theory.specs.Marking.{Row, Wanted, row_at, automata_rows}
use Rattle.decision_theory.proofs.Ahead.{ahead-proper}
use Rattle.decision_theory.proofs.Automaton.{grammar-of, rights}
use Rattle.decision_theory.proofs.Call.{one-grammar}
use Rattle.decision_theory.proofs.Listed.{automata-accepted}
use Rattle.decision_theory.proofs.Marking.{accepted-exactly}
use Rattle.decision_theory.proofs.Needed.{answered, needs-one}
use Rattle.decision.specs.Steps.{grammar_of}
use Rattle.decision.proofs.Answering.{table-ok, table-is-read}
use Rattle.decision.proofs.Going.{answers_of, answer_at, answers-length, Reached, reached}
use Rattle.decision.proofs.Further.{reads-grammar}
use Rattle.marking.specs.Rows.{rows_in}
use Rattle.marking.specs.Call.{width_in}
use Rattle.marking.specs.Promises.{words_of, WrittenAccepted}
use Rattle.marking.proofs.Kept.{automata-rows-accepted}
use Rattle.marking.proofs.Writing.{rows-read}

-- what is decided for each is got at each place
got-at : {ms : List (Answer Decided)} {ds : List Decided} → Each (λ (m : Answer Decided) (d : Decided). m ≡ got d) ms ds → (A : ℕ) → A < length ms → (d : Decided) × (get_or ms A (refused 0) ≡ got d)
got-at each_none A h = absurd (omega arith)
got-at (each_more {b = d} e more) zero h = (d, e)
got-at (each_more e more) (suc A) h = got-at more A (omega arith)

module _ {limit c : ℕ} {table : List ℕ} {result scratch : ℕ} {ds : List Decided} (all : AllAre limit c table result scratch ds) where
  abbrev g : Grammar
  g = grammar_of table

  tests : Reached limit c table result scratch
  tests = reached limit c table result scratch all.answers_of all.called

  ok : Accepted g
  ok = table-ok tests.on

  -- what is decided for A
  decided-at : (A : ℕ) → A < g.n → (d : Decided) × (decide c g A limit ≡ got d)
  decided-at A h =
      let same : all.answers_of ≡ answers_of limit c table = got-inj (sym all.called ∙ tests.called) in
      let long : length all.answers_of ≡ g.n = ap length same ∙ answers-length tests.on in
      let (d, e) = got-at all.each A (omega arith) in
      (d, sym (answer_at tests.on A h) ∙ ap (λ (l : List (Answer Decided)). get_or l A (refused 0)) (sym same) ∙ e)

  -- every k that is needed is at most 10
  k-small : (A : ℕ) → A < g.n → (k : ℕ) → Needs g A k → k ≤ 10
  unfolding needed_k
  k-small A h k needs = let (d, e) = decided-at A h in by d.k (needed_k c g A limit) (ap only_k e) (answered g ok c tests.on.c>0 A limit)
    where
      by : (m : ℕ) (x : Answer ℕ) → x ≡ got m → Answered g c limit A x → k ≤ 10
      by m x e (one-production o) = let z = needs-one g A needs (needs-none o) in omega arith
      by m x e (serves {k = j} n b low w s) = let z = needs-one g A needs (smallest n b.0 s (λ i p q. (low i p q).1)) in let l = b.1 in let t = tests.on.limit<11 in omega arith
      by m x e (passed_on n b low o) = not-got e
      by m x e (own-set n b low enough o) = not-got e
      by m x e (none-serves n low) = not-got e

  -- and not 0 where there are several productions
  k-some : (A k : ℕ) → ¬ OneProduction g A → Needs g A k → 1 ≤ k
  k-some A k n (needs-none o) = absurd (n o)
  k-some A k n (smallest m h s none) = h

  -- a string that is wanted is well formed
  pub wanted-well : (x : Row) → Wanted g x → well_formed (width_in table) x.string ≡ true
  wanted-well x w =
      let few = (table-is-read tests.on).terminals in
      let m = g.t + 5 in
      let k>0 = k-some x.nonterminal w.k w.several w.needs in
      let k<11 = k-small x.nonterminal w.inside w.k w.needs in
      let proper = ahead-proper g ok w.k k>0 x.production w.own.0 w.word w.ahead (width_of m) (omega (arith, width-holds m (omega arith))) in
      rw w.spelled (proper-fits w.k (width_of m) _ (width-pos m) (width-le m (omega arith)) k>0 k<11 proper).well

  -- so is every string of the automata
  pub automata-well : (x : Row) → x ∈ automata_rows ds → well_formed (width_in table) x.string ≡ true
  automata-well x i =
      let f = grammar-of limit c table result scratch ds all in
      let right = rights limit c table result scratch ds all in
      let a = (accepted-exactly f.g ds right (automata_rows ds)).0 (automata-accepted f.g f.accepted ds right) in
      wanted-well x (subst (λ (h : Grammar). Wanted h x) (one-grammar table f.reads (reads-grammar tests.on)) (a.wanted x i))

pub written-accepted : WrittenAccepted
written-accepted limit c table ρ result scratch r R S p ds all same once =
    let w = width_in table in
    let read : rows_in w (words_of w ρ) ≡ ρ = rows-read w ρ (λ x i. automata-well all x ((same x).0 i)) in
    automata-rows-accepted limit c table (words_of w ρ) result scratch r R S p ds all
    (subst (λ (l : List Row). (x : Row) → x ∈ l ↔ x ∈ automata_rows ds) (sym read) same)
    (subst (λ (l : List Row). (i j : ℕ) → i < j → j < length l → ¬ (row_at l i ≡ row_at l j)) (sym read) once)
