-- The call's ways out: what is told, written and wiped is what the definition has. Assumes nothing.
use Prim.Native.Nat.{ℕ, zero, suc, ◌+◌, ◌<◌}
use native.Mathlib.Omega.{arith}
use mathlib.Core.Path.{◌≡◌, refl, sym, ap, ap₂, ◌∙◌, subst}
use mathlib.Core.List.{List, [], ◌∷◌, ◌++◌, map}
use lib.ListN.{length, drop}
use Rattle.k_tuples.specs.Work.{Answer, got, refused}
use Rattle.analysis.specs.Analysis.{result_needs, scratch_needs}
use Rattle.decision_theory.specs.Needed.{Decided, decide, each_from}
use Rattle.decision_theory.specs.Automaton.{State, automaton, automata_bytes, all_decided, automata}
use Rattle.decision_theory.proofs.Automaton.{lowest-refused}
use Rattle.decision.specs.declared.Layout.{Layout}
use Rattle.decision.specs.declared.Links.{Links}
use Rattle.decision.specs.Call.{Record, Promised as Answered}
use Rattle.decision.specs.Steps.{grammar_of, Given, Beyond}
use Rattle.decision.specs.Onward.{first_refusal, Wiped}
use Rattle.decision.proofs.Onward.{needed-decided}
use Rattle.decision.proofs.Going.{answers_of, Onward, refused-whole, refused-one, goes_on}
use Rattle.decision.proofs.Further.{wiped-on, how, call_known, call-reached, wiped-after}
use Rattle.std.specs.Prelude.{Result, Ok, Err}
use Rattle.refusals.specs.declared.Refusal.{Refusal}
use Rattle.refusals.specs.declared.Refusal.TheVariants.{TooManyStates}
use Rattle.automaton.specs.Call.{recorded, record_of, bytes_after, Promised}
use Rattle.automaton.specs.declared.task.Task.{Task}
use Rattle.engine.specs.Call.{wiped}
use Rattle.automaton.specs.Steps.{trees_of, tree, tree_by, AllSized, Sizes, Measured, Totals, Wrote, answer_for, Made, Done}
use Rattle.automaton.proofs.Counting.{large-answer, total-short, total-fits, sum_is}

-- ---- where every nonterminal is decided

module _ (task : Task) (out result scratch : List ℕ) where
  abbrev T : ℕ → List State
  T = trees_of task

  abbrev n : ℕ
  n = task.layout.n

  -- a tree of too many states: nothing is written
  pub made-over : {r : Result (List ℕ) Refusal} {result₁ scratch₁ : List ℕ} → Measured task result scratch r result₁ scratch₁ → (e : Refusal) → r ≡ Err e → Made task out result scratch (Err e) out result₁ scratch₁
  unfolding record_of bytes_after
  made-over {r} {result₁} {scratch₁} m e z = by m.sizes
    where
      by : Sizes T n r → Made task out result scratch (Err e) out result₁ scratch₁
      by (Sizes.over q l) =
          let a = large-answer l (length out) in
          let x : Err e ≡ Err TooManyStates = sym z ∙ q in
          let k : e ≡ TooManyStates = cc in
          record { answer = rw (a, k) refl; out-bytes = rw a refl; beyond = m.beyond }
      by (Sizes.sized sizes q s) = let x : Ok sizes ≡ Err e = sym q ∙ z in let y : ◌≡◌ {A = ℕ} 0 1 = cc in absurd (omega arith)

  -- where the sizes are told, they are all trees'
  pub all-sized : {r : Result (List ℕ) Refusal} {result₁ scratch₁ : List ℕ} → Measured task result scratch r result₁ scratch₁ → (sizes : List ℕ) → r ≡ Ok sizes → AllSized T n sizes
  all-sized {r} m sizes z = by m.sizes
    where
      by : Sizes T n r → AllSized T n sizes
      by (Sizes.over q l) = let x : Err TooManyStates ≡ Ok sizes = sym q ∙ z in let y : ◌≡◌ {A = ℕ} 0 1 = cc in absurd (omega arith)
      by (Sizes.sized others q s) = let x : Ok others ≡ Ok sizes = sym q ∙ z in let same : others ≡ sizes = cc in subst (AllSized T n) same s

  module _ {sizes : List ℕ} (sized : AllSized T n sizes) {t : Result ℕ Refusal} (totals : Totals n sizes (length out) t) where
    -- too few bytes: nothing is written
    pub made-short : {result₁ scratch₁ : List ℕ} → Beyond task.c (grammar_of task.table.now) result scratch result₁ scratch₁ → (e : Refusal) → t ≡ Err e → Made task out result scratch (Err e) out result₁ scratch₁
    unfolding record_of bytes_after
    made-short b e z = let (k, a) = total-short sized totals e z in record { answer = rw (a, k) refl; out-bytes = rw a refl; beyond = b }

    -- no refusal: the bytes are written
    pub made-all : {result₁ scratch₁ : List ℕ} → Beyond task.c (grammar_of task.table.now) result scratch result₁ scratch₁ → (bytes : ℕ) → t ≡ Ok bytes → {out' result₂ scratch₂ : List ℕ}
        → Wrote task sizes out result₁ scratch₁ out' result₂ scratch₂ → Made task out result scratch (Ok bytes) out' result₂ scratch₂
    unfolding record_of bytes_after
    made-all b bytes z w =
        let (fit, a, q) = total-fits sized totals bytes z in
        record {
          answer = rw (a, q) refl;
          out-bytes = rw a (w.written ∙ ap (λ (m : ℕ). automata_bytes (each_from T 0 n) ++ drop m out) (sym (sum_is sized)));
          beyond = record { result-beyond = w.beyond.result-beyond ∙ b.result-beyond; scratch-beyond = w.beyond.scratch-beyond ∙ b.scratch-beyond };
        }

  -- both buffers are wiped
  pub made-wiped : {r : Result ℕ Refusal} {out' result₁ scratch₁ result₂ scratch₂ : List ℕ} → Made task out result scratch r out' result₁ scratch₁ → Wiped task.c (grammar_of task.table.now) result₁ scratch₁ result₂ scratch₂
      → Done task out result scratch r out' result₂ scratch₂
  made-wiped {result₁ = result₁} {scratch₁ = scratch₁} m w = record {
    answer = m.answer;
    out-bytes = m.out-bytes;
    result_words = wiped-on (result_needs task.c (grammar_of task.table.now)) result result₁ m.beyond.result-beyond w.result_words;
    scratch-words = wiped-on (scratch_needs task.c (grammar_of task.table.now)) scratch scratch₁ m.beyond.scratch-beyond w.scratch-words;
  }

-- ---- the whole call

-- a layout has the grammar's nonterminals
pub planned-n : {limit c : ℕ} {table : List ℕ} {u : Layout} {links : Links} {m n : ℕ} → Given limit c table u links m n → u.n ≡ (grammar_of table).n
planned-n given = given.sized.n

-- decisions that are all got, and their trees
decided-trees : (F : ℕ → Answer Decided) (i n : ℕ) → ((j : ℕ) → j < n → (d : Decided) × (F (i + j) ≡ got d))
    → (ds : List Decided) × (all_decided (each_from F i n) ≡ got ds) × (map automaton ds ≡ each_from (λ A. tree_by (F A)) i n)
unfolding all_decided
decided-trees F i zero h = ([], refl, refl)
decided-trees F i (suc n) h =
    let z : i + 0 ≡ i = omega arith in
    let (d, e) = h 0 (omega arith) in
    let (ds, q, t) = decided-trees F (suc i) n (λ j l. let (d, e) = h (suc j) (omega arith) in let y : i + suc j ≡ suc i + j = omega arith in (d, ap F (sym y) ∙ e)) in
    let f : F i ≡ got d = ap F (sym z) ∙ e in
    (d ∷ ds, rw (f, q), ap₂ (λ (S : List State) (R : List (List State)). S ∷ R) (ap tree_by (sym f)) t)

module _ (limit c : ℕ) (table result scratch result₁ scratch₁ : List ℕ) (d : Record) (answers : Answered limit c table result scratch d result₁ scratch₁) {x : ℕ} (first : x ≡ first_refusal d.refusal d.refusals) where
  -- a refusal of K3 is passed on
  pub call-refused : (out : List ℕ) → (x ≡ 0 → ⊥) → Promised limit c table out result scratch (record { refusal = x; bytes = 0 }) out result₁ scratch₁
  unfolding record_of bytes_after automata
  call-refused out ne = by (how limit c table result scratch result₁ scratch₁ d answers first)
    where
      by : Onward limit c table (length result) (length scratch) d.ks x → Promised limit c table out result scratch (record { refusal = x; bytes = 0 }) out result₁ scratch₁
      by (refused-whole n e) = record { answer = rw e refl; out-bytes = rw e refl; result_words = answers.result_words; scratch-words = answers.scratch-words }
      by (refused-one w n A l e low) =
          let q : all_decided (answers_of limit c table) ≡ refused x = lowest-refused (answers_of limit c table) A x l e low in
          record { answer = rw (w.called, q) refl; out-bytes = rw (w.called, q) refl; result_words = answers.result_words; scratch-words = answers.scratch-words }
      by (goes_on w z k) = absurd (ne z)

  module _ (z : x ≡ 0) where
    -- the definition answers by the trees
    answer-is : (room : ℕ) → automata limit c table (length result) (length scratch) room ≡ answer_for room (each_from (tree limit c (grammar_of table)) 0 (grammar_of table).n)
    unfolding automata answer_for
    answer-is room =
        let F : ℕ → Answer Decided = λ A. decide c (grammar_of table) A limit in
        let (ds, e, t) = decided-trees F 0 (grammar_of table).n (λ j h. let y : 0 + j ≡ j = omega arith in let (d, q, p) = needed-decided c (grammar_of table) j limit _ ((call_known limit c table result scratch result₁ scratch₁ d answers first z).each j h) in (d, ap F y ∙ q)) in
        rw ((call-reached limit c table result scratch result₁ scratch₁ d answers first z).called, e, t) refl

    -- the outcome by the trees is that of the definition
    pub call-done : (out : List ℕ) (r : Result ℕ Refusal) {n : ℕ} {out₂ result₂ scratch₂ : List ℕ} → n ≡ (grammar_of table).n
        → recorded r ≡ record_of (answer_for (length out) (each_from (tree limit c (grammar_of table)) 0 n)) → out₂ ≡ bytes_after out (answer_for (length out) (each_from (tree limit c (grammar_of table)) 0 n))
        → result₂ ≡ wiped (result_needs c (grammar_of table)) result₁ → scratch₂ ≡ wiped (scratch_needs c (grammar_of table)) scratch₁ → Promised limit c table out result scratch (recorded r) out₂ result₂ scratch₂
    call-done out r {n} {out₂} e told written R₁ S₁ =
        let (R, S) = wiped-after limit c table result scratch result₁ scratch₁ d answers first z (record { result_words = R₁; scratch-words = S₁ }) in
        let same : answer_for (length out) (each_from (tree limit c (grammar_of table)) 0 n) ≡ automata limit c table (length result) (length scratch) (length out) =
        ap (λ (m : ℕ). answer_for (length out) (each_from (tree limit c (grammar_of table)) 0 m)) e ∙ sym (answer-is (length out)) in
        record {
          answer = told ∙ ap record_of same;
          out-bytes = written ∙ ap (bytes_after out) same;
          result_words = R;
          scratch-words = S;
        }
