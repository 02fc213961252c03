-- The call's ways out: what each test says of the analysis, and so of the answer and the lent words. Assumes nothing.
use Prim.Native.Nat.{ℕ, ◌≤◌, ◌<◌}
use native.Mathlib.Omega.{arith}
use mathlib.Core.Path.{◌≡◌, refl, sym, subst}
use mathlib.Core.Bool.{Bool, true, false}
use mathlib.Core.List.{List}
use borrow.Author.Tests.{le-leb, lt-leb}
use lib.Dec.{eqb}
use lib.ListN.{length}
use Rattle.cfg.specs.Grammar.{Grammar}
use Rattle.cfg.specs.Reading.{Reading, pick, ◌then◌, got as read, refused as unread}
use Rattle.cfg.specs.Table.{read_table}
use Rattle.cfg.specs.Accept.{test_refusal, accept_table}
use Rattle.cfg.proofs.Field.{got-refused}
use Rattle.cfg.proofs.Refusals.{table-refusals}
use Rattle.cfg.proofs.Meaning.{TableRead, table-read, Tested, unproductive-eight, left-recursive-nine, passed_none, tested}
use Rattle.k_tuples.specs.Work.{Answer, refused}
use Rattle.analysis.specs.Analysis.{Analysis, analyse, result_needs, scratch_needs}
use Rattle.engine.specs.Call.{Record, answer_of, result_needed, scratch_needed, result_after, scratch_after, Left, Promised}
use Rattle.engine.specs.Steps.{on_grammar, Worked, Asked}

-- ---- refusals 1 to 10 leave the words as they came

pub untouched : {m : Answer Analysis} {k c needed needed' r : ℕ} {x : Record} (result scratch : List ℕ) → r ≤ 10 → m ≡ refused r → x ≡ answer_of (refused r)
    → Left m k c needed needed' result scratch x result scratch
unfolding result_after scratch_after
untouched {r = r} result scratch h e a = rw e (record { answer = a; result_words = rw (le-leb r 10 h); scratch-words = rw (le-leb r 10 h) })

-- ---- the tests of k and c

module _ (k c : ℕ) (table result scratch : List ℕ) {x : Record} where
  pub k-low : k < 1 → x ≡ answer_of (refused 1) → Promised k c table result scratch x result scratch
  unfolding analyse
  k-low h a = untouched result scratch (omega arith) (rw (lt-leb 1 k h)) a

  module _ (k>0 : 1 ≤ k) where
    pub k-high : 10 < k → x ≡ answer_of (refused 1) → Promised k c table result scratch x result scratch
    unfolding analyse
    k-high h a = untouched result scratch (omega arith) (rw (le-leb 1 k k>0, lt-leb k 10 h)) a

    module _ (k<11 : k ≤ 10) where
      pub c-low : c < 1 → x ≡ answer_of (refused 2) → Promised k c table result scratch x result scratch
      unfolding analyse
      c-low h a = untouched result scratch (omega arith) (rw (le-leb 1 k k>0, le-leb k 10 k<11, lt-leb 1 c h)) a

      module _ (c>0 : 1 ≤ c) where
        pub c-high : 1024 < c → x ≡ answer_of (refused 2) → Promised k c table result scratch x result scratch
        unfolding analyse
        c-high h a = untouched result scratch (omega arith) (rw (le-leb 1 k k>0, le-leb k 10 k<11, le-leb 1 c c>0, lt-leb c 1024 h)) a

-- ---- the table

tested-small : (g : Grammar) (t : TableRead g) (r : ℕ) → Tested g t.numbered r → r ≤ 9
tested-small g t r (unproductive-eight a l u) = omega arith
tested-small g t r (left-recursive-nine p l) = omega arith
tested-small g t r (passed_none p l) = omega arith

-- a table is refused by 3 to 9
pub refusal-small : (table : List ℕ) (r : ℕ) → accept_table table ≡ unread r → r ≤ 9
unfolding accept_table
refusal-small table r e = by (read_table table) refl e
  where
    by : (m : Reading Grammar) → read_table table ≡ m → (m then λ g next. pick (eqb (test_refusal g.productions g.n) 0) (read g next) (unread (test_refusal g.productions g.n))) ≡ unread r → r ≤ 9
    by (unread s) f e = let same : s ≡ r = cc in let l = table-refusals table s f in omega arith
    by (read g next) f e = on (eqb (test_refusal g.productions g.n) 0) e
      where
        on : (b : Bool) → pick b (read g next) (unread (test_refusal g.productions g.n)) ≡ unread r → r ≤ 9
        on true e = absurd (got-refused e)
        on false e =
            let same : test_refusal g.productions g.n ≡ r = cc in
            let t = table-read table g next f in
            subst (λ (s : ℕ). s ≤ 9) same (tested-small g t (test_refusal g.productions g.n) (tested g t.numbered))

module _ (k c : ℕ) (table result scratch : List ℕ) (k>0 : 1 ≤ k) (k<11 : k ≤ 10) (c>0 : 1 ≤ c) (c<1025 : c ≤ 1024) {x : Record} where
  pub table-refused : (r : ℕ) → unread r ≡ accept_table table → x ≡ answer_of (refused r) → Promised k c table result scratch x result scratch
  unfolding analyse
  table-refused r e a =
      let small = refusal-small table r (sym e) in
      untouched result scratch (omega arith) (rw (le-leb 1 k k>0, le-leb k 10 k<11, le-leb 1 c c>0, le-leb c 1024 c<1025, ← e)) a

  -- the analysis goes on with the grammar
  pub table-accepted : (g : Grammar) (next : ℕ) (result' scratch' : List ℕ) → read g next ≡ accept_table table
      → Asked k c g result scratch x result' scratch' → Promised k c table result scratch x result' scratch'
  unfolding analyse on_grammar result_needed scratch_needed
  table-accepted g next result' scratch' e l = rw (le-leb 1 k k>0, le-leb k 10 k<11, le-leb 1 c c>0, le-leb c 1024 c<1025, ← e) l

-- ---- the lent words

module _ (k c : ℕ) (g : Grammar) (result scratch : List ℕ) {x : Record} where
  pub result-short : {needed : ℕ} → needed ≡ result_needs c g → length result < needed → x ≡ answer_of (refused 10) → Asked k c g result scratch x result scratch
  unfolding on_grammar
  result-short {needed} e h a = untouched result scratch (omega arith) (rw (← e, lt-leb needed (length result) h)) a

  module _ {needed : ℕ} (e : needed ≡ result_needs c g) (enough : needed ≤ length result) {work-needed : ℕ} (f : work-needed ≡ scratch_needs c g) where
    pub scratch-short : length scratch < work-needed → x ≡ answer_of (refused 10) → Asked k c g result scratch x result scratch
    unfolding on_grammar
    scratch-short h a = untouched result scratch (omega arith) (rw (← e, ← f, le-leb needed (length result) enough, lt-leb work-needed (length scratch) h)) a

    pub enough-words : (result' scratch' : List ℕ) → work-needed ≤ length scratch → Worked k c g result scratch x result' scratch' → Asked k c g result scratch x result' scratch'
    unfolding on_grammar
    enough-words result' scratch' h l =
        rw (le-leb (result_needs c g) (length result) (rw e at enough), le-leb (scratch_needs c g) (length scratch) (rw f at h)) l
