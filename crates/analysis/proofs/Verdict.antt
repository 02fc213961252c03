-- Every input has its verdict, and one only. Assumes nothing.
use Prim.Native.Nat.{ℕ, ◌≤◌}
use mathlib.Core.Bool.{Bool, true, false, ◌&&◌}
use mathlib.Core.List.{List}
use mathlib.Core.Path.{◌≡◌, refl, sym, ap, ◌∙◌, subst}
use lib.Dec.{leb, leb→le, le→leb}
use lib.ListN.{length}
use Rattle.cfg.specs.Grammar.{Grammar, LeftRecursive, Accepted}
use Rattle.cfg.specs.Reading.{Reading, got as read, refused as unread, ◌then◌}
use Rattle.cfg.specs.Table.{read_table}
use Rattle.cfg.specs.Write.{Bytes}
use Rattle.cfg.proofs.RoundTrip.{written_read, read-written}
use Rattle.cfg.proofs.Exactly.{table-refused, refused-by}
use Rattle.cfg.specs.Accept.{accept_table, test_refusal, passes}
use Rattle.cfg.proofs.Meaning.{TableRead, table-read, Tested, unproductive-eight, left-recursive-nine, passed_none, tested}
use Rattle.k_tuples.specs.Work.{Answer, got, refused, ◌>>=◌, ◌>>◌, demand}
use Rattle.k_tuples.proofs.Work.{not-got}
use Rattle.k_tuples.proofs.Tests.{passed, fails, and_left, and_right, and_both, holds, unpassed}
use Rattle.analysis.specs.Analysis.{Analysis, work, accepts, analyse, result_needs, scratch_needs}
use Rattle.analysis.specs.Promises.{Between, IsTableOf, AllProductive, EnoughWords, Verdict, AnswersAll, OneAnswer}
use Rattle.analysis.proofs.Kept.{not-refused, answers-right, only-eleven, eleven-exactly}
use Rattle.analysis.proofs.One.{answers_one}

both-le : (a b c d : ℕ) → (leb a b && leb c d) ≡ true → (a ≤ b) × (c ≤ d)
both-le a b c d e = (leb→le a b (and_left (leb a b) (leb c d) (passed e)), leb→le c d (and_right (leb a b) (leb c d) (passed e)))

not-both-le : (a b c d : ℕ) → (leb a b && leb c d) ≡ false → ¬ ((a ≤ b) × (c ≤ d))
not-both-le a b c d e h = fails e (and_both (leb a b) (leb c d) (le→leb a b h.0) (le→leb c d h.1))

module _ (k c : ℕ) (table : List ℕ) (result scratch : ℕ) where
  abbrev Is : Answer Analysis → Type 0
  Is = Verdict k c table result scratch

  module _ (hk : Between 1 10 k) (hc : Between 1 1024 c) (g : Grammar) (reads : IsTableOf g table) where
    on-work : Accepted g → EnoughWords g c result scratch → Is (work k c g)
    on-work ok words = by (work k c g) refl
      where
        by : (m : Answer Analysis) → work k c g ≡ m → Is m
        by (refused r) e =
            let eleven : r ≡ 11 = only-eleven g k c ok hk.0 hc.0 r e in
            subst (λ (i : ℕ). Is (refused i)) (sym eleven) (Verdict.no_room hk hc reads ok words ((eleven-exactly g k c ok hk.0 hc.0).0 (e ∙ ap refused eleven)))
        by (got a) e =
            Verdict.analysed hk hc reads ok words
            (λ o. not-got (sym ((eleven-exactly g k c ok hk.0 hc.0).1 o) ∙ e))
            (answers-right g k c ok hk.0 hc.0 a e)

    on-words : Accepted g → Is (demand 10 (leb (result_needs c g) result && leb (scratch_needs c g) scratch) >> work k c g)
    on-words ok = by (leb (result_needs c g) result && leb (scratch_needs c g) scratch) refl
      where
        by : (b : Bool) → (leb (result_needs c g) result && leb (scratch_needs c g) scratch) ≡ b → Is (demand 10 b >> work k c g)
        by true e = on-work ok (both-le (result_needs c g) result (scratch_needs c g) scratch e)
        by false e = Verdict.few_words hk hc reads ok (not-both-le (result_needs c g) result (scratch_needs c g) scratch e)

    abbrev Rest : Grammar → Answer Analysis
    Rest g = demand 10 (leb (result_needs c g) result && leb (scratch_needs c g) scratch) >> work k c g

    -- the tests of a table that is read
    on-tests : (next : ℕ) (t : TableRead g) (r : ℕ) → Tested g t.numbered r → Is (accepts (passes r g next) >>= Rest)
    on-tests next t r (unproductive-eight a l u) = Verdict.unproductive hk hc reads (λ all. u (all a l))
    on-tests next t r (left-recursive-nine p l) = Verdict.left-recursive hk hc reads p l
    on-tests next t r (passed_none p l) = on-words (record { ranged = t.ranged; productive = p; not-left-recursive = l })

  on-table : Bytes table → Between 1 10 k → Between 1 1024 c → Is (accepts (accept_table table) >>= (λ g. demand 10 (leb (result_needs c g) result && leb (scratch_needs c g) scratch) >> work k c g))
  unfolding accept_table
  on-table bytes hk hc = by (read_table table) refl
    where
      by : (r : Reading Grammar) → read_table table ≡ r
          → Is (accepts (r then λ g next. passes (test_refusal g.productions g.n) g next) >>= (λ g. demand 10 (leb (result_needs c g) result && leb (scratch_needs c g) scratch) >> work k c g))
      by (unread r) e = Verdict.bad-table hk hc ((table-refused table bytes r).0 e)
      by (read g next) e =
          let t = table-read table g next e in
          let (written, limits) = read-written table bytes g next e in
          on-tests hk hc g (record { written = written; limits = limits }) next t (test_refusal g.productions g.n) (tested g t.numbered)

pub answers-all : AnswersAll
unfolding analyse
answers-all k c table result scratch bytes = on-k (leb 1 k && leb k 10) refl
  where
    on-c : Between 1 10 k → (b : Bool) → (leb 1 c && leb c 1024) ≡ b
        → Verdict k c table result scratch (demand 2 b >> (accepts (accept_table table) >>= (λ g. demand 10 (leb (result_needs c g) result && leb (scratch_needs c g) scratch) >> work k c g)))
    on-c hk true e = on-table k c table result scratch bytes hk (both-le 1 c c 1024 e)
    on-c hk false e = Verdict.bad-room hk (not-both-le 1 c c 1024 e)

    on-k : (b : Bool) → (leb 1 k && leb k 10) ≡ b
        → Verdict k c table result scratch (demand 1 b >> (demand 2 (leb 1 c && leb c 1024) >> (accepts (accept_table table) >>= (λ g. demand 10 (leb (result_needs c g) result && leb (scratch_needs c g) scratch) >> work k c g))))
    on-k true e = on-c (both-le 1 k k 10 e) (leb 1 c && leb c 1024) refl
    on-k false e = Verdict.bad-k (not-both-le 1 k k 10 e)

-- ---- and only one

pub le-both : (a b c d : ℕ) → (a ≤ b) × (c ≤ d) → (leb a b && leb c d) ≡ true
le-both a b c d h = holds (leb a b && leb c d) (and_both (leb a b) (leb c d) (le→leb a b h.0) (le→leb c d h.1))

not-le-both : (a b c d : ℕ) → ¬ ((a ≤ b) × (c ≤ d)) → (leb a b && leb c d) ≡ false
not-le-both a b c d h =
    unpassed (leb a b && leb c d) (λ t. h (leb→le a b (and_left (leb a b) (leb c d) t), leb→le c d (and_right (leb a b) (leb c d) t)))

-- an accepted grammar passes the tests of a table that is read
pub accepted-passes : {g : Grammar} (t : TableRead g) → Accepted g → test_refusal g.productions g.n ≡ 0
accepted-passes {g} t ok = by (test_refusal g.productions g.n) (tested g t.numbered)
  where
    by : (r : ℕ) → Tested g t.numbered r → r ≡ 0
    by r (unproductive-eight a l u) = absurd (u (ok.productive a l))
    by r (left-recursive-nine _ l) = absurd (ok.not-left-recursive l)
    by r (passed_none _ _) = refl

-- the tests' answer, from what they test
module _ (table : List ℕ) (g : Grammar) (is : IsTableOf g table) where
  -- what is written is read
  reads : read_table table ≡ read g (length table)
  reads = rw is.written (written_read g is.limits)

  t : TableRead g
  t = table-read table g (length table) reads

  abbrev Answer-is : ℕ → Type 0
  Answer-is i = test_refusal g.productions g.n ≡ i

  is-eight : ¬ AllProductive g → Answer-is 8
  is-eight h = by (test_refusal g.productions g.n) (tested g t.numbered)
    where
      by : (r : ℕ) → Tested g t.numbered r → r ≡ 8
      by r (unproductive-eight a l u) = refl
      by r (left-recursive-nine p l) = absurd (h p)
      by r (passed_none p l) = absurd (h p)

  is-nine : AllProductive g → LeftRecursive g → Answer-is 9
  is-nine p l = by (test_refusal g.productions g.n) (tested g t.numbered)
    where
      by : (r : ℕ) → Tested g t.numbered r → r ≡ 9
      by r (unproductive-eight a l u) = absurd (u (p a l))
      by r (left-recursive-nine _ _) = refl
      by r (passed_none _ n) = absurd (n l)

  is_none : Accepted g → Answer-is 0
  is_none = accepted-passes t

pub one_answer : OneAnswer
unfolding analyse accept_table
one_answer k c table result scratch m (Verdict.bad-k h) = rw (not-le-both 1 k k 10 h)
one_answer k c table result scratch m (Verdict.bad-room hk h) = rw (le-both 1 k k 10 hk, not-le-both 1 c c 1024 h)
one_answer k c table result scratch m (Verdict.bad-table {r = r} hk hc h) = rw (le-both 1 k k 10 hk, le-both 1 c c 1024 hc, refused-by table r h)
one_answer k c table result scratch m (Verdict.unproductive {g = g} hk hc written h) =
    rw (le-both 1 k k 10 hk, le-both 1 c c 1024 hc, reads table g written, is-eight table g written h)
one_answer k c table result scratch m (Verdict.left-recursive {g = g} hk hc written p l) =
    rw (le-both 1 k k 10 hk, le-both 1 c c 1024 hc, reads table g written, is-nine table g written p l)
one_answer k c table result scratch m (Verdict.few_words {g = g} hk hc written ok h) =
    rw (le-both 1 k k 10 hk, le-both 1 c c 1024 hc, reads table g written, is_none table g written ok, not-le-both (result_needs c g) result (scratch_needs c g) scratch h)
one_answer k c table result scratch m (Verdict.no_room {g = g} hk hc written ok h o) =
    rw (
      le-both 1 k k 10 hk,
      le-both 1 c c 1024 hc,
      reads table g written,
      is_none table g written ok,
      le-both (result_needs c g) result (scratch_needs c g) scratch h,
      (eleven-exactly g k c ok hk.0 hc.0).1 o,
    )
one_answer k c table result scratch m (Verdict.analysed {g = g} {a = a} hk hc written ok h enough is) =
    let (b, e) = not-refused g k c ok hk.0 hc.0 enough in
    rw
    (le-both 1 k k 10 hk, le-both 1 c c 1024 hc, reads table g written, is_none table g written ok, le-both (result_needs c g) result (scratch_needs c g) scratch h, e)
    (ap got (answers_one g k c a b is (answers-right g k c ok hk.0 hc.0 b e)))
