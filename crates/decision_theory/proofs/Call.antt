-- The whole call of K3: every input has its answer, and one only. Assumes nothing.
use Prim.Native.Nat.{ℕ, zero, suc, ◌+◌, ◌<◌}
use native.Mathlib.Omega.{arith}
use mathlib.Core.Path.{◌≡◌, refl, sym, ap, ◌∙◌, subst}
use mathlib.Core.Bool.{Bool, true, false, ◌&&◌}
use mathlib.Core.List.{List, [], ◌∷◌, map}
use lib.Dec.{leb, leb→le, le→leb}
use lib.ListN.{length, get_or, length-map, get_or-map}
use lib.Seq.{ext_get_or}
use Rattle.cfg.specs.Grammar.{Grammar, Accepted}
use Rattle.cfg.specs.Reading.{Reading, got as read, refused as unread, ◌then◌}
use Rattle.cfg.specs.Table.{read_table}
use Rattle.cfg.specs.Accept.{accept_table, test_refusal, passes}
use Rattle.cfg.proofs.Refusals.{table-refusals}
use Rattle.cfg.proofs.Meaning.{TableRead, table-read, Tested, unproductive-eight, left-recursive-nine, passed_none, tested}
use Rattle.k_tuples.specs.States.{Each, each_none, each_more}
use Rattle.k_tuples.specs.Work.{Answer, got, refused, ◌>>=◌, ◌>>◌, demand}
use Rattle.k_tuples.proofs.Work.{not-got, got-inj}
use Rattle.k_tuples.proofs.Tests.{passed, fails, and_left, and_right, and_both}
use Rattle.analysis.specs.Analysis.{Analysis, work, accepts, analyse, result_needs, scratch_needs}
use Rattle.analysis.specs.Promises.{Between, EnoughWords}
use Rattle.analysis.proofs.Kept.{only-eleven}
use Rattle.analysis.proofs.Verdict.{le-both, accepted-passes}
use Rattle.decision_theory.specs.Needed.{each_from, Reads, grammar_for, Decided, decide, only_k, needed_k, decisions, needed_ks, Answered, CallAnswered, bad-limit, as-engine, each-answered, RightFor}
use Rattle.decision_theory.proofs.Needed.{answered, answered-one, decided-right}

-- ---- the engine's tests

-- The test of limits.
between : (a b x : ℕ) → (leb a x && leb x b) ≡ true → Between a b x
between a b x e = (leb→le a x (and_left (leb a x) (leb x b) (passed e)), leb→le x b (and_right (leb a x) (leb x b) (passed e)))

-- And where it fails.
not-between : (a b x : ℕ) → (leb a x && leb x b) ≡ false → ¬ Between a b x
not-between a b x e h = fails e (and_both (leb a x) (leb x b) (le→leb a x h.0) (le→leb x b h.1))

module _ (c : ℕ) (table : List ℕ) (result scratch : ℕ) where
  -- What the tests tell.
  pub data Tests : Answer Grammar → Type 0 where
    refuses : {r : ℕ} → Between 2 10 r → Tests (refused r)
    reads_as : {g : Grammar} → Between 1 1024 c → Reads table g → Accepted g → EnoughWords g c result scratch → Tests (got g)

  -- the test of lent words
  abbrev Words : Grammar → Answer Grammar
  Words g = demand 10 (leb (result_needs c g) result && leb (scratch_needs c g) scratch) >> got g

  -- What it tells.
  on-words : (g : Grammar) → Between 1 1024 c → Reads table g → Accepted g → Tests (Words g)
  on-words g hc reads ok = by (leb (result_needs c g) result && leb (scratch_needs c g) scratch) refl
    where
      by : (b : Bool) → (leb (result_needs c g) result && leb (scratch_needs c g) scratch) ≡ b → Tests (demand 10 b >> got g)
      by true e =
          reads_as hc reads ok (
            leb→le (result_needs c g) result (and_left (leb (result_needs c g) result) (leb (scratch_needs c g) scratch) (passed e)),
            leb→le (scratch_needs c g) scratch (and_right (leb (result_needs c g) result) (leb (scratch_needs c g) scratch) (passed e)),
          )
      by false e = refuses {r = 10} (omega arith, omega arith)

  -- What the table tells.
  on-table : Between 1 1024 c → Tests (accepts (accept_table table) >>= Words)
  unfolding accept_table
  on-table hc = by (read_table table) refl
    where
      test : (g : Grammar) (next : ℕ) → Reads table g → (t : TableRead g) (r : ℕ) → Tested g t.numbered r → Tests (accepts (passes r g next) >>= Words)
      test g next reads t r (unproductive-eight a l u) = refuses {r = 8} (omega arith, omega arith)
      test g next reads t r (left-recursive-nine p l) = refuses {r = 9} (omega arith, omega arith)
      test g next reads t r (passed_none p l) = on-words g hc reads (record { ranged = t.ranged; productive = p; not-left-recursive = l })

      by : (r : Reading Grammar) → read_table table ≡ r → Tests (accepts (r then λ g next. passes (test_refusal g.productions g.n) g next) >>= Words)
      by (unread r) e = let h = table-refusals table r e in refuses {r = r} (omega arith, omega arith)
      by (read g next) e = let t = table-read table g next e in test g next (next, e) t (test_refusal g.productions g.n) (tested g t.numbered)

  -- What all tests tell.
  pub tests : Tests (grammar_for c table result scratch)
  unfolding grammar_for
  tests = by (leb 1 c && leb c 1024) refl
    where
      by : (b : Bool) → (leb 1 c && leb c 1024) ≡ b → Tests (demand 2 b >> (accepts (accept_table table) >>= Words))
      by true e = on-table (between 1 1024 c e)
      by false e = refuses {r = 2} (omega arith, omega arith)

  -- The engine is these tests, after its test of k, and then its work.
  pub engine-tests : (k : ℕ) → analyse k c table result scratch ≡ (demand 1 (leb 1 k && leb k 10) >> (grammar_for c table result scratch >>= work k c))
  unfolding analyse grammar_for
  engine-tests k = ap (λ (m : Answer Analysis). demand 1 (leb 1 k && leb k 10) >> m) (by (leb 1 c && leb c 1024) (accepts (accept_table table)))
    where
      Work : Grammar → Bool → Answer Analysis
      Work g b = demand 10 b >> work k c g

      words : (g : Grammar) (b : Bool) → Work g b ≡ (demand 10 b >> got g >>= work k c)
      words g true = refl
      words g false = refl

      by : (b : Bool) (m : Answer Grammar)
          → (demand 2 b >> (m >>= λ g. Work g (leb (result_needs c g) result && leb (scratch_needs c g) scratch))) ≡ (demand 2 b >> (m >>= Words) >>= work k c)
      by true (got g) = words g (leb (result_needs c g) result && leb (scratch_needs c g) scratch)
      by true (refused r) = refl
      by false m = refl

-- A table is read as one grammar.
pub one-grammar : (table : List ℕ) {g h : Grammar} → Reads table g → Reads table h → g ≡ h
one-grammar table (n, e) (m, f) = by (sym e ∙ f)
  where
    by : {g h : Grammar} {n m : ℕ} → read g n ≡ read h m → g ≡ h
    by e = cc

-- ---- an answer for each

-- The values of a function, by their places.
pub each-length : {X : Type 0} (f : ℕ → X) (i n : ℕ) → length (each_from f i n) ≡ n
each-length f i zero = refl
each-length f i (suc n) = ap suc (each-length f (suc i) n)

-- Each at its place.
pub each_at : {X : Type 0} (f : ℕ → X) (d : X) (i n j : ℕ) → j < n → get_or (each_from f i n) j d ≡ f (i + j)
each_at f d i zero j h = absurd (omega arith)
each_at f d i (suc n) zero h = let e : i + 0 ≡ i = omega arith in rw e
each_at f d i (suc n) (suc j) h = let e : i + suc j ≡ suc i + j = omega arith in rw e (each_at f d (suc i) n j (omega arith))

module _ (limit c : ℕ) (table : List ℕ) (result scratch : ℕ) where
  -- what the rules give
  abbrev Is : Answer (List (Answer ℕ)) → Type 0
  Is = CallAnswered limit c table result scratch

  -- Every input has its answer.
  pub call-answered : Is (needed_ks limit c table result scratch)
  unfolding needed_ks decisions needed_k
  call-answered = by (leb 1 limit && leb limit 10) refl
    where
      Rest : Grammar → Answer (List (Answer Decided))
      Rest g = got (each_from (λ A. decide c g A limit) 0 g.n)

      Ks : Answer (List (Answer Decided)) → Answer (List (Answer ℕ))
      Ks m = m >>= λ ds. got (map only_k ds)

      on : Between 1 10 limit → (m : Answer Grammar) → grammar_for c table result scratch ≡ m → Tests c table result scratch m → Is (Ks (m >>= Rest))
      on h (refused r) e (refuses b) = as-engine h b (engine-tests c table result scratch 1 ∙ rw e)
      on h (got g) e (reads_as hc reads ok words) =
          each-answered h hc reads ok words
          (length-map (each_from (λ A. decide c g A limit) 0 g.n) only_k ∙ each-length (λ A. decide c g A limit) 0 g.n)
          (λ A l.
          subst (Answered g c limit A)
          (sym (get_or-map only_k (each_from (λ A. decide c g A limit) 0 g.n) A (refused 0) ∙ ap only_k (each_at (λ A. decide c g A limit) (refused 0) 0 g.n A l)))
          (let z : 0 + A ≡ A = omega arith in rw z (answered g ok c hc.0 A limit)))

      by : (b : Bool) → (leb 1 limit && leb limit 10) ≡ b → Is (Ks (demand 1 b >> (grammar_for c table result scratch >>= Rest)))
      by true e = on (between 1 10 limit e) (grammar_for c table result scratch) refl (tests c table result scratch)
      by false e = bad-limit (not-between 1 10 limit e)

  -- With an accepted grammar and words enough the tests pass.
  passes-all : {g : Grammar} → Between 1 1024 c → Reads table g → Accepted g → EnoughWords g c result scratch → grammar_for c table result scratch ≡ got g
  unfolding grammar_for accept_table
  passes-all {g} hc (next, e) ok words =
      rw (le-both 1 c c 1024 hc, e, accepted-passes (table-read table g next e) ok, le-both (result_needs c g) result (scratch_needs c g) scratch words)

  -- So the engine refuses at most by 11.
  not-early : {g : Grammar} {r : ℕ} → Between 1 1024 c → Reads table g → Accepted g → EnoughWords g c result scratch → Between 2 10 r → analyse 1 c table result scratch ≡ refused r → ⊥
  not-early {g} {r} hc reads ok words h e =
      let works : work 1 c g ≡ refused r = sym (engine-tests c table result scratch 1 ∙ rw (passes-all hc reads ok words)) ∙ e in
      let eleven : r ≡ 11 = only-eleven g 1 c ok (omega arith) hc.0 r works in
      omega (arith, h.1)

  -- And one only.
  pub call-one : {x y : Answer (List (Answer ℕ))} → Is x → Is y → x ≡ y
  call-one (bad-limit n) (bad-limit m) = refl
  call-one (bad-limit n) (as-engine h b e) = absurd (n h)
  call-one (bad-limit n) (each-answered h hc reads ok words s a) = absurd (n h)
  call-one (as-engine h b e) (bad-limit n) = absurd (n h)
  call-one (as-engine {r = r} h b e) (as-engine {r = q} h' b' e') = ap refused (let z : r ≡ q = cc in z)
  call-one (as-engine h b e) (each-answered h' hc reads ok words s a) = absurd (not-early hc reads ok words b e)
  call-one (each-answered h hc reads ok words s a) (bad-limit n) = absurd (n h)
  call-one (each-answered h hc reads ok words s a) (as-engine h' b e) = absurd (not-early hc reads ok words b e)
  call-one (each-answered {g = f} {ks = ks} h hc reads ok words s a) (each-answered {g = g} {ks = js} h' hc' reads' ok' words' s' a') =
      let e : f ≡ g = one-grammar table reads reads' in
      let n : f.n ≡ g.n = ap (λ (g : Grammar). g.n) e in
      ap got (ext_get_or (refused 0) ks js (omega arith) (λ A i.
      answered-one g c limit A (subst (λ (g : Grammar). Answered g c limit A (get_or ks A (refused 0))) e (a A (omega arith))) (a' A (omega arith))))

-- ---- the decisions that are used further

-- They are those of an accepted grammar, one for each nonterminal.
pub record FromGrammar (limit c : ℕ) (table : List ℕ) (ms : List (Answer Decided)) : Type 0 where
  pub g : Grammar
  pub reads : Reads table g
  pub accepted : Accepted g
  pub room : Between 1 1024 c
  pub are : ms ≡ each_from (λ A. decide c g A limit) 0 g.n

-- What is decided is that of such a grammar.
pub decisions-from : (limit c : ℕ) (table : List ℕ) (result scratch : ℕ) (ms : List (Answer Decided)) → decisions limit c table result scratch ≡ got ms → FromGrammar limit c table ms
unfolding decisions
decisions-from limit c table result scratch ms e = by (leb 1 limit && leb limit 10) e
  where
    Rest : Grammar → Answer (List (Answer Decided))
    Rest g = got (each_from (λ A. decide c g A limit) 0 g.n)

    on : (m : Answer Grammar) → Tests c table result scratch m → (m >>= Rest) ≡ got ms → FromGrammar limit c table ms
    on (refused r) (refuses b) e = not-got e
    on (got g) (reads_as hc reads ok words) e = record { g = g; reads = reads; accepted = ok; room = hc; are = sym (got-inj e) }

    by : (b : Bool) → (demand 1 b >> (grammar_for c table result scratch >>= Rest)) ≡ got ms → FromGrammar limit c table ms
    by true e = on (grammar_for c table result scratch) (tests c table result scratch) e
    by false e = not-got e

-- Where all values of a function are got, each is got.
each-got : (F : ℕ → Answer Decided) (i n : ℕ) (ds : List Decided) → Each (λ (m : Answer Decided) (d : Decided). m ≡ got d) (each_from F i n) ds
    → (length ds ≡ n) × ((j : ℕ) (d : Decided) → j < n → F (i + j) ≡ got (get_or ds j d))
each-got F i zero ds each_none = (refl, λ j d h. absurd (omega arith))
each-got F i (suc n) [] e = elim e [ ]
each-got F i (suc n) (e ∷ ds) (each_more q more) = let (l, all) = each-got F (suc i) n ds more in (ap suc l, at all)
  where
    at : ((j : ℕ) (d : Decided) → j < n → F (suc i + j) ≡ got (get_or ds j d)) → (j : ℕ) (d : Decided) → j < suc n → F (i + j) ≡ got (get_or (e ∷ ds) j d)
    at all zero d h = let z : i + 0 ≡ i = omega arith in rw z q
    at all (suc j) d h = let z : i + suc j ≡ suc i + j = omega arith in rw z (all j d (omega arith))

-- What is decided for each nonterminal is right.
pub all_right : (limit c : ℕ) (table : List ℕ) (ms : List (Answer Decided)) (ds : List Decided) (f : FromGrammar limit c table ms) → Each (λ (m : Answer Decided) (d : Decided). m ≡ got d) ms ds
    → (length ds ≡ f.g.n) × ((A : ℕ) (d : Decided) → A < f.g.n → RightFor f.g A (get_or ds A d))
all_right limit c table ms ds f all =
    let (l, is) = each-got (λ A. decide c f.g A limit) 0 f.g.n ds (rw f.are at all) in
    (l, λ A d h. decided-right f.g f.accepted c f.room.0 A limit (get_or ds A d) (let z : 0 + A ≡ A = omega arith in rw z at (is A d h)))
