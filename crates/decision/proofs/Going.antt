-- What the answers tell a call that goes on from them: its first refusal is the one that the definition passes on; where there is none, every nonterminal is
-- decided. Assumes nothing.
use Prim.Native.Nat.{ℕ, zero, suc, ◌+◌, ◌-◌, ◌≤◌, ◌<◌}
use native.Mathlib.Omega.{arith}
use mathlib.Core.Path.{◌≡◌, refl, sym, ap, ◌∙◌, subst}
use mathlib.Core.Bool.{Bool, true, false, ◌&&◌}
use mathlib.Core.List.{List, [], ◌∷◌, ◌++◌, map}
use borrow.Author.Tests.{ne_eqb}
use lib.Dec.{T, leb, leb→le}
use lib.ListN.{length, get_or, replicate, length-map, length-append, length-replicate, get_or-map}
use Rattle.cfg.specs.Grammar.{Grammar, Accepted}
use Rattle.cfg.specs.Reading.{Reading, got as read, refused as unread}
use Rattle.cfg.specs.Accept.{accept_table}
use Rattle.cfg.proofs.Sizes.{accepted-sizes}
use Rattle.k_tuples.specs.Work.{Answer, got, refused, ◌>>=◌, ◌>>◌, demand}
use Rattle.k_tuples.proofs.Tests.{passed, and_left, and_right}
use Rattle.k_tuples.proofs.Work.{not-got, got-inj}
use Rattle.analysis.specs.Analysis.{accepts, result_needs, scratch_needs}
use Rattle.engine.specs.Call.{wiped}
use Rattle.decision_theory.specs.Needed.{Decided, decide, needed_k, only_k, each_from, grammar_for, decisions, needed_ks, Answered, one-production, serves, passed_on, own-set, none-serves}
use Rattle.decision_theory.proofs.Needed.{answered}
use Rattle.decision_theory.proofs.Call.{each-length, each_at, Tests, tests, refuses, reads_as}
use Rattle.decision.specs.Call.{Record, refusal_of, k_of, padded, record_of, words_after, Promised}
use Rattle.decision.specs.Steps.{Long, grammar_of, OnTable}
use Rattle.decision.specs.Onward.{first_of, first_refusal, Known}
use Rattle.decision.proofs.Padded.{padded-at}
use Rattle.decision.proofs.Answering.{table-ok, result-needed, scratch-needed}

-- ---- the whole call

-- what is decided for each nonterminal of the table's grammar
abbrev pub answers_of : (limit c : ℕ) → List ℕ → List (Answer Decided)
answers_of limit c table = each_from (λ A. decide c (grammar_of table) A limit) 0 (grammar_of table).n

-- a call that is not refused as a whole
pub record Reached (limit c : ℕ) (table : List ℕ) (result scratch : ℕ) : Type 0 where
  pub on : OnTable limit c table
  pub result_words : result_needs c (grammar_of table) ≤ result
  pub scratch-words : scratch_needs c (grammar_of table) ≤ scratch
  pub called : decisions limit c table result scratch ≡ got (answers_of limit c table)

-- the grammar of a table that is accepted
grammar-is : (table : List ℕ) (g : Grammar) (next : ℕ) → accept_table table ≡ read g next → grammar_of table ≡ g
unfolding grammar_of
grammar-is table g next e = rw e

-- two tests that both hold
both : (a b : Bool) → (a && b) ≡ true → T a × T b
both a b e = (and_left a b (passed e), and_right a b (passed e))

-- decisions that are got have passed every test of the call
pub reached : (limit c : ℕ) (table : List ℕ) (result scratch : ℕ) (ms : List (Answer Decided)) → decisions limit c table result scratch ≡ got ms → Reached limit c table result scratch
unfolding decisions grammar_for
reached limit c table result scratch ms e = limits (leb 1 limit && leb limit 10) refl e e
  where
    Rest : Grammar → Answer (List (Answer Decided))
    Rest g = got (each_from (λ A. decide c g A limit) 0 g.n)

    Words : Grammar → Bool → Answer Grammar
    Words g b = demand 10 b >> got g

    Grammars : Bool → Answer Grammar → Answer Grammar
    Grammars b m = demand 2 b >> (m >>= λ g. Words g (leb (result_needs c g) result && leb (scratch_needs c g) scratch))

    words : (1 ≤ limit) × (limit ≤ 10) → (1 ≤ c) × (c ≤ 1024) → (g : Grammar) (next : ℕ) → accept_table table ≡ read g next → (b : Bool) → (leb (result_needs c g) result && leb (scratch_needs c g) scratch) ≡ b
        → decisions limit c table result scratch ≡ got ms → (Words g b >>= Rest) ≡ got ms → Reached limit c table result scratch
    words l h g next r false q d e = not-got e
    words l h g next r true q d e =
        let same : g ≡ grammar_of table = sym (grammar-is table g next r) in
        let (enough, spare) = both (leb (result_needs c g) result) (leb (scratch_needs c g) scratch) q in
        record {
          on = record { next = next; reads = r ∙ ap (λ (g : Grammar). read g next) same; limit>0 = l.0; limit<11 = l.1; c>0 = h.0; c<1025 = h.1 };
          result_words = subst (λ (g : Grammar). result_needs c g ≤ result) same (leb→le (result_needs c g) result enough);
          scratch-words = subst (λ (g : Grammar). scratch_needs c g ≤ scratch) same (leb→le (scratch_needs c g) scratch spare);
          called = d ∙ sym e ∙ ap (λ (g : Grammar). got (each_from (λ A. decide c g A limit) 0 g.n)) same;
        }

    reads : (1 ≤ limit) × (limit ≤ 10) → (1 ≤ c) × (c ≤ 1024) → (r : Reading Grammar) → accept_table table ≡ r
        → decisions limit c table result scratch ≡ got ms → (Grammars true (accepts r) >>= Rest) ≡ got ms → Reached limit c table result scratch
    reads l h (unread r) q d e = not-got e
    reads l h (read g next) q d e = words l h g next q (leb (result_needs c g) result && leb (scratch_needs c g) scratch) refl d e

    rooms : (1 ≤ limit) × (limit ≤ 10) → (b : Bool) → (leb 1 c && leb c 1024) ≡ b
        → decisions limit c table result scratch ≡ got ms → (Grammars b (accepts (accept_table table)) >>= Rest) ≡ got ms → Reached limit c table result scratch
    rooms l false q d e = not-got e
    rooms l true q d e = let (a, b) = both (leb 1 c) (leb c 1024) q in reads l (leb→le 1 c a, leb→le c 1024 b) (accept_table table) refl d e

    limits : (b : Bool) → (leb 1 limit && leb limit 10) ≡ b
        → decisions limit c table result scratch ≡ got ms → (demand 1 b >> (Grammars (leb 1 c && leb c 1024) (accepts (accept_table table)) >>= Rest)) ≡ got ms → Reached limit c table result scratch
    limits false q d e = not-got e
    limits true q d e = let (a, b) = both (leb 1 limit) (leb limit 10) q in rooms (leb→le 1 limit a, leb→le limit 10 b) (leb 1 c && leb c 1024) refl d e

-- a refusal of the whole call is a number
call-some : (limit c : ℕ) (table : List ℕ) (result scratch r : ℕ) → decisions limit c table result scratch ≡ refused r → ¬ r ≡ 0
unfolding decisions
call-some limit c table result scratch r e = by (leb 1 limit && leb limit 10) e
  where
    Rest : Grammar → Answer (List (Answer Decided))
    Rest g = got (each_from (λ A. decide c g A limit) 0 g.n)

    on : (m : Answer Grammar) → Tests c table result scratch m → (m >>= Rest) ≡ refused r → ¬ r ≡ 0
    on (refused x) (refuses b) e z = let q : x ≡ r = cc in omega (arith, b.0)
    on (got g) (reads_as h reads ok words) e z = not-got (sym e)

    by : (b : Bool) → (demand 1 b >> (grammar_for c table result scratch >>= Rest)) ≡ refused r → ¬ r ≡ 0
    by true e = on (grammar_for c table result scratch) (tests c table result scratch) e
    by false e = λ z. let q : ◌≡◌ {A = ℕ} 1 r = cc in omega arith

-- ---- the nonterminals

-- the first refusal among decisions
pub data FirstIn (ms : List (Answer Decided)) (r : ℕ) : Type 0 where
  none : r ≡ 0 → ((A : ℕ) → A < length ms → (d : Decided) × (get_or ms A (refused 0) ≡ got d)) → FirstIn ms r
  lowest : ¬ r ≡ 0 → (A : ℕ) → A < length ms → get_or ms A (refused 0) ≡ refused r → ((B : ℕ) → B < A → (d : Decided) × (get_or ms B (refused 0) ≡ got d)) → FirstIn ms r

-- zeros have no first refusal
first-zeros : (j : ℕ) → ◌≡◌ {A = ℕ} (first_of (replicate j 0)) 0
unfolding first_of
first-zeros zero = refl
first-zeros (suc j) = first-zeros j

-- the first refusal in the record is the lowest nonterminal's
first-in : (ms : List (Answer Decided)) (j : ℕ) → ((A r : ℕ) → A < length ms → get_or ms A (refused 0) ≡ refused r → ¬ r ≡ 0) → FirstIn ms (first_of (map refusal_of (map only_k ms) ++ replicate j 0))
unfolding first_of
first-in [] j h = none (first-zeros j) (λ A l. absurd (omega arith))
first-in (refused r ∷ ms) j h = let n = h 0 r (omega arith) refl in rw (ne_eqb r 0 n) (lowest n 0 (omega arith) refl (λ B l. absurd (omega arith)))
first-in (got d ∷ ms) j h = more (first-in ms j (λ A r l e. h (suc A) r (omega arith) e))
  where
    before : {A : ℕ} → ((B : ℕ) → B < A → (d : Decided) × (get_or ms B (refused 0) ≡ got d)) → (B : ℕ) → B < suc A → (e : Decided) × (get_or (got d ∷ ms) B (refused 0) ≡ got e)
    before all zero l = (d, refl)
    before all (suc B) l = all B (omega arith)

    more : {r : ℕ} → FirstIn ms r → FirstIn (got d ∷ ms) r
    more (none z all) = none z (before all)
    more (lowest n A l e low) = lowest n (suc A) (omega arith) e (before low)

-- a nonterminal's refusal is a number
one-some : (g : Grammar) → Accepted g → (c : ℕ) → 1 ≤ c → (A limit r : ℕ) → decide c g A limit ≡ refused r → ¬ r ≡ 0
unfolding needed_k
one-some g ok c room A limit r e = by (needed_k c g A limit) (ap only_k e) (answered g ok c room A limit)
  where
    by : (x : Answer ℕ) → x ≡ refused r → Answered g c limit A x → ¬ r ≡ 0
    by x e (one-production o) z = not-got (sym e)
    by x e (serves n h low w s) z = not-got (sym e)
    by x e (passed_on n h low o) z = let q : ◌≡◌ {A = ℕ} 11 r = cc in omega arith
    by x e (own-set n h low enough o) z = let q : ◌≡◌ {A = ℕ} 11 r = cc in omega arith
    by x e (none-serves n low) z = let q : ◌≡◌ {A = ℕ} 22 r = cc in omega arith

module _ {limit c : ℕ} {table : List ℕ} (on : OnTable limit c table) where
  -- the decision for A
  pub answer_at : (A : ℕ) → A < (grammar_of table).n → get_or (answers_of limit c table) A (refused 0) ≡ decide c (grammar_of table) A limit
  answer_at A h = let z : 0 + A ≡ A = omega arith in each_at (λ A. decide c (grammar_of table) A limit) (refused 0) 0 (grammar_of table).n A h ∙ ap (λ (B : ℕ). decide c (grammar_of table) B limit) z

  -- one for each nonterminal
  pub answers-length : length (answers_of limit c table) ≡ (grammar_of table).n
  answers-length = each-length (λ A. decide c (grammar_of table) A limit) 0 (grammar_of table).n

  -- which are at most 128
  few : length (map only_k (answers_of limit c table)) ≤ 128
  few = omega (arith, length-map (answers_of limit c table) only_k, answers-length, (accepted-sizes table (grammar_of table) on.next on.reads).nonterminals)

  -- so the record's lists have 128 numbers
  padded-long : (f : Answer ℕ → ℕ) → length (padded (map f (map only_k (answers_of limit c table)))) ≡ 128
  padded-long f =
      let xs = map f (map only_k (answers_of limit c table)) in
      let size : length xs ≡ length (map only_k (answers_of limit c table)) = length-map (map only_k (answers_of limit c table)) f in
      length-append xs (replicate (128 - length xs) 0) ∙ ap (λ (n : ℕ). length xs + n) (length-replicate {A = ℕ} (128 - length xs) 0) ∙ omega (arith, size, few)

  -- the first refusal among them
  first-answer : FirstIn (answers_of limit c table) (first_of (padded (map refusal_of (map only_k (answers_of limit c table)))))
  first-answer = first-in (answers_of limit c table) (128 - length (map refusal_of (map only_k (answers_of limit c table))))
      (λ A r l e. one-some (grammar_of table) (table-ok on) c on.c>0 A limit r (sym (answer_at A (omega (arith, answers-length))) ∙ e))

  -- where each is decided, the record has its k
  all_known : ((A : ℕ) → A < length (answers_of limit c table) → (d : Decided) × (get_or (answers_of limit c table) A (refused 0) ≡ got d)) → Known limit c (grammar_of table) (padded (map k_of (map only_k (answers_of limit c table))))
  unfolding needed_k
  all_known all = record {
    long = padded-long k_of;
    each = λ A h.
        let (d, e) = all A (omega (arith, answers-length)) in
        let one : decide c (grammar_of table) A limit ≡ got d = sym (answer_at A h) ∙ e in
        let at : get_or (padded (map k_of (map only_k (answers_of limit c table)))) A 0 ≡ d.k =
        padded-at k_of refl (map only_k (answers_of limit c table)) A (omega (arith, length-map (answers_of limit c table) only_k, answers-length))
        ∙ ap k_of (get_or-map only_k (answers_of limit c table) A (refused 0) ∙ ap only_k e) in
        ap only_k one ∙ ap got (sym at);
  }

-- ---- what the record tells

-- the call stops at a refusal, or goes on
pub data Onward (limit c : ℕ) (table : List ℕ) (result scratch : ℕ) (ks : List ℕ) (x : ℕ) : Type 0 where
  refused-whole : ¬ x ≡ 0 → decisions limit c table result scratch ≡ refused x → Onward limit c table result scratch ks x
  refused-one :
      Reached limit c table result scratch → ¬ x ≡ 0 → (A : ℕ) → A < length (answers_of limit c table) → get_or (answers_of limit c table) A (refused 0) ≡ refused x
      → ((B : ℕ) → B < A → (e : Decided) × (get_or (answers_of limit c table) B (refused 0) ≡ got e)) → Onward limit c table result scratch ks x
  goes_on : Reached limit c table result scratch → x ≡ 0 → Known limit c (grammar_of table) ks → Onward limit c table result scratch ks x

module _ (limit c : ℕ) (table result scratch : List ℕ) (d : Record) {R S : List ℕ} (p : Promised limit c table result scratch d R S) where
  abbrev called : Answer (List (Answer Decided))
  called = decisions limit c table (length result) (length scratch)

  abbrev On : ℕ → Type 0
  On x = Onward limit c table (length result) (length scratch) d.ks x

  -- the record's lists have 128 numbers
  pub lists-long : Long d.refusals × Long d.ks
  unfolding needed_ks record_of
  lists-long = by called refl p.answer
    where
      by : (m : Answer (List (Answer Decided))) → called ≡ m → d ≡ record_of (m >>= λ ds. got (map only_k ds)) → Long d.refusals × Long d.ks
      by (refused r) q e = (ap (λ (y : Record). length y.refusals) e ∙ length-replicate {A = ℕ} 128 0, ap (λ (y : Record). length y.ks) e ∙ length-replicate {A = ℕ} 128 0)
      by (got ms) q e =
          let w = reached limit c table (length result) (length scratch) ms q in
          let same : ms ≡ answers_of limit c table = got-inj (sym q ∙ w.called) in
          let f : d ≡ record_of (got (map only_k (answers_of limit c table))) = rw (← same) e in
          (ap (λ (y : Record). length y.refusals) f ∙ padded-long w.on refusal_of, ap (λ (y : Record). length y.ks) f ∙ padded-long w.on k_of)

  -- what the first refusal in the record tells
  pub onward : On (first_refusal d.refusal d.refusals)
  unfolding needed_ks record_of first_refusal
  onward = by called refl p.answer
    where
      by : (m : Answer (List (Answer Decided))) → called ≡ m → d ≡ record_of (m >>= λ ds. got (map only_k ds)) → On (first_refusal d.refusal d.refusals)
      by (refused r) q e =
          let n = call-some limit c table (length result) (length scratch) r q in
          let same : first_refusal d.refusal d.refusals ≡ r = ap (λ (y : Record). first_refusal y.refusal y.refusals) e ∙ rw (ne_eqb r 0 n) in
          subst On (sym same) (refused-whole n q)
      by (got ms) q e =
          let w = reached limit c table (length result) (length scratch) ms q in
          let same : ms ≡ answers_of limit c table = got-inj (sym q ∙ w.called) in
          let f : d ≡ record_of (got (map only_k (answers_of limit c table))) = rw (← same) e in
          let first : first_refusal d.refusal d.refusals ≡ first_of (padded (map refusal_of (map only_k (answers_of limit c table)))) = ap (λ (y : Record). first_refusal y.refusal y.refusals) f in
          subst On (sym first) (on w (ap (λ (y : Record). y.ks) f) (first-answer w.on))
        where
          on : {x : ℕ} → Reached limit c table (length result) (length scratch) → d.ks ≡ padded (map k_of (map only_k (answers_of limit c table))) → FirstIn (answers_of limit c table) x → On x
          on w k (none z all) = goes_on w z (subst (Known limit c (grammar_of table)) (sym k) (all_known w.on all))
          on w k (lowest n A l e low) = refused-one w n A l e low

  -- the buffers of a call that is not refused as a whole
  pub buffers-wiped : Reached limit c table (length result) (length scratch) → (R ≡ wiped (result_needs c (grammar_of table)) result) × (S ≡ wiped (scratch_needs c (grammar_of table)) scratch)
  unfolding needed_ks words_after
  buffers-wiped w = (rw (w.called, result-needed w.on) at p.result_words, rw (w.called, scratch-needed w.on) at p.scratch-words)
