-- What is demanded of the call is kept, and two outcomes that keep its promise are the same. Assumes nothing.
use Prim.Native.Nat.{ℕ, zero, suc, ◌*◌, ◌+◌, ◌<◌, ◌≤◌}
use native.Mathlib.Nat.{not-suc-le-zero, le_of_suc-le-suc}
use native.Mathlib.Omega.{arith}
use mathlib.Core.Path.{◌≡◌, refl, sym, ap, ◌∙◌, subst}
use mathlib.Core.List.{List, [], ◌∷◌}
use lib.ListN.{length, get_or, take}
use lib.Seq.{take_at}
use Rattle.cfg.specs.Grammar.{nonterminal, Word, Grammar, Production, Accepted}
use Rattle.cfg.specs.Write.{Bytes}
use Rattle.cfg.specs.Refused.{TableRefused}
use Rattle.cfg.proofs.Exactly.{refusal-rows}
use Rattle.k_tuple.specs.Strings.{Str}
use Rattle.k_tuples.specs.States.{State, set_of, Each, each_none, each_more}
use Rattle.k_tuples.specs.Work.{Answer, got, refused}
use Rattle.k_tuples.specs.Held.{set_in}
use Rattle.k_tuples.proofs.RoundTrip.{written_read}
use Rattle.first_theory.specs.First.{First}
use Rattle.follow_theory.specs.Follow.{Follow, AtPosition, Occurrence}
use Rattle.messages.proofs.Computed.{set-of-messages}
use Rattle.analysis.specs.Analysis.{Analysis, analyse}
use Rattle.analysis.specs.Promises.{EnoughRoom, IsSetOf, Analysed, Between, IsTableOf, EnoughWords, Verdict}
use Rattle.analysis.proofs.Kept.{not-refused, answers-right}
use Rattle.analysis.proofs.Verdict.{answers-all, one_answer}
use Rattle.engine.specs.Ask.{set_part}
use Rattle.engine.specs.Call.{Record, answer_of, result_needed, result_after, Promised, of_kind}
use Rattle.engine.specs.Demands.{Demand1, Gives, right_of, position_of, Demand23, Demanded}
use Rattle.engine.proofs.Got.{analyse-got}
use Rattle.engine.proofs.Asked.{asked-kept, asked, counted}
use Rattle.engine.proofs.Beginning.{places-padded}

-- ---- one outcome

pub call-one : (k c : ℕ) (table result scratch : List ℕ) {r s : Record} {R S R' S' : List ℕ} → Promised k c table result scratch r R S → Promised k c table result scratch s R' S'
    → (r ≡ s) × (R ≡ R') × (S ≡ S')
call-one k c table result scratch p q = (p.answer ∙ sym q.answer, p.result_words ∙ sym q.result_words, p.scratch-words ∙ sym q.scratch-words)

pub ask-one : (kind number n p q c : ℕ) (ws a b : List ℕ) → a ≡ set_part kind number n p q c ws → b ≡ set_part kind number n p q c ws → a ≡ b
ask-one kind number n p q c ws a b e f = e ∙ sym f

each_index : {A : Type 0} {R : A → List Str → Type 0} {xs : List A} {F : State} (d : A) → Each R xs F → (i : ℕ) → i < length xs → R (get_or xs i d) (set_of F i)
each_index d each_none i h = absurd (not-suc-le-zero h)
each_index d (each_more r rest) zero h = r
each_index d (each_more r rest) (suc i) h = each_index d rest i (le_of_suc-le-suc h)

-- the number that a case is told by
refusal-of : {r : Record} {m : Answer Analysis} {i : ℕ} → r ≡ answer_of m → m ≡ refused i → r.refusal ≡ i
unfolding answer_of
refusal-of e f = ap (λ (x : Record). x.refusal) (e ∙ ap answer_of f)

no-refusal : {r : Record} {m : Answer Analysis} {a : Analysis} → r ≡ answer_of m → m ≡ got a → r.refusal ≡ 0
unfolding answer_of
no-refusal e f = ap (λ (x : Record). x.refusal) (e ∙ ap answer_of f)

module _ (k c : ℕ) (table result scratch : List ℕ) (r : Record) (R S : List ℕ) (p : Promised k c table result scratch r R S) where
  abbrev answer : Answer Analysis
  answer = analyse k c table (length result) (length scratch)

  abbrev Is : Answer Analysis → Type 0
  Is = Verdict k c table (length result) (length scratch)

  -- ---- demand 1

  module _ (bytes : Bytes table) where
    -- the case of each number
    abbrev Refuses : ℕ → Type 0
    Refuses i = Between 1 10 k × Between 1 1024 c × TableRefused table i

    refused-so : (i : ℕ) → Between 3 7 i → r.refusal ≡ i → Refuses i
    refused-so i three z = by answer refl (answers-all k c table (length result) (length scratch) bytes)
      where
        no : (e : ℕ) → answer ≡ refused e → ¬ Between 3 7 e → Refuses i
        no e f h = absurd (h (subst (Between 3 7) (sym z ∙ refusal-of p.answer f) three))

        by : (m : Answer Analysis) → answer ≡ m → Is m → Refuses i
        by m e (Verdict.bad-k h) = no 1 e (λ b. omega (arith, b.0))
        by m e (Verdict.bad-room h j) = no 2 e (λ b. omega (arith, b.0))
        by m e (Verdict.bad-table {r = s} h j f) = (h, j, subst (TableRefused table) (sym (refusal-of p.answer e) ∙ z) f)
        by m e (Verdict.unproductive h j f u) = no 8 e (λ b. omega (arith, b.1))
        by m e (Verdict.left-recursive h j f u l) = no 9 e (λ b. omega (arith, b.1))
        by m e (Verdict.few_words h j f o w) = no 10 e (λ b. omega (arith, b.1))
        by m e (Verdict.no_room h j f o w s) = no 11 e (λ b. omega (arith, b.1))
        by m e (Verdict.analysed h j f o w s is) = absurd (let none = no-refusal p.answer e in omega (arith, three.0))

    pub demand-1 : Demand1 k c table result scratch r
    demand-1 = record {
      case = answer;
      verdict = answers-all k c table (length result) (length scratch) bytes;
      one = one_answer k c table (length result) (length scratch);
      told = p.answer;
      table-refused = λ i three. (
        refused-so i three,
        λ (hk, hc, h). refusal-of p.answer (sym (one_answer k c table (length result) (length scratch) (refused i) (Verdict.bad-table hk hc h))),
      );
    }

  -- ---- demands 2 and 3

  module _ (a : Analysis) (e : answer ≡ got a) (g : Grammar) (is : Analysed g k c a) where
    answer-is : r ≡ answer_of (got a)
    answer-is = p.answer ∙ ap answer_of e

    words_are : R ≡ result_after k c (result_needed c table) result (got a)
    words_are = p.result_words ∙ ap (result_after k c (result_needed c table) result) e

    -- set `number` of a kind
    gives : (kind number : ℕ) (P : Word → Type 0) → number < length (of_kind kind a) → IsSetOf P (set_of (of_kind kind a) number) → Gives k c r R kind number (set_of (of_kind kind a) number) P
    unfolding answer_of
    gives kind number P h q =
        let set = set_of (of_kind kind a) number in
        let part = asked k c table result scratch a e kind number h in
        let kept = asked-kept k c table result scratch a e kind number h in
        rw (answer-is, words_are) (record { part = part; read = ap (set_in k) part ∙ written_read k (2 * c + 1) a.width set kept.room kept.counted kept.sorted kept.fit; holds = q })

    rounds-are : take k r.rounds ≡ a.rounds
    unfolding answer_of
    rounds-are =
        let k-rounds = is.level-rounds.one_each in
        let most = (analyse-got k c table (length result) (length scratch) a e).k<11 in
        ap (λ (x : Record). take k x.rounds) answer-is
        ∙ ap (take k) (places-padded 10 a.rounds (omega arith))
        ∙ take_at a.rounds _ k k-rounds

    follow-is : r.follow ≡ a.follow_rounds
    unfolding answer_of
    follow-is = ap (λ (x : Record). x.follow) answer-is

    kept : IsTableOf g table → Accepted g → Demand23 k c table r R
    unfolding of_kind answer_of
    kept written ok =
        let many = counted g k c a is in
        let no-production : Production = record { left = 0; right = [] } in
        let no-position : Occurrence = record { target = 0; source = 0; rest = [] } in
        record {
          g = g;
          table_of = written;
          accepted = ok;
          n = ap (λ (x : Record). x.n) answer-is ∙ is.sizes.n;
          p = ap (λ (x : Record). x.p) answer-is ∙ is.sizes.p;
          q = ap (λ (x : Record). x.q) answer-is ∙ is.sizes.q;
          width = ap (λ (x : Record). x.width) answer-is ∙ is.sizes.width;
          firsts = a.nonterminals;
          first = λ A h. gives 0 A (First g k (nonterminal A ∷ [])) (rw is.sizes.nonterminals h) (is.first-sets A h);
          first-by-aho-ullman = is.first-sets-by-aho-ullman;
          productions = a.productions;
          production = λ i h. gives 1 i (First g k (right_of g i)) (rw (many.productions, is.sizes.p) h) (each_index no-production is.production-sets i h);
          production-by-aho-ullman = λ i h. each_index no-production is.production-sets-by-aho-ullman i h;
          follows = a.follows;
          follow = λ A h. gives 2 A (Follow g k A) (rw is.sizes.follows h) (is.follow-sets A);
          follow-in-messages = λ reach A h. set-of-messages g ok reach k (analyse-got k c table (length result) (length scratch) a e).k>0 A (set_of a.follows A) (is.follow-sets A);
          positions = a.positions;
          position = λ i h.
              gives 3 i (AtPosition g k (position_of g i).source (position_of g i).rest) (rw (many.positions, is.sizes.q) h)
              (each_index no-position is.position-sets i h);
          level-rounds = rw rounds-are is.level-rounds;
          follow-rounds = rw follow-is is.follow-rounds;
          any_order = is.any_order;
        }

  -- a call that was not refused
  pub demand-2-3 : Bytes table → r.refusal ≡ 0 → Demand23 k c table r R
  demand-2-3 bytes z = by answer refl (answers-all k c table (length result) (length scratch) bytes)
    where
      no : (e : ℕ) → answer ≡ refused e → 1 ≤ e → Demand23 k c table r R
      no e f h = absurd (let n : r.refusal ≡ e = refusal-of p.answer f in omega arith)

      by : (m : Answer Analysis) → answer ≡ m → Is m → Demand23 k c table r R
      by m e (Verdict.bad-k h) = no 1 e (omega arith)
      by m e (Verdict.bad-room h i) = no 2 e (omega arith)
      by m e (Verdict.bad-table {r = s} h i f) = no s e (omega (arith, (refusal-rows f).0))
      by m e (Verdict.unproductive h i f u) = no 8 e (omega arith)
      by m e (Verdict.left-recursive h i f u l) = no 9 e (omega arith)
      by m e (Verdict.few_words h i f o w) = no 10 e (omega arith)
      by m e (Verdict.no_room h i f o w s) = no 11 e (omega arith)
      by m e (Verdict.analysed {g = g} {a = a} h i f o w s is) = kept a e g is f o

  -- a table that may be served is
  pub served : (g : Grammar) → IsTableOf g table → Accepted g → Between 1 10 k → Between 1 1024 c → EnoughWords g c (length result) (length scratch) → EnoughRoom g k c → r.refusal ≡ 0
  served g written ok hk hc words enough =
      let (a, e) = not-refused g k c ok hk.0 hc.0 enough in
      let case = Verdict.analysed hk hc written ok words enough (answers-right g k c ok hk.0 hc.0 a e) in
      no-refusal p.answer (sym (one_answer k c table (length result) (length scratch) (got a) case))

  -- ---- all of it

  pub demanded : Bytes table → Demanded k c table result scratch r R
  demanded bytes = record { answered = demand-1 bytes; right = demand-2-3 bytes; served = served }
