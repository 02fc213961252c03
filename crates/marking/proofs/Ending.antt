-- The call's ways out: what was found at all levels is the mark that the rules give, and the outcome is that of the definition. Assumes nothing.
use Prim.Native.Nat.{ℕ, ◌*◌, ◌/◌, ◌≤◌, ◌<◌}
use native.Mathlib.Omega.{arith}
use native.Mathlib.Decide.{dec_lt}
use mathlib.Core.Path.{◌≡◌, refl, sym, ap, ◌∙◌, subst}
use mathlib.Core.Bool.{Bool, true, false, cond}
use mathlib.Core.Logic.{◌⊎◌, inl, inr, ⊎_elim}
use mathlib.Core.List.{List, [], ◌∷◌}
use borrow.Author.Tests.{ltb-true, lt-ltb, le-ltb}
use lib.Dec.{ltb}
use lib.ListN.{length, get_or, drop}
use Rattle.std.specs.Prelude.{Option, Some, None}
use Rattle.cfg.specs.Grammar.{Word, Grammar}
use Rattle.k_tuple.specs.Strings.{slots, length_of, pack}
use Rattle.k_tuple.specs.declared.Terminals.{Terminals}
use Rattle.k_tuple.specs.Packed.{packed}
use Rattle.k_tuple.specs.Order.{◌≺◌}
use Rattle.k_tuple.proofs.Words.{words_of}
use Rattle.k_tuples.specs.Sets.{◌∈◌}
use Rattle.k_tuples.specs.Work.{Answer, got, refused}
use Rattle.k_tuples.proofs.Work.{not-got, got-inj}
use Rattle.first_theory.specs.Compute.{str}
use Rattle.analysis.specs.Analysis.{result_needs, scratch_needs}
use Rattle.engine.specs.Call.{wiped}
use Rattle.engine.proofs.Wiping.{wiped-again}
use Rattle.decision_theory.specs.Needed.{Decided}
use Rattle.decision_theory.specs.Automaton.{all_decided, LowestRefused}
use Rattle.decision_theory.specs.Marking.{Row, Wanted, Bad, FirstMissing, Marked, all-given, first-bad, first-missing, Mark as Marking, bad-row, missing, mark, CallMarked, mark-refused, one-refused, marked-as}
use Rattle.decision_theory.proofs.Automaton.{lowest-refused}
use Rattle.decision_theory.proofs.Call.{one-grammar}
use Rattle.decision_theory.proofs.Marking.{marked-one}
use Rattle.decision_theory.proofs.Kept.{mark-all}
use Rattle.decision.specs.declared.Links.{Links}
use Rattle.decision.specs.declared.Layout.{Layout}
use Rattle.decision.specs.Call.{Record as Needed, Promised as Answered}
use Rattle.decision.specs.Steps.{grammar_of, Given}
use Rattle.decision.specs.Onward.{first_refusal, Known, Wiped}
use Rattle.decision.proofs.Answering.{sized-needs}
use Rattle.decision.proofs.Onward.{needed-decided}
use Rattle.decision.proofs.Going.{answers_of, answer_at, answers-length, Onward, buffers-wiped, refused-whole, refused-one, goes_on}
use Rattle.decision.proofs.Further.{reads-grammar, at-most-ten, wiped-on, how, call_known, call-reached, wiped-after, whole-between, one-between}
use Rattle.marking.specs.declared.Found.{Found}
use Rattle.marking.specs.declared.lack.Missed.{Missed}
use Rattle.marking.specs.Lines.{level_of}
use Rattle.marking.specs.Rows.{rows_in}
use Rattle.marking.specs.Call.{Record, width_in, record_of, Promised}
use Rattle.marking.specs.Levels.{missed_of, FirstOf, Before, Finding, AllFound, told_of, RowsMarked}
use Rattle.marking.proofs.Meaning.{rows-many, row_cut}
use Rattle.marking.proofs.Standing.{wiped-stored}

-- ---- what is told

module _ (words : ℕ) (f : Found) where
  -- a bad row
  pub told-row : 4 * f.bad < words → record { refusal = 24; row = f.bad; nonterminal = 0; lo = 0; hi = 0 } ≡ told_of words f
  unfolding told_of
  told-row h = rw (lt-ltb (4 * f.bad) words h) refl

  -- no bad row, and perhaps a string without a row
  pub told-string : words ≤ 4 * f.bad → {m : Option Missed} → f.missed ≡ m → missed_of m ≡ told_of words f
  unfolding told_of
  told-string h e = rw (le-ltb (4 * f.bad) words h) (sym (ap missed_of e))

-- the string of a word has a slot
word_some : (x : Word) → 1 ≤ length_of (str x)
word_some [] = omega arith
word_some (a ∷ x) = omega arith

-- so a wanted row is not one that is cut off
wanted-some : {g : Grammar} {r : Row} → Wanted g r → ¬ (r.string ≡ slots [])
wanted-some q e = let z : length_of (str q.word) ≡ 0 = ap length_of (sym q.spelled ∙ e) in let y = word_some q.word in omega arith

-- ---- all levels

module _ {limit c : ℕ} {table : List ℕ} {u : Layout} {links : Links} {κ : List ℕ} {R S : ℕ} (given : Given limit c table u links R S) (known : Known limit c (grammar_of table) κ) {ws : List ℕ} {f : Found}
    (s : Finding (grammar_of table) (width_in table) 11 u.n κ ws f) where
  abbrev g : Grammar
  g = grammar_of table

  abbrev rows : List Row
  rows = rows_in (width_in table) ws

  -- every level was looked through
  low : (A : ℕ) → level_of u.n κ A < 11
  unfolding level_of
  low A = by (ltb A u.n) refl
    where
      by : (b : Bool) → ltb A u.n ≡ b → cond b (get_or κ A 0) 0 < 11
      by true e = at-most-ten given.on known A (let l = ltb-true A u.n e in omega (arith, given.sized.n))
      by false e = omega arith

  -- no row before the one told is bad
  fine : (t : ℕ) → t < f.bad → ¬ Bad g rows t
  fine t h = s.fine t h (low _)

  -- the row told is bad
  is-bad : 4 * f.bad < length ws → Bad g rows f.bad
  is-bad h = by (dec_lt f.bad (length ws / 4))
    where
      by : Dec (f.bad < length ws / 4) → Bad g rows f.bad
      by (yes l) = s.bad l
      by (no l) = (let m = rows-many (width_in table) ws in omega arith, inl (λ q. wanted-some q (row_cut (width_in table) ws f.bad h (omega arith))))

  -- where none is told there is none
  none-bad : ¬ (4 * f.bad < length ws) → (t : ℕ) → ¬ Bad g rows t
  none-bad h t b = fine t (let m = rows-many (width_in table) ws in let l = b.0 in omega arith) b

  -- the string told is the first that is missing
  is-missing : (whole : 4 * f.bad ≡ length ws) {x : Missed} → f.missed ≡ Some x → (m : FirstOf g (width_in table) rows x) → FirstMissing g rows x.nonterminal m.z
  is-missing whole {x} is m = record {
    i = m.i;
    wanted = m.wanted;
    absent = m.absent;
    earlier = λ r q l. by r q l;
  }
    where
      by : (r : Row) → Wanted g r → (r.nonterminal < x.nonterminal) ⊎ ((r.nonterminal ≡ x.nonterminal) × (r.string ≺ m.z)) → r ∈ rows
      by r q (inl l) = s.whole whole r q (low _) (rw is l)
      by r q (inr (e, l)) = m.earlier r q e l

  -- what is told is the mark that the rules give
  pub told-right : (x : Marking) → Marked g rows x → told_of (length ws) f ≡ record_of (width_in table) (got x)
  unfolding told_of record_of
  told-right x m = by (dec_lt (4 * f.bad) (length ws))
    where
      Told : Marking → Type 0
      Told y = told_of (length ws) f ≡ record_of (width_in table) (got y)

      none : ¬ (4 * f.bad < length ws) → f.missed ≡ None → {y : Marking} → Marked g rows y → Told y
      none h e (all-given a) = rw (le-ltb (4 * f.bad) (length ws) (omega arith), e) refl
      none h e (first-bad {i = i} b) = absurd (none-bad h i b.0)
      none h e (first-missing n y) = absurd (y.absent (s.whole (let l = s.below in omega arith) _ y.wanted (low _) (rw e (let l = y.wanted.inside in omega (arith, given.sized.n)))))

      some : ¬ (4 * f.bad < length ws) → (t : Missed) → f.missed ≡ Some t → Told x
      some h t e =
          let whole : 4 * f.bad ≡ length ws = let l = s.below in omega arith in
          let y = s.told whole t e in
          let same : x ≡ missing t.nonterminal y.z = marked-one g rows m (first-missing (none-bad h) (is-missing whole e y)) in
          let two : t.string ≡ packed (width_in table) y.z = words_of t.string (pack (width_in table) y.z) y.fits y.told in
          subst Told (sym same) (rw (le-ltb (4 * f.bad) (length ws) (omega arith), e)
          (ap (λ (t' : Terminals). record { refusal = 25; row = 0; nonterminal = t.nonterminal; lo = t'.lo; hi = t'.hi }) two))

      missed : ¬ (4 * f.bad < length ws) → (o : Option Missed) → f.missed ≡ o → Told x
      missed h None e = none h e m
      missed h (Some t) e = some h t e

      by : Dec (4 * f.bad < length ws) → Told x
      by (yes h) =
          let same : x ≡ bad-row f.bad = marked-one g rows m (first-bad (is-bad h, fine)) in
          subst Told (sym same) (rw (lt-ltb (4 * f.bad) (length ws) h) refl)
      by (no h) = missed h f.missed refl

-- and then the buffers are wiped
pub rows-marked : {limit c : ℕ} {table : List ℕ} {u : Layout} {links : Links} {κ : List ℕ} {R S : ℕ} → Given limit c table u links R S → Known limit c (grammar_of table) κ
    → {ws result scratch result₁ scratch₁ result₂ scratch₂ : List ℕ} {f : Found} {r : Record} → AllFound c (grammar_of table) u κ ws f result scratch result₁ scratch₁
    → r ≡ told_of (length ws) f → Wiped c (grammar_of table) result₁ scratch₁ result₂ scratch₂ → RowsMarked c (grammar_of table) ws result scratch r result₂ scratch₂
rows-marked {c = c} {table = table} given known {result = result} {scratch = scratch} {result₁ = result₁} {scratch₁ = scratch₁} a e v = record {
  answer = λ x m. e ∙ told-right given known a.found x m;
  wiped-again = record {
    result_words = wiped-on (result_needs c (grammar_of table)) result result₁ a.beyond.result-beyond v.result_words;
    scratch-words = wiped-on (scratch_needs c (grammar_of table)) scratch scratch₁ a.beyond.scratch-beyond v.scratch-words;
  };
}

-- ---- the whole call

module _ (limit c : ℕ) (table result scratch result₁ scratch₁ : List ℕ) (d : Needed) (answers : Answered limit c table result scratch d result₁ scratch₁) {x : ℕ} (first : x ≡ first_refusal d.refusal d.refusals) where
  -- a refusal of K3 is passed on
  pub call-refused : (rows : List ℕ) → (x ≡ 0 → ⊥) → Promised limit c table rows result scratch (record { refusal = x; row = 0; nonterminal = 0; lo = 0; hi = 0 }) result₁ scratch₁
  unfolding record_of mark
  call-refused rows ne = by (how limit c table result scratch result₁ scratch₁ d answers first)
    where
      by : Onward limit c table (length result) (length scratch) d.ks x → Promised limit c table rows result scratch (record { refusal = x; row = 0; nonterminal = 0; lo = 0; hi = 0 }) result₁ scratch₁
      by (refused-whole n e) = record { answer = rw e refl; result_words = answers.result_words; scratch-words = answers.scratch-words }
      by (refused-one w n A l e low) =
          let q : all_decided (answers_of limit c table) ≡ refused x = lowest-refused (answers_of limit c table) A x l e low in
          record { answer = rw (w.called, q) refl; result_words = answers.result_words; scratch-words = answers.scratch-words }
      by (goes_on w z k) = absurd (ne z)

  module _ (z : x ≡ 0) where
    -- without one the result is wiped
    pub call-before : {u : Layout} {links : Links} {R S : ℕ} → Given limit c table u links R S → Before (grammar_of table) u 0 result₁
    call-before {u} given =
        let w = call-reached limit c table result scratch result₁ scratch₁ d answers first z in
        let N : ℕ = u.sets * u.b in
        let e : result₁ ≡ wiped N result = (buffers-wiped limit c table result scratch d answers w).0 ∙ ap (λ (m : ℕ). wiped m result) (sym (sized-needs given.sized)) in
        let again : result₁ ≡ wiped N result₁ = e ∙ sym (wiped-again N result result₁ (ap (drop N) e)) in
        record { at = 0; store = wiped-stored given (call_known limit c table result scratch result₁ scratch₁ d answers first z) result₁ again; zero = λ _. again }

    -- no nonterminal is refused
    none-refused : {y : ℕ} → ¬ LowestRefused limit c table (length result) (length scratch) y
    none-refused r =
        let w = call-reached limit c table result scratch result₁ scratch₁ d answers first z in
        let same : answers_of limit c table ≡ r.answers_of = got-inj (sym w.called ∙ r.called) in
        let inside : r.A < (grammar_of table).n = let l = r.inside in let m = ap length same in omega (arith, answers-length w.on) in
        let (e, q, k) = needed-decided c (grammar_of table) r.A limit _ ((call_known limit c table result scratch result₁ scratch₁ d answers first z).each r.A inside) in
        not-got (sym (ap (λ (l : List (Answer Decided)). get_or l r.A (refused 0)) same ∙ r.refuses) ∙ answer_at w.on r.A inside ∙ q)

    -- the outcome is that of the definition
    pub call-marked : {rows : List ℕ} {r : Record} {result₂ scratch₂ : List ℕ} → RowsMarked c (grammar_of table) rows result₁ scratch₁ r result₂ scratch₂ → Promised limit c table rows result scratch r result₂ scratch₂
    call-marked {rows} {r} done =
        let (R, S) = wiped-after limit c table result scratch result₁ scratch₁ d answers first z done.wiped-again in
        record {
          answer = by (mark limit c table (length result) (length scratch) (rows_in (width_in table) rows)) (mark-all limit c table (length result) (length scratch) (rows_in (width_in table) rows));
          result_words = R;
          scratch-words = S;
        }
      where
        by : (m : Answer Marking) → CallMarked limit c table (length result) (length scratch) (rows_in (width_in table) rows) m → r ≡ record_of (width_in table) m
        by m (mark-refused e) = not-got (sym e ∙ (call-reached limit c table result scratch result₁ scratch₁ d answers first z).called)
        by m (one-refused l) = absurd (none-refused l)
        by m (marked-as {g = h} {x = y} all reads q) =
            done.answer y (subst (λ (h : Grammar). Marked h (rows_in (width_in table) rows) y)
            (one-grammar table reads (reads-grammar (call-reached limit c table result scratch result₁ scratch₁ d answers first z).on)) q)

-- ---- a refusal that is passed on

-- it is one of `needed_k`, for the whole call or for a nonterminal
pub passed-below : (limit c : ℕ) (table result scratch result₁ scratch₁ : List ℕ) (d : Needed) (answers : Answered limit c table result scratch d result₁ scratch₁) {x : ℕ} (first : x ≡ first_refusal d.refusal d.refusals)
    → (x ≡ 0 → ⊥) → x ≤ 22
passed-below limit c table result scratch result₁ scratch₁ d answers {x} first some = by (how limit c table result scratch result₁ scratch₁ d answers first)
  where
    by : Onward limit c table (length result) (length scratch) d.ks x → x ≤ 22
    by (refused-whole n e) = let b = whole-between limit c table (length result) (length scratch) x e in omega (arith, b.1)
    by (refused-one w n A l e f) =
        let lowest : LowestRefused limit c table (length result) (length scratch) x = record { answers_of = answers_of limit c table; called = w.called; A = A; inside = l; refuses = e; lowest = f } in
        ⊎_elim (λ (q : x ≡ 11). omega (arith, q)) (λ (q : x ≡ 22). omega (arith, q)) (one-between limit c table (length result) (length scratch) x lowest)
    by (goes_on w q k) = absurd (some q)
