-- What a call that goes on from the answers knows: how it goes on, with which buffers, which k there are, what stands in the buffers once they are wiped
-- again, and which refusals it may pass on. Assumes nothing.
use Prim.Native.Nat.{ℕ, ◌+◌, ◌*◌, ◌<◌}
use native.Mathlib.Omega.{arith}
use mathlib.Core.Path.{◌≡◌, refl, sym, ap, ◌∙◌, subst}
use mathlib.Core.Logic.{◌⊎◌, inl, inr}
use mathlib.Core.List.{List, ◌++◌, map}
use lib.ListN.{length, get_or, drop, replicate, length-map, get_or-map}
use lib.Dec.{eqb}
use borrow.Author.Tests.{ne_eqb}
use Rattle.refusals.specs.Numbers.{number}
use Rattle.refusals.specs.declared.Refusal.{Refusal}
use Rattle.refusals.proofs.Numbers.{number-positive}
use Rattle.cfg.specs.Grammar.{Grammar}
use Rattle.cfg.specs.Reading.{got as read}
use Rattle.cfg.specs.Table.{read_table}
use Rattle.cfg.specs.Accept.{accept_table, test_refusal}
use Rattle.cfg.proofs.Sound.{then-inverse, pick-inverse}
use Rattle.k_tuples.specs.Work.{Answer, got, refused}
use Rattle.k_tuples.proofs.Work.{not-got, got-inj}
use Rattle.analysis.specs.Analysis.{result_needs, scratch_needs}
use Rattle.analysis.specs.Promises.{Between}
use Rattle.engine.specs.Call.{result_needed, scratch_needed, wiped}
use Rattle.engine.proofs.Wiping.{wiped-beyond}
use Rattle.decision_theory.specs.Needed.{Reads, only_k, needed_k, decisions, needed_ks, Answered, one-production, serves, passed_on, own-set, none-serves, CallAnswered}
use Rattle.decision_theory.specs.Automaton.{LowestRefused}
use Rattle.decision_theory.proofs.Needed.{answered}
use Rattle.decision_theory.proofs.Kept.{needed-answered}
use Rattle.decision.specs.declared.Links.{Links}
use Rattle.decision.specs.declared.Layout.{Layout}
use Rattle.decision.specs.Call.{Record, words_after, Promised}
use Rattle.decision.specs.Steps.{grammar_of, OnTable, Given}
use Rattle.decision.specs.Onward.{first_refusal, Known, Prepared, Wiped}
use Rattle.decision.proofs.Answering.{table-ok, sized-needs, sized-spare, result-needed, scratch-needed}
use Rattle.decision.proofs.Going.{Reached, Onward, onward, buffers-wiped, refused-whole, refused-one, goes_on}

-- buffers of the same lengths are given too
pub regiven : {limit c : ℕ} {table : List ℕ} {u : Layout} {links : Links} {m n m' n' : ℕ} → Given limit c table u links m n → m' ≡ m → n' ≡ n → Given limit c table u links m' n'
regiven given e f = rw (e, f) given

-- a table that was accepted is read as its grammar
pub reads-grammar : {limit c : ℕ} {table : List ℕ} → OnTable limit c table → Reads table (grammar_of table)
unfolding accept_table
reads-grammar {table = table} on =
    let (g, x, r, p) = then-inverse (read_table table) _ on.reads in
    let (ok, same) = pick-inverse (eqb (test_refusal g.productions g.n) 0) g x (test_refusal g.productions g.n) p in
    (x, r ∙ ap (λ (h : Grammar). read h x) same)

-- every k is at most 10
pub at-most-ten : {limit c : ℕ} {table ks : List ℕ} → OnTable limit c table → Known limit c (grammar_of table) ks → (A : ℕ) → A < (grammar_of table).n → get_or ks A 0 < 11
at-most-ten {limit} {c} {table} {ks} on known A h = by (needed_k c (grammar_of table) A limit) (known.each A h) (answered (grammar_of table) (table-ok on) c on.c>0 A limit)
  where
    by : (x : Answer ℕ) → x ≡ got (get_or ks A 0) → Answered (grammar_of table) c limit A x → get_or ks A 0 < 11
    by x e (one-production o) = let q : 0 ≡ get_or ks A 0 = got-inj e in omega arith
    by x e (serves n b low w s) = let q = got-inj e in let l = b.1 in let t = on.limit<11 in omega arith
    by x e (passed_on n b low o) = not-got e
    by x e (own-set n b low enough o) = not-got e
    by x e (none-serves n low) = not-got e

-- ---- the buffers

-- what is wiped is what the engine needs
pub wiped-both : {limit c : ℕ} {table : List ℕ} {u : Layout} {links : Links} {m s : ℕ} {result scratch result' scratch' : List ℕ} → Given limit c table u links m s
    → result' ≡ wiped (u.sets * u.b) result → scratch' ≡ wiped ((2 * u.n + 4) * u.b) scratch → Wiped c (grammar_of table) result scratch result' scratch'
wiped-both {result = result} {scratch = scratch} given e f = record {
  result_words = e ∙ ap (λ (m : ℕ). wiped m result) (sized-needs given.sized);
  scratch-words = f ∙ ap (λ (m : ℕ). wiped m scratch) (sized-spare given.sized);
}

-- words that were worked in are wiped as they came
pub wiped-on : (N : ℕ) (ws ws₁ : List ℕ) {ws₂ : List ℕ} → drop N ws₁ ≡ drop N ws → ws₂ ≡ wiped N ws₁ → ws₂ ≡ wiped N ws
wiped-on N ws ws₁ b e = e ∙ ap (λ (l : List ℕ). replicate N 0 ++ l) b

-- ---- how the call goes on

-- a refusal of the whole call is the first
pub first-of-call : (e : Refusal) (each : List ℕ) → number e ≡ first_refusal (number e) each
unfolding first_refusal
first-of-call e each = rw (ne_eqb (number e) 0 (λ (z : number e ≡ 0). omega (arith, number-positive e)))

module _ (limit c : ℕ) (table result scratch result₁ scratch₁ : List ℕ) (d : Record) (answers : Promised limit c table result scratch d result₁ scratch₁) {x : ℕ} (first : x ≡ first_refusal d.refusal d.refusals) where
  -- by the first refusal
  pub how : Onward limit c table (length result) (length scratch) d.ks x
  how = subst (Onward limit c table (length result) (length scratch) d.ks) (sym first) (onward limit c table result scratch d answers)

  module _ (z : x ≡ 0) where
    -- without one every k is known,
    pub call_known : Known limit c (grammar_of table) d.ks
    call_known = by how
      where
        by : Onward limit c table (length result) (length scratch) d.ks x → Known limit c (grammar_of table) d.ks
        by (refused-whole n e) = absurd (n z)
        by (refused-one w n A l e low) = absurd (n z)
        by (goes_on w q k) = k

    -- the tests of the call are passed,
    pub call-reached : Reached limit c table (length result) (length scratch)
    call-reached = by how
      where
        by : Onward limit c table (length result) (length scratch) d.ks x → Reached limit c table (length result) (length scratch)
        by (refused-whole n e) = absurd (n z)
        by (refused-one w n A l e low) = absurd (n z)
        by (goes_on w q k) = w

    -- and the buffers are given with the plan
    pub call-given : {u : Layout} {links : Links} → Prepared limit c table u links → length result₁ ≡ length result → length scratch₁ ≡ length scratch → Given limit c table u links (length result₁) (length scratch₁)
    call-given p e f = rw (e, f) (p.given (length result) (length scratch) call-reached.result_words call-reached.scratch-words)

    -- buffers that were wiped again are as after the answers
    pub wiped-after : {result₂ scratch₂ : List ℕ} → Wiped c (grammar_of table) result₁ scratch₁ result₂ scratch₂
        → (result₂ ≡ words_after (result_needed c table) result (needed_ks limit c table (length result) (length scratch)))
        × (scratch₂ ≡ words_after (scratch_needed c table) scratch (needed_ks limit c table (length result) (length scratch)))
    unfolding words_after needed_ks
    wiped-after v =
        let w = call-reached in
        let (R, S) = buffers-wiped limit c table result scratch d answers w in
        let N = result_needs c (grammar_of table) in
        let M = scratch_needs c (grammar_of table) in (
          rw (w.called, result-needed w.on) (wiped-on N result result₁ (ap (drop N) R ∙ wiped-beyond N result) v.result_words),
          rw (w.called, scratch-needed w.on) (wiped-on M scratch scratch₁ (ap (drop M) S ∙ wiped-beyond M scratch) v.scratch-words),
        )

-- ---- which refusals K3 gives

module _ (limit c : ℕ) (table : List ℕ) (result scratch : ℕ) where
  -- of the whole call 1 to 10,
  pub whole-between : (x : ℕ) → decisions limit c table result scratch ≡ refused x → Between 1 10 x
  unfolding needed_ks
  whole-between x e = by (needed_ks limit c table result scratch) (rw e refl) (needed-answered limit c table result scratch)
    where
      by : (m : Answer (List (Answer ℕ))) → m ≡ refused x → CallAnswered limit c table result scratch m → Between 1 10 x
      by m q (CallAnswered.bad-limit n) = let z : ◌≡◌ {A = ℕ} 1 x = cc in (omega arith, omega arith)
      by m q (CallAnswered.as-engine {r = y} h b f) = let z : y ≡ x = cc in (omega (arith, b.0), omega (arith, b.1))
      by m q (CallAnswered.each-answered h hc reads ok words size each) = not-got (sym q)

  -- of a nonterminal 11 or 22.
  pub one-between : (x : ℕ) → LowestRefused limit c table result scratch x → (x ≡ 11) ⊎ (x ≡ 22)
  unfolding needed_ks
  one-between x low = by (needed_ks limit c table result scratch) (rw low.called refl) (needed-answered limit c table result scratch)
    where
      kind : {g : Grammar} (y : Answer ℕ) → y ≡ refused x → Answered g c limit low.A y → (x ≡ 11) ⊎ (x ≡ 22)
      kind y e (one-production o) = not-got (sym e)
      kind y e (serves n h none w s) = not-got (sym e)
      kind y e (passed_on n h none o) = let z : ◌≡◌ {A = ℕ} 11 x = cc in inl (sym z)
      kind y e (own-set n h none enough o) = let z : ◌≡◌ {A = ℕ} 11 x = cc in inl (sym z)
      kind y e (none-serves n none) = let z : ◌≡◌ {A = ℕ} 22 x = cc in inr (sym z)

      by : (m : Answer (List (Answer ℕ))) → m ≡ got (map only_k low.answers_of) → CallAnswered limit c table result scratch m → (x ≡ 11) ⊎ (x ≡ 22)
      by m q (CallAnswered.bad-limit n) = not-got q
      by m q (CallAnswered.as-engine h b f) = not-got q
      by m q (CallAnswered.each-answered {ks = ks} h hc reads ok words size each) =
          let same : ks ≡ map only_k low.answers_of = cc in
          let long = ap length same ∙ length-map low.answers_of only_k in
          kind (get_or ks low.A (refused 0)) (ap (λ (l : List (Answer ℕ)). get_or l low.A (refused 0)) same ∙ get_or-map only_k low.answers_of low.A (refused 0) ∙ ap only_k low.refuses) (each low.A (let i = low.inside in omega arith))
