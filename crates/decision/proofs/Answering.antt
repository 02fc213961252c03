-- The engine's calls, k by k, and how the nonterminals then stand. Assumes nothing.
use Prim.Native.Nat.{ℕ, zero, suc, ◌+◌, ◌-◌, ◌*◌, ◌≤◌, ◌<◌}
use native.Mathlib.Nat.{mul-le-mul_right}
use native.Mathlib.Numerals.{add-one}
use native.Mathlib.Omega.{arith}
use mathlib.Core.Path.{◌≡◌, refl, sym, ap, ◌∙◌, subst}
use mathlib.Core.Bool.{Bool, true, false, true≢false, false≢true}
use mathlib.Core.List.{List, [], ◌∷◌, ◌++◌, append-nil}
use borrow.Author.Tests.{le-leb, lt-leb, eqb-true}
use lib.Dec.{eqb, leb}
use lib.ListN.{length, get_or, take, drop, replicate}
use lib.Seq.{drop-drop}
use Rattle.std.specs.Prelude.{Result, Ok, Err, is_err}
use Rattle.refusals.specs.declared.Refusal.{Refusal}
use Rattle.refusals.proofs.Numbers.{number-positive}
use Rattle.engine.specs.declared.Lookahead.{Lookahead}
use Rattle.cfg.specs.Grammar.{Grammar, Accepted}
use Rattle.cfg.proofs.Meaning.{TableRead, accepted}
use Rattle.k_tuples.specs.Work.{Answer, got, refused}
use Rattle.k_tuples.specs.Blocks.{Stored, sets_in, IsStored}
use Rattle.k_tuples.proofs.Blocks.{stored-sets, stored-rest, is-stored}
use Rattle.blocks.proofs.Stores.{zeros-are-stored}
use Rattle.analysis.specs.Analysis.{Analysis, work, analyse, result_needs, scratch_needs}
use Rattle.analysis.proofs.Kept.{answers-right, only-eleven}
use Rattle.engine.specs.Call.{Record as EngineRecord, record_of, answer_of, sets_of, result_needed, scratch_needed, wiped, result_after, scratch_after, Left as Outcome, Promised as Analysed}
use Rattle.engine.proofs.Sets.{sets-kept}
use Rattle.engine.proofs.Asked.{counted, sets-count}
use Rattle.engine.proofs.Wiping.{wiped-beyond}
use Rattle.decision_theory.specs.Needed.{grammar_for}
use Rattle.decision_theory.specs.Steps.{is_open, standing}
use Rattle.decision.specs.declared.Links.{Links}
use Rattle.decision.specs.declared.Layout.{Layout}
use Rattle.decision.specs.Steps.{held, past, Ready, Sized, grammar_of, OnTable, Given, SetsDone, Passing, Told, TriedAt, Beyond, KDone, StandAt, AllDone, Sought}
use Rattle.decision.proofs.Trying.{passed-tried, sets-tried}

-- ---- what the engine returns

-- an error has a number, and an answer has 0
pub engine-err : (r : Result Lookahead Refusal) → is_err r ≡ true → (record_of r).refusal ≡ 0 → ⊥
engine-err (Ok a) e z = false≢true e
engine-err (Err e) _ z = omega (arith, number-positive e)

pub engine-ok : (r : Result Lookahead Refusal) → is_err r ≡ false → (record_of r).refusal ≡ 0
engine-ok (Ok a) _ = refl
engine-ok (Err e) q = absurd (true≢false q)

-- ---- a table that was accepted

module _ {limit c : ℕ} {table : List ℕ} (on : OnTable limit c table) where
  pub table-ok : Accepted (grammar_of table)
  table-ok = (accepted table (grammar_of table) on.next on.reads).0

  pub table-is-read : TableRead (grammar_of table)
  table-is-read = (accepted table (grammar_of table) on.next on.reads).1

  pub result-needed : result_needed c table ≡ result_needs c (grammar_of table)
  unfolding result_needed
  result-needed = rw on.reads

  pub scratch-needed : scratch_needed c table ≡ scratch_needs c (grammar_of table)
  unfolding scratch_needed
  scratch-needed = rw on.reads

  module _ {result scratch : ℕ} (enough : result_needs c (grammar_of table) ≤ result) (spare : scratch_needs c (grammar_of table) ≤ scratch) where
    pub grammar-for : grammar_for c table result scratch ≡ got (grammar_of table)
    unfolding grammar_for
    grammar-for =
        rw (le-leb 1 c on.c>0, le-leb c 1024 on.c<1025, on.reads, le-leb (result_needs c (grammar_of table)) result enough, le-leb (scratch_needs c (grammar_of table)) scratch spare)

    pub analyse-is : (k : ℕ) → 1 ≤ k → k ≤ 10 → analyse k c table result scratch ≡ work k c (grammar_of table)
    unfolding analyse
    analyse-is k k>0 k<11 =
        rw (
          le-leb 1 k k>0,
          le-leb k 10 k<11,
          le-leb 1 c on.c>0,
          le-leb c 1024 on.c<1025,
          on.reads,
          le-leb (result_needs c (grammar_of table)) result enough,
          le-leb (scratch_needs c (grammar_of table)) scratch spare,
        )

-- ---- one call of the engine

-- the words of the layout's sets are those that are needed
pub sized-needs : {c : ℕ} {g : Grammar} {u : Layout} → Sized c g u → u.sets * u.b ≡ result_needs c g
sized-needs s = rw (s.all, s.b)

pub sized-spare : {c : ℕ} {g : Grammar} {u : Layout} → Sized c g u → (2 * u.n + 4) * u.b ≡ scratch_needs c g
sized-spare s = rw (s.n, s.b)

-- the first block is among the words that are needed
block-spare : {c : ℕ} {g : Grammar} {u : Layout} → Sized c g u → u.b ≤ scratch_needs c g
block-spare {c} {g} {u} s =
    let one : 1 ≤ 2 * u.n + 4 = omega arith in
    let l : 1 * u.b ≤ (2 * u.n + 4) * u.b = mul-le-mul_right u.b one in
    subst (λ (m : ℕ). u.b ≤ m) (sized-spare s) (omega arith)

module _ {limit c : ℕ} {table : List ℕ} {u : Layout} {links : Links} {result scratch : List ℕ} (given : Given limit c table u links (length result) (length scratch)) {k : ℕ} (k>0 : 1 ≤ k) (k<11 : k ≤ 10)
    {l : EngineRecord} {result₁ scratch₁ : List ℕ} (call : Analysed k c table result scratch l result₁ scratch₁) where
  abbrev g : Grammar
  g = grammar_of table

  abbrev N : ℕ
  N = result_needs c g

  abbrev M : ℕ
  M = scratch_needs c g

  outcome : Outcome (work k c g) k c N M result scratch l result₁ scratch₁
  outcome = rw (analyse-is given.on given.result_words given.scratch-words k k>0 k<11, result-needed given.on, scratch-needed given.on) at call

  -- it was refused
  refusal-eleven : (l.refusal ≡ 0 → ⊥) → (work k c g ≡ refused 11) × ((result₁ ≡ wiped N result) × (scratch₁ ≡ wiped M scratch))
  unfolding answer_of result_after scratch_after
  refusal-eleven n = by (work k c g) refl outcome
    where
      by : (m : Answer Analysis) → work k c g ≡ m → Outcome m k c N M result scratch l result₁ scratch₁ → (work k c g ≡ refused 11) × ((result₁ ≡ wiped N result) × (scratch₁ ≡ wiped M scratch))
      by (refused e) w o =
          let q : e ≡ 11 = only-eleven g k c (table-ok given.on) k>0 given.on.c>0 e w in
          let late : leb e 10 ≡ false = lt-leb e 10 (omega arith) in
          (w ∙ ap refused q, (o.result_words ∙ rw late, o.scratch-words ∙ rw late))
      by (got a) w o = absurd (n (ap (λ (x : EngineRecord). x.refusal) o.answer))

  pub engine-refused : (l.refusal ≡ 0 → ⊥) → {ρ ρ' : List ℕ} (κ : List ℕ) → Passing u.n ρ ρ' → KDone c g k ρ κ ρ' κ result scratch result₁ scratch₁
  engine-refused n κ p =
      let (w, (r, s)) = refusal-eleven n in
      record {
        tried = passed-tried c g k κ given.sized.n w p;
        beyond = record { result-beyond = ap (drop N) r ∙ wiped-beyond N result; scratch-beyond = ap (drop M) s ∙ wiped-beyond M scratch };
      }

  -- what the definition works out is not refused
  pub engine-works : (a : Analysis) → work k c g ≡ got a → l.refusal ≡ 0
  unfolding answer_of
  engine-works a w = let o : Outcome (got a) k c N M result scratch l result₁ scratch₁ = rw w at outcome in ap (λ (x : EngineRecord). x.refusal) o.answer

  -- it was not: the sets stand in the result, and the scratch is zero
  pub record Sets (a : Analysis) : Type 0 where
    pub works : work k c g ≡ got a
    pub stored : Stored k a.width u.b (sets_of a) (drop N result) result₁
    pub many : u.sets ≡ length (sets_of a)
    pub clean : scratch₁ ≡ wiped M scratch

  pub sets-stand : l.refusal ≡ 0 → (a : Analysis) × Sets a
  unfolding answer_of result_after scratch_after
  sets-stand z = by (work k c g) refl outcome
    where
      by : (m : Answer Analysis) → work k c g ≡ m → Outcome m k c N M result scratch l result₁ scratch₁ → (a : Analysis) × Sets a
      by (refused e) w o =
          let q : e ≡ 11 = only-eleven g k c (table-ok given.on) k>0 given.on.c>0 e w in
          absurd (let n : l.refusal ≡ e = ap (λ (x : EngineRecord). x.refusal) o.answer in omega arith)
      by (got a) w o =
          let is = answers-right g k c (table-ok given.on) k>0 given.on.c>0 a w in (
            a,
            record {
              works = w;
              stored = rw given.sized.b (record { words = o.result_words; kept = sets-kept g k c (table-ok given.on) (table-is-read given.on).terminals k>0 k<11 given.on.c>0 given.on.c<1025 a w });
              many = given.sized.all ∙ sym (sets-count a (counted g k c a is) ∙ rw (is.sizes.n, is.sizes.p, is.sizes.q));
              clean = o.scratch-words;
            },
          )

  module _ (z : l.refusal ≡ 0) where
    zeros-first : (n m : ℕ) (ws : List ℕ) → n ≤ m → take n (replicate m 0 ++ ws) ≡ replicate n 0
    zeros-first zero m ws h = refl
    zeros-first (suc n) zero ws h = absurd (omega arith)
    zeros-first (suc n) (suc m) ws h = ap (λ (xs : List ℕ). 0 ∷ xs) (zeros-first n m ws (omega arith))

    -- both hold sets of the grammar's width
    pub engine-result : (a : Analysis) → Sets a → IsStored k a.width u.b u.sets result₁
    engine-result a s = is-stored s.stored u.sets s.many

    pub engine-work : (a : Analysis) → Sets a → IsStored k a.width u.b 1 (take u.b scratch₁)
    engine-work a s =
        subst (IsStored k a.width u.b 1)
        (let o : 1 * u.b ≡ u.b = omega arith in ap (λ (n : ℕ). replicate n 0 ++ []) o ∙ append-nil (replicate u.b 0) ∙ sym (ap (take u.b) s.clean ∙ zeros-first u.b M (drop M scratch) (block-spare given.sized)))
        (zeros-are-stored k a.width u.b 1 [] (omega (arith, given.sized.b)))

    pub engine-ready : Ready u k result₁ (take u.b scratch₁)
    engine-ready = let (a, s) = sets-stand z in record { width = a.width; result-store = engine-result a s; work-store = engine-work a s; least = k>0; most = k<11 }

    pub engine-block : length scratch₁ ≡ length scratch → u.b ≤ length scratch₁
    engine-block e = omega (arith, block-spare given.sized, given.scratch-words)

    -- the sets of the result are those of the analysis
    pub engine-held : (a : Analysis) → Sets a → held u result₁ ≡ sets_of a
    engine-held a s = ap (λ (n : ℕ). sets_in u.b n result₁) s.many ∙ stored-sets s.stored

    -- the first block of the scratch was worked in, and the sets of the result
    pub engine-beyond : {result₂ scratch₂ : List ℕ} → past u result₂ ≡ past u result₁ → drop u.b scratch₂ ≡ drop u.b scratch₁ → Beyond c g result scratch result₂ scratch₂
    engine-beyond {result₂} {scratch₂} e f =
        let (a, s) = sets-stand z in
        let size = sized-needs given.sized in
        let rest : past u result₁ ≡ drop N result = ap (λ (n : ℕ). drop (n * u.b) result₁) s.many ∙ stored-rest s.stored in
        let far : u.b + (M - u.b) ≡ M = omega (arith, block-spare given.sized) in
        let behind : (ws : List ℕ) → drop M ws ≡ drop (M - u.b) (drop u.b ws) = λ ws. ap (λ (n : ℕ). drop n ws) (sym far) ∙ sym (drop-drop (M - u.b) u.b ws) in
        record {
          result-beyond = ap (λ (n : ℕ). drop n result₂) (sym size) ∙ e ∙ rest;
          scratch-beyond = behind scratch₂ ∙ ap (drop (M - u.b)) f ∙ sym (behind scratch₁) ∙ ap (drop M) s.clean ∙ wiped-beyond M scratch;
        }

    pub engine-tried : {ρ κ ρ' κ' result₂ scratch₂ : List ℕ} → SetsDone u links k ρ κ ρ' κ' result₁ scratch₁ result₂ scratch₂ → KDone c g k ρ κ ρ' κ' result scratch result₂ scratch₂
    engine-tried d =
        let (a, s) = sets-stand z in
        record {
          tried = sets-tried c k g (table-ok given.on) k>0 given.on.c>0 given.on.c<1025 a s.works u given.sized links given.sides (rw (engine-held a s) at d.tried);
          beyond = engine-beyond d.result-beyond d.scratch-beyond;
        }

-- ---- one k after the other

module _ (c : ℕ) (g : Grammar) where
  pub stand-more : {k : ℕ} {ρ κ ρ' κ' : List ℕ} → StandAt c g k ρ κ → TriedAt c g (suc k) ρ κ ρ' κ' → StandAt c g (suc k) ρ' κ'
  unfolding standing
  stand-more {k} s t = record {
    each = λ A h. t.each A h (standing c g A k) (s.each A h);
    others = λ A h. let o = t.others A h in let z = s.others A h in (o.0 ∙ z.0, o.1 ∙ z.1);
    long = (t.long.0 ∙ s.long.0, t.long.1 ∙ s.long.1);
  }

  -- what is not open stays
  stays : (A k d : ℕ) → is_open (standing c g A k) ≡ false → standing c g A (d + k) ≡ standing c g A k
  unfolding standing
  stays A k zero e = let z : 0 + k ≡ k = omega arith in ap (standing c g A) z
  stays A k (suc d) e =
      let z : suc d + k ≡ suc (d + k) = omega arith in
      let same = stays A k d e in
      ap (standing c g A) z ∙ rw (same, e)

  not-open : {ρ κ : List ℕ} {A : ℕ} (x : Answer ℕ) → Told ρ κ A x → ¬ get_or ρ A 0 ≡ 22 → is_open x ≡ false
  not-open (got k) t n = refl
  not-open (refused r) t n = by (eqb r 22) refl
    where
      by : (b : Bool) → eqb r 22 ≡ b → eqb r 22 ≡ false
      by true e = absurd (n (t.refusal ∙ eqb-true r 22 e))
      by false e = e

  pub stand-rest : {k : ℕ} {ρ κ : List ℕ} {n limit : ℕ} → StandAt c g k ρ κ → k ≤ limit → n ≡ g.n → ((A : ℕ) → A < n → ¬ get_or ρ A 0 ≡ 22) → StandAt c g limit ρ κ
  stand-rest {k} {ρ} {κ} {n} {limit} s h en none = record {
    each = λ A l.
        let z : limit - k + k ≡ limit = omega arith in
        let same : standing c g A limit ≡ standing c g A k = ap (standing c g A) (sym z) ∙ stays A k (limit - k) (not-open (standing c g A k) (s.each A l) (none A (omega arith))) in
        rw same (s.each A l);
    others = s.others;
    long = s.long;
  }

-- the loop
pub record Tries (limit c : ℕ) (table : List ℕ) (u : Layout) (links : Links) (result₀ scratch₀ : List ℕ) (k : ℕ) (ρ κ result scratch : List ℕ) : Type 0 where
  pub below : k ≤ limit
  pub given : Given limit c table u links (length result) (length scratch)
  pub done : AllDone c (grammar_of table) k ρ κ result₀ scratch₀ result scratch
  pub result-long : length result ≡ length result₀
  pub scratch-long : length scratch ≡ length scratch₀

pub tries-start : {limit c : ℕ} {table : List ℕ} {u : Layout} {links : Links} {ρ κ : List ℕ} (result scratch : List ℕ) → Given limit c table u links (length result) (length scratch) → StandAt c (grammar_of table) 0 ρ κ
    → Tries limit c table u links result scratch 0 ρ κ result scratch
tries-start result scratch given s = record {
  below = omega arith;
  given = given;
  done = record { stand = s; beyond = record { result-beyond = refl; scratch-beyond = refl } };
  result-long = refl;
  scratch-long = refl;
}

module _ {limit c : ℕ} {table : List ℕ} {u : Layout} {links : Links} {result₀ scratch₀ : List ℕ} {k : ℕ} {ρ κ result scratch : List ℕ} (w : Tries limit c table u links result₀ scratch₀ k ρ κ result scratch) where
  pub tries-more : {j : ℕ} {ρ' κ' result' scratch' : List ℕ} → j ≡ k + 1 → j ≤ limit → KDone c (grammar_of table) j ρ κ ρ' κ' result scratch result' scratch' → length result' ≡ length result → length scratch' ≡ length scratch
      → Tries limit c table u links result₀ scratch₀ j ρ' κ' result' scratch'
  tries-more {j} {ρ'} {κ'} {result'} {scratch'} is h d e f =
      let next : j ≡ suc k = is ∙ add-one k in
      record {
        below = h;
        given = rw (e, f) w.given;
        done = record {
          stand = rw next (stand-more c (grammar_of table) w.done.stand (rw next at d.tried));
          beyond = record { result-beyond = d.beyond.result-beyond ∙ w.done.beyond.result-beyond; scratch-beyond = d.beyond.scratch-beyond ∙ w.done.beyond.scratch-beyond };
        };
        result-long = e ∙ w.result-long;
        scratch-long = f ∙ w.scratch-long;
      }

  pub tries-end : limit ≤ k → AllDone c (grammar_of table) limit ρ κ result₀ scratch₀ result scratch
  tries-end h = let same : k ≡ limit = omega (arith, w.below) in subst (λ (m : ℕ). AllDone c (grammar_of table) m ρ κ result₀ scratch₀ result scratch) same w.done

  pub tries-none : {b : Bool} → Sought u.n ρ b → b ≡ false → AllDone c (grammar_of table) limit ρ κ result₀ scratch₀ result scratch
  tries-none s e = record { stand = stand-rest c (grammar_of table) w.done.stand w.below w.given.sized.n (s.none e); beyond = w.done.beyond }
